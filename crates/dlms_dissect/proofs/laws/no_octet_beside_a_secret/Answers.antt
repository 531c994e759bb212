use Rattle.dlms_dissect.proofs.OpenlyLemmas.{closed-left}
use Rattle.dlms_dissect.proofs.laws.no_octet_beside_a_secret.Goals as goal

pub returns : goal.returns
returns c = λ known steps behind next octets rest left before t count leaves read is closed. closed-left known steps behind next octets rest left before t count leaves read is closed
