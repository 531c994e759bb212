use Rattle.dlms_link.proofs.PairLemmas.{addresses_free}
use Rattle.dlms_link.proofs.laws.addresses_are_free.Goals as goal

pub returns : goal.returns
returns c = addresses_free
