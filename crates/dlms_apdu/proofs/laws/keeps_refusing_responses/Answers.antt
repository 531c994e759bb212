use Rattle.dlms_apdu.proofs.WholeLaws.{keeps_refusing_responses}
use Rattle.dlms_apdu.proofs.laws.keeps_refusing_responses.Goals as goal

pub returns : goal.returns
returns c = keeps_refusing_responses
