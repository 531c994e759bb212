use Rattle.dlms_apdu.proofs.WholeLaws.{reads_responses}
use Rattle.dlms_apdu.proofs.laws.reads_responses.Goals as goal

pub returns : goal.returns
returns c = reads_responses
