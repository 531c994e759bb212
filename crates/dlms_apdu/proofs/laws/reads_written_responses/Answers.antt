use Rattle.dlms_apdu.proofs.WholeLaws.{reads_written_responses}
use Rattle.dlms_apdu.proofs.laws.reads_written_responses.Goals as goal

pub returns : goal.returns
returns c = reads_written_responses
