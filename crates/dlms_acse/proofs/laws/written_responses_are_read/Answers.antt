use Rattle.dlms_acse.proofs.Again.{written_responses_read}
use Rattle.dlms_acse.proofs.laws.written_responses_are_read.Goals as goal

pub returns : goal.returns
returns c = written_responses_read
