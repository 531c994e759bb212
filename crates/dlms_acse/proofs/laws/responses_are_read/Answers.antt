use Rattle.dlms_acse.proofs.Apdus.{responses_read}
use Rattle.dlms_acse.proofs.laws.responses_are_read.Goals as goal

pub returns : goal.returns
returns c = responses_read
