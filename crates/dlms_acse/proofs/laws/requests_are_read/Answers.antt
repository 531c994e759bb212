use Rattle.dlms_acse.proofs.Apdus.{requests_read}
use Rattle.dlms_acse.proofs.laws.requests_are_read.Goals as goal

pub returns : goal.returns
returns c = requests_read
