use Rattle.dlms_acse.proofs.Inside.{secret_read}
use Rattle.dlms_acse.proofs.laws.secrets_are_read.Goals as goal

pub returns : goal.returns
returns c = secret_read
