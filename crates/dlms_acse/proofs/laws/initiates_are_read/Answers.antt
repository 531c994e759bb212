use Rattle.dlms_acse.proofs.Initiates.{initiate_read}
use Rattle.dlms_acse.proofs.laws.initiates_are_read.Goals as goal

pub returns : goal.returns
returns c = initiate_read
