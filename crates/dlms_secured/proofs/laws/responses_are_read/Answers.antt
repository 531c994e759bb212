use Rattle.dlms_secured.proofs.Sizes.{responses_are_read}
use Rattle.dlms_secured.proofs.laws.responses_are_read.Goals as goal

pub returns : goal.returns
returns c = responses_are_read
