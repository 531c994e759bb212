use Rattle.dlms_capture.proofs.Stretches.{nothing_lost_of}
use Rattle.dlms_capture.proofs.laws.nothing_lost.Goals as goal

pub returns : goal.returns
returns c = nothing_lost_of
