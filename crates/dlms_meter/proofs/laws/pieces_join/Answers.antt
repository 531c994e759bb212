use Rattle.dlms_meter.proofs.StepLemmas.{pieces}
use Rattle.dlms_meter.proofs.laws.pieces_join.Goals as goal

pub returns : goal.returns
returns c = pieces
