use Rattle.dlms_world.proofs.HeadEndStops.{can_stop}
use Rattle.dlms_world.proofs.laws.a_head_end_can_stop.Goals as goal

pub returns : goal.returns
returns c = can_stop
