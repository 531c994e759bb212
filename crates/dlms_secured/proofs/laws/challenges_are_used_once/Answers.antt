use Rattle.dlms_carrier.specs.Carrying.{meaning}
use Rattle.dlms_secured.proofs.Once.{used_once}
use Rattle.dlms_secured.proofs.laws.challenges_are_used_once.Goals as goal

pub returns : goal.returns
returns g c = used_once (meaning g.C.Carrier.steps g.C.Carrier.out_of g.C.Carrier.apdu_of g.C.Carrier.is_waiting)
