use Rattle.dlms_carrier.specs.Carrying.{meaning}
use Rattle.dlms_secured.proofs.Sharing.{guarded_runs}
use Rattle.dlms_secured.proofs.laws.guarded_runs.Goals as goal

pub returns : goal.returns
returns g c = guarded_runs (meaning g.C.Carrier.steps g.C.Carrier.out_of g.C.Carrier.apdu_of g.C.Carrier.is_waiting)
