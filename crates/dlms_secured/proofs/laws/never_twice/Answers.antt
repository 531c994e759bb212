use Rattle.dlms_carrier.specs.Carrying.{meaning}
use Rattle.dlms_secured.proofs.Clear.{never_twice}
use Rattle.dlms_secured.proofs.laws.never_twice.Goals as goal

pub returns : goal.returns
returns g c = never_twice c.over_runs.ensures.never_twice c.over_runs.ensures.fresh
    (meaning g.C.Carrier.steps g.C.Carrier.out_of g.C.Carrier.apdu_of g.C.Carrier.is_waiting)
