use Rattle.dlms_carrier.specs.Carrying.{meaning}
use Rattle.dlms_secured.proofs.Authentic.{opened}
use Rattle.dlms_secured.proofs.laws.opened.Goals as goal

pub returns : goal.returns
returns g c = opened c.accepting.ensures
    (meaning g.C.Carrier.steps g.C.Carrier.out_of g.C.Carrier.apdu_of g.C.Carrier.is_waiting)
