use Rattle.dlms_carrier.specs.Carrying.{meaning}
use Rattle.dlms_secured.proofs.Sharing.{passed_on, passes_on}
use Rattle.dlms_secured.proofs.laws.passed_on.Goals as goal

pub returns : goal.returns
returns g c = record {
  only = passed_on (meaning g.C.Carrier.steps g.C.Carrier.out_of g.C.Carrier.apdu_of g.C.Carrier.is_waiting);
  each = passes_on (meaning g.C.Carrier.steps g.C.Carrier.out_of g.C.Carrier.apdu_of g.C.Carrier.is_waiting);
}
