use Rattle.dlms_fleet.proofs.Alone.{each_alone}
use Rattle.dlms_fleet.proofs.laws.each_is_alone.Goals as goal

pub returns : goal.returns
returns g c = each_alone g.T.Job.steps
