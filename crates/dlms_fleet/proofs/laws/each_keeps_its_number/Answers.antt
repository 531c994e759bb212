use Rattle.dlms_fleet.proofs.Numbers.{keeps_numbers}
use Rattle.dlms_fleet.proofs.laws.each_keeps_its_number.Goals as goal

pub returns : goal.returns
returns g c = keeps_numbers g.T.Job.steps
