use Rattle.dlms_fleet.proofs.Frees.{frees_seats}
use Rattle.dlms_fleet.proofs.laws.seats_are_freed.Goals as goal

pub returns : goal.returns
returns g c = frees_seats g.T.Job.steps
