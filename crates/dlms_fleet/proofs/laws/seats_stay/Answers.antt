use Rattle.dlms_fleet.proofs.Alone.{keeps_seats}
use Rattle.dlms_fleet.proofs.laws.seats_stay.Goals as goal

pub returns : goal.returns
returns g c = keeps_seats g.T.Job.steps
