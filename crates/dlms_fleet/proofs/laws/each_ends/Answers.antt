use Rattle.dlms_fleet.proofs.Ends.{ends_by_its_steps, ends_in_time, ends_once}
use Rattle.dlms_fleet.proofs.laws.each_ends.Goals as goal

pub returns-clause-once : goal.returns-clause-once
returns-clause-once g c = ends_once g.T.Job.steps

pub returns-clause-in_time : goal.returns-clause-in_time
returns-clause-in_time g c = ends_in_time g.T.Job.steps

pub returns-clause-by_its_steps : goal.returns-clause-by_its_steps
returns-clause-by_its_steps g c = ends_by_its_steps g.T.Job.steps
