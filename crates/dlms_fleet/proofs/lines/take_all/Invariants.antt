use Rattle.dlms_fleet.proofs.Serving.{Taken}
use Rattle.dlms_fleet.proofs.lines.take_all.Given as goal

abbrev pub invariant-loop-taken : goal.invariant-loop-taken
invariant-loop-taken g l = Taken g.T.Job.steps l._taken (g.L.Lines.past l.fn.lines) (g.L.Lines.past l.lines) l.fn.fleet l.fleet
