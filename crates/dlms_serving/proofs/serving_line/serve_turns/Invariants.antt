use Rattle.dlms_serving.specs.Connection.{log, timed}
use Rattle.dlms_serving.specs.ServingLine.{ServesTurns}
use Rattle.dlms_serving.specs.Carrying.{Made}
use Rattle.dlms_serving.proofs.serving_line.serve_turns.Given as goal

abbrev pub invariant-turns : goal.invariant-turns
invariant-turns g l =
    ServesTurns l.fn.device l.fn.rules (log (g.T.End.past l.fn.line) (g.W.Watch.seen l.fn.server.watch)) (timed l.fn.meter l.fn.server.ticks) l._turn (log (g.T.End.past l.line) (g.W.Watch.seen l.server.watch)) (timed l.meter l.server.ticks)
    × Made l.fn.rules.carrier l.fn.meter l.meter
