use Rattle.dlms_serving.specs.Connection.{timed}
use Rattle.dlms_serving.specs.Serving.{ServesMany}
use Rattle.dlms_serving.specs.Carrying.{Made}
use Rattle.dlms_serving.proofs.serving.serve_all.Given as goal

abbrev pub invariant-connections : goal.invariant-connections
invariant-connections g l =
    ServesMany l.fn.rules (g.W.Watch.seen l.fn.server.watch) (timed l.fn.meter l.fn.server.ticks) l._next (g.W.Watch.seen l.server.watch) (timed l.meter l.server.ticks) × Made l.fn.rules.carrier l.fn.meter l.meter
