use Rattle.dlms_serving.specs.Connection.{log, timed}
use Rattle.dlms_serving.proofs.ConnectionLemmas.{Under}
use Rattle.dlms_serving.proofs.talking.Server.talk.Given as goal

abbrev pub invariant-rounds : goal.invariant-rounds
invariant-rounds g l =
    Under l.fn.rules (log (g.T.End.past l.fn.stream) (g.W.Watch.seen l.fn.self.watch)) (log (g.T.End.past l.stream) (g.W.Watch.seen l.self.watch)) (timed l.fn.meter l.fn.self.ticks) (timed l.meter l.self.ticks) l.state l._round
