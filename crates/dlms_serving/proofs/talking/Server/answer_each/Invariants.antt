use Rattle.std.proofs.Common.{ℕ, length}
use Rattle.dlms_serving.specs.Connection.{Goes, log}
use Rattle.dlms_serving.proofs.ConnectionLemmas.{at}
use Rattle.dlms_serving.proofs.talking.Server.answer_each.Given as goal

abbrev pub invariant-loop-rest : goal.invariant-loop-rest
invariant-loop-rest g l =
    (reads : ℕ) → Goes l.fn.rules (log (g.T.End.past l.fn.stream) (g.W.Watch.seen l.fn.self.watch)) (log (g.T.End.past l.stream) (g.W.Watch.seen l.self.watch)) (at l.fn.meter l.fn.self.ticks l.fn.bytes l.fn.state reads) (at l.meter l.self.ticks l.rest l.state reads)

abbrev pub decreases-loop-rest : goal.decreases-loop-rest
decreases-loop-rest g l = length l.rest
