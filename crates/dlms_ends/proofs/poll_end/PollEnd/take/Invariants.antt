use Rattle.std.proofs.Common.{◌≡◌, length}
use Rattle.dlms_ends.proofs.PollEndLemmas.{SoFar}
use Rattle.dlms_ends.proofs.poll_end.PollEnd.take.Given as goal

abbrev pub invariant-calls : goal.invariant-calls
invariant-calls g l = SoFar (g.W.End.past l.fn.end) (g.W.End.past l.end) l.fn.self.poll l.fn.bytes l.self.poll l.rest × (l.self.left ≡ l.fn.self.left)

abbrev pub decreases-calls : goal.decreases-calls
decreases-calls g l = length l.rest
