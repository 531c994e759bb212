use Rattle.std.proofs.Common.{◌≡◌, length}
use Rattle.dlms_call.proofs.TalkingLemmas.{SoFar}
use Rattle.dlms_call.proofs.client_end.ClientEnd.take.Given as goal

abbrev pub invariant-calls : goal.invariant-calls
invariant-calls g l = SoFar l.fn.most (g.W.End.past l.fn.end) (g.W.End.past l.end) l.fn.self.client l.fn.bytes l.self.client l.rest l.last × (l.self.left ≡ l.fn.self.left)

abbrev pub decreases-calls : goal.decreases-calls
decreases-calls g l = length l.rest
