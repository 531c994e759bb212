use Rattle.std.proofs.Common.{length}
use Rattle.dlms_inquiries.proofs.AskLemmas.{SoFar}
use Rattle.dlms_inquiries.proofs.ask_job.AskJob.read_piece.Given as goal

abbrev pub invariant-calls : goal.invariant-calls
invariant-calls g l = SoFar g.S.Script.follows l.fn.out.items l.out.items l.fn.self l.fn.bytes l.self l.rest

abbrev pub decreases-calls : goal.decreases-calls
decreases-calls g l = length l.rest
