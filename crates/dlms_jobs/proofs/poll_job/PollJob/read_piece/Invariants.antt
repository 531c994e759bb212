use Rattle.std.proofs.Common.{◌≡◌, length}
use Rattle.dlms_jobs.proofs.JobLemmas.{SoFar}
use Rattle.dlms_jobs.proofs.poll_job.PollJob.read_piece.Given as goal

abbrev pub invariant-calls : goal.invariant-calls
invariant-calls l = SoFar l.fn.out.items l.out.items l.fn.self.poll l.fn.bytes l.self.poll l.rest × (l.self.left ≡ l.fn.self.left)

abbrev pub decreases-calls : goal.decreases-calls
decreases-calls l = length l.rest
