use Rattle.std.proofs.Common.{ap}
use Rattle.dlms_ends.specs.PollEnds.{PollEndValue}
use Rattle.dlms_jobs.proofs.JobLemmas.{timeout_fault}
use Rattle.dlms_jobs.proofs.poll_job.PollJob.repeat.Goals as goal

pub returns-in-Err-clause-told : goal.returns-in-Err-clause-told
returns-in-Err-clause-told c = timeout_fault _ _ _ _ c.in-Err.fault c.cause.result (ap (λ (t : PollEndValue). t.poll) c.self.view_is) c.cause.ensures c.in-Err.ensures
