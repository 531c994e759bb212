use Rattle.std.proofs.Common.{Box}
use Rattle.std.specs.declared.alloc.Global.{Global}
use Rattle.dlms_headend.proofs.CarrierRunning.{polls_lead}
use Rattle.dlms_ends.specs.PollEnds.{PollEndValue, means}
use Rattle.dlms_jobs.proofs.DoneLemmas.{polled_on_a_seat}
use Rattle.dlms_jobs.proofs.laws.done_on_a_seat_is_a_poll.Goals as goal

pub returns-clause-job : goal.returns-clause-job
returns-clause-job c = polled_on_a_seat (λ (job : PollEndValue). job) (polls_lead means)

pub returns-clause-boxed : goal.returns-clause-boxed
returns-clause-boxed c = polled_on_a_seat (λ (job : Box PollEndValue Global). job.value) (polls_lead means)
