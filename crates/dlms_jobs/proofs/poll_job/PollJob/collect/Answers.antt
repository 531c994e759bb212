use Rattle.std.proofs.Common.{◌∙◌, refl, sym}
use Rattle.dlms_jobs.specs.PollJobs.Withholds.{IsInsecure}
use Rattle.dlms_jobs.proofs.poll_job.PollJob.collect.Goals as goal

pub returns-in-Some : goal.returns-in-Some
returns-in-Some c = IsInsecure c.in-Some.fault (sym c.secured_fault.ensures ∙ c.in-Some.is) refl
