use Rattle.std.proofs.Common.{subst}
use Rattle.dlms_fleet.specs.Numbers.{HandsBack}
use Rattle.dlms_fleet.specs.declared.numbered.Numbered.{Numbered}
use Rattle.dlms_fleet.specs.declared.running.Outcome.TheVariants as outcome
use Rattle.dlms_inquiries.specs.MeterJobs.{poll_of}
use Rattle.dlms_inquiries.specs.declared.meter_job.MeterJob.{MeterJob}
use Rattle.dlms_collecting.proofs.laws.what_is_filed_is_its_own.Goals as goal

pub returns : goal.returns
returns c = λ old new events seat number filed route job result asked asked' printed printed' errors errors' before run start back files.
    let own = subst (λ (r : Numbered MeterJob). HandsBack seat events (poll_of number start.poll) outcome.Done r) files.is_poll
    (subst (λ (j : Numbered MeterJob). HandsBack seat events j outcome.Done result) start.is_poll back) in
    let done = c.done_is_a_poll.ensures route start.terms start.guard old new events seat number filed start.poll files.poll run start.fresh own in
    (done.0, start.terms, start.guard, files.poll.value, done.1, files.files)
