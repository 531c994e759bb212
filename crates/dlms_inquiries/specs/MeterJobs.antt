-- The job of a seat: a poll, or requests.
use Rattle.std.specs.Prelude.{◌≡◌, ℕ, List, Option, Box}
use Rattle.std.specs.declared.alloc.Global.{Global}
use Rattle.dlms_carrier.specs.declared.any.Route.{Route}
use Rattle.dlms_ends.specs.PollEnds.{IsNew, IsPolledOver, PollEndValue}
use Rattle.dlms_ends.specs.declared.fault.RunFault.{RunFault}
use Rattle.dlms_fleet.specs.Inputs.{Input}
use Rattle.dlms_fleet.specs.Numbers.{HandsBack, NumberedSteps, numbered}
use Rattle.dlms_fleet.specs.Runs.{Event, FleetRun}
use Rattle.dlms_fleet.specs.Seats.{FleetValue}
use Rattle.dlms_fleet.specs.declared.job.JobStep.{JobStep}
use Rattle.dlms_fleet.specs.declared.job.JobStep.TheVariants as taken
use Rattle.dlms_fleet.specs.declared.numbered.Numbered.{Numbered}
use Rattle.dlms_fleet.specs.declared.running.Outcome.TheVariants as outcome
use Rattle.dlms_headend.specs.CarrierPollValue.{TermsValue}
use Rattle.dlms_jobs.specs.PollJobs.{JobSteps as PollSteps}
use Rattle.dlms_secured.specs.Guard.{GuardValue}
use Rattle.dlms_inquiries.specs.Attributes.{AttributesFollow}
use Rattle.dlms_inquiries.specs.ClockScripts.{ClockFollows}
use Rattle.dlms_inquiries.specs.Inquiries.{JobSteps, Sent}
use Rattle.dlms_inquiries.specs.Questions.{QuestionsFollow}
use Rattle.dlms_inquiries.specs.declared.fault.InquiryFault.{InquiryFault}
use Rattle.dlms_inquiries.specs.declared.meter_job.JobFault.{JobFault}
use Rattle.dlms_inquiries.specs.declared.meter_job.JobFault.TheVariants as fault
use Rattle.dlms_inquiries.specs.declared.meter_job.MeterJob.{MeterJob}
use Rattle.dlms_inquiries.specs.declared.meter_job.MeterJob.TheVariants.{Poll, Text, Values, Clock}

-- the step of a poll, and of requests, as that of a meter's job
abbrev pub of_poll : JobStep Sent RunFault → JobStep Sent JobFault
of_poll taken.Nothing = taken.Nothing
of_poll (taken.Sends message) = taken.Sends message
of_poll taken.Done = taken.Done
of_poll (taken.Fails why) = taken.Fails (fault.Poll why)

abbrev pub of_inquiry : JobStep Sent InquiryFault → JobStep Sent JobFault
of_inquiry taken.Nothing = taken.Nothing
of_inquiry (taken.Sends message) = taken.Sends message
of_inquiry taken.Done = taken.Done
of_inquiry (taken.Fails why) = taken.Fails (fault.Ask why)

-- a meter's job takes the steps of the poll, or of the requests, that it is
abbrev pub MeterSteps : MeterJob → Input → JobStep Sent JobFault → MeterJob → Type 0
MeterSteps (Poll old) at step (Poll new) = (own : JobStep Sent RunFault)
    × PollSteps old.value at own new.value × (step ≡ of_poll own)
MeterSteps (Poll old) at step (Text new) = ⊥
MeterSteps (Poll old) at step (Values new) = ⊥
MeterSteps (Poll old) at step (Clock new) = ⊥
MeterSteps (Text old) at step (Text new) = (own : JobStep Sent InquiryFault)
    × JobSteps QuestionsFollow old.value at own new.value × (step ≡ of_inquiry own)
MeterSteps (Text old) at step (Poll new) = ⊥
MeterSteps (Text old) at step (Values new) = ⊥
MeterSteps (Text old) at step (Clock new) = ⊥
MeterSteps (Values old) at step (Values new) = (own : JobStep Sent InquiryFault)
    × JobSteps AttributesFollow old.value at own new.value × (step ≡ of_inquiry own)
MeterSteps (Values old) at step (Poll new) = ⊥
MeterSteps (Values old) at step (Text new) = ⊥
MeterSteps (Values old) at step (Clock new) = ⊥
MeterSteps (Clock old) at step (Clock new) = (own : JobStep Sent InquiryFault)
    × JobSteps ClockFollows old.value at own new.value × (step ≡ of_inquiry own)
MeterSteps (Clock old) at step (Poll new) = ⊥
MeterSteps (Clock old) at step (Text new) = ⊥
MeterSteps (Clock old) at step (Values new) = ⊥

-- the poll of the meter with this number
abbrev pub poll_of : ℕ → Box PollEndValue Global → Numbered MeterJob
poll_of number poll = numbered number (Poll poll)

-- A new poll that was started on a seat, and that the seat handed back as done, has the number that it was started with, and polled its
-- meter: its rows are those that the meter's answers spell.
abbrev pub DoneIsAPoll : Type 0
DoneIsAPoll = (route : Route) (terms : TermsValue) (guard : Option GuardValue)
    (old new : FleetValue (Numbered MeterJob))
    (events : List (Event (Numbered MeterJob) Sent JobFault)) (seat number number' : ℕ)
    (job result : Box PollEndValue Global)
    → FleetRun (NumberedSteps MeterSteps) old events new → IsNew route terms guard job.value
    → HandsBack seat events (poll_of number job) outcome.Done (poll_of number' result)
    → (number' ≡ number) × IsPolledOver route terms guard result.value
