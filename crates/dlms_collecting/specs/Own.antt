-- The rows that are filed under the name of a meter of the list: those of its own poll.
use Rattle.std.specs.Prelude.{◌≡◌, ℕ, List, Option, Box}
use Rattle.std.specs.declared.alloc.Global.{Global}
use Rattle.dlms_carrier.specs.declared.any.Route.{Route}
use Rattle.dlms_ends.specs.PollEnds.{IsNew, IsPolledOver, PollEndValue}
use Rattle.dlms_filing.specs.Filing.{PlaceCall}
use Rattle.dlms_filing.specs.Printing.{Printed}
use Rattle.dlms_fleet.specs.Numbers.{HandsBack, NumberedSteps}
use Rattle.dlms_fleet.specs.Runs.{Event, FleetRun}
use Rattle.dlms_fleet.specs.Seats.{FleetValue}
use Rattle.dlms_fleet.specs.declared.numbered.Numbered.{Numbered}
use Rattle.dlms_fleet.specs.declared.running.Outcome.TheVariants as outcome
use Rattle.dlms_headend.specs.CarrierPollValue.{TermsValue}
use Rattle.dlms_headend.specs.declared.row.Row.{Row}
use Rattle.dlms_inquiries.specs.Inquiries.{Sent}
use Rattle.dlms_inquiries.specs.MeterJobs.{MeterSteps, poll_of}
use Rattle.dlms_inquiries.specs.declared.meter_job.JobFault.{JobFault}
use Rattle.dlms_inquiries.specs.declared.meter_job.MeterJob.{MeterJob}
use Rattle.dlms_polling.specs.Keeping.{FilesPolled}
use Rattle.dlms_secured.specs.Guard.{GuardValue}

-- a poll of the meter with this number, over this route, to which nothing has come
pub record IsNewPoll (number : ℕ) (route : Route) (job : Numbered MeterJob) : Type 0 where
  pub poll : Box PollEndValue Global
  pub is_poll : job ≡ poll_of number poll
  pub terms : TermsValue
  pub guard : Option GuardValue
  pub fresh : IsNew route terms guard poll.value

-- The job is a poll of the meter with this number, and its rows were printed and filed.
pub record FilesOwn (number : ℕ) (job : Numbered MeterJob) (asked asked' : Option (List PlaceCall))
    (printed printed' errors errors' : Printed) (before : List Row) : Type 0 where
  pub poll : Box PollEndValue Global
  pub is_poll : job ≡ poll_of number poll
  pub files : FilesPolled asked asked' printed printed' errors errors' before
      poll.value.poll.talk.rows

-- A poll of the meter with this number was started on a seat, over this meter's route, and the seat handed back a job as done, whatever
-- happened on the others. If that one was filed for the meter with another number, the numbers are the same: the rows that were printed
-- and filed are those of this poll, which is done.
abbrev pub WhatIsFiledIsItsOwn : Type 0
WhatIsFiledIsItsOwn = (old new : FleetValue (Numbered MeterJob))
    (events : List (Event (Numbered MeterJob) Sent JobFault)) (seat number filed : ℕ)
    (route : Route) (job result : Numbered MeterJob)
    (asked asked' : Option (List PlaceCall)) (printed printed' errors errors' : Printed)
    (before : List Row)
    → FleetRun (NumberedSteps MeterSteps) old events new → IsNewPoll number route job
    → HandsBack seat events job outcome.Done result
    → FilesOwn filed result asked asked' printed printed' errors errors' before
    → (filed ≡ number) × (terms : TermsValue) × (guard : Option GuardValue) × (poll : PollEndValue)
    × IsPolledOver route terms guard poll
    × FilesPolled asked asked' printed printed' errors errors' before poll.poll.talk.rows
