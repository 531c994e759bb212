-- The laws of a poll as a job.
use Rattle.std.specs.Prelude.{◌≡◌, ℕ, List, ◌∷◌, ◌++◌, Option, Box}
use Rattle.std.specs.declared.alloc.Global.{Global}
use Rattle.dlms_carrier.specs.declared.any.Route.{Route}
use Rattle.dlms_headend.specs.CarrierPollValue.{TermsValue}
use Rattle.dlms_secured.specs.Guard.{GuardValue}
use Rattle.dlms_ends.specs.PollEnds.{IsNew, IsPolledOver, PollEndValue}
use Rattle.dlms_ends.specs.declared.fault.RunFault.{RunFault}
use Rattle.dlms_fleet.specs.Alone.{EndsWith, JobRun, ends}
use Rattle.dlms_fleet.specs.Inputs.{Input}
use Rattle.dlms_fleet.specs.Runs.{Event, FleetRun, Own, own}
use Rattle.dlms_fleet.specs.Runs.Own.{Started, Moved}
use Rattle.dlms_fleet.specs.RunningJob.{MomentValue}
use Rattle.dlms_fleet.specs.Seats.{FleetValue}
use Rattle.dlms_fleet.specs.declared.fleet.FleetStep.TheVariants as told
use Rattle.dlms_fleet.specs.declared.job.JobStep.{JobStep}
use Rattle.dlms_fleet.specs.declared.job.JobStep.TheVariants as taken
use Rattle.dlms_fleet.specs.declared.running.Outcome.TheVariants as outcome
use Rattle.dlms_jobs.specs.PollJobs.{JobSteps, Sent}

-- A new job that took these steps, the last of which is Done, polled its meter: its rows are those that the meter's answers spell.
abbrev pub DoneIsAPoll : Type 0
DoneIsAPoll = (route : Route) (terms : TermsValue) (guard : Option GuardValue)
    (job result : PollEndValue) (all : List (Input × JobStep Sent RunFault))
    → IsNew route terms guard job → JobRun JobSteps job all result → EndsWith all taken.Done
    → IsPolledOver route terms guard result

-- the steps of a job that is kept in such a value
abbrev pub steps_in : {T : Type 0} → (T → PollEndValue) → T → Input → JobStep Sent RunFault → T
    → Type 0
steps_in value old at step new = JobSteps (value old) at step (value new)

-- Of all that happened on a seat of a fleet, this job was started, then this happened, and then it was handed back as done.
pub record IsDoneOn {T : Type 0} (seat : ℕ) (events : List (Event T Sent RunFault)) (job result : T)
    : Type 0 where
  pub before : List (Own T Sent RunFault)
  pub since : List (Own T Sent RunFault)
  pub at : MomentValue
  pub after : List (Own T Sent RunFault)
  pub on_seat : own seat events ≡ before ++ Started job ∷
      (since ++ Moved at (told.Ends outcome.Done result) ∷ after)
  pub runs_on : ends since ≡ 0

abbrev pub DoneOnASeat : {T : Type 0} → (T → PollEndValue) → Type 0
DoneOnASeat {T} value = (route : Route) (terms : TermsValue) (guard : Option GuardValue)
    (old new : FleetValue T) (events : List (Event T Sent RunFault)) (seat : ℕ) (job result : T)
    → FleetRun (steps_in value) old events new → IsNew route terms guard (value job)
    → IsDoneOn seat events job result → IsPolledOver route terms guard (value result)

-- A new job that was started on a seat, and that the seat handed back as done, polled its meter, whatever happened on the others.
abbrev pub DoneOnASeatIsAPoll : Type 0
DoneOnASeatIsAPoll = DoneOnASeat (λ job. job)

-- the same of a job in a box, as a program runs it
abbrev pub DoneInABoxIsAPoll : Type 0
DoneInABoxIsAPoll = DoneOnASeat (λ (job : Box PollEndValue Global). job.value)
