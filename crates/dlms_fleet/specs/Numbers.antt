-- Jobs with numbers.
use Rattle.std.specs.Prelude.{◌≡◌, ℕ, List, [], ◌∷◌, ◌++◌}
use Rattle.dlms_fleet.specs.Alone.{LedTo, ends}
use Rattle.dlms_fleet.specs.Example.{Asks, two_ticks}
use Rattle.dlms_fleet.specs.Inputs.{Input}
use Rattle.dlms_fleet.specs.Runs.{Event, FleetRun, Own, own}
use Rattle.dlms_fleet.specs.Runs.Event.{Moves, Starts}
use Rattle.dlms_fleet.specs.Runs.Own.{Started, Moved}
use Rattle.dlms_fleet.specs.RunningJob.{MomentValue}
use Rattle.dlms_fleet.specs.RunningJob.MomentValue.{Connected, Came}
use Rattle.dlms_fleet.specs.Seats.{FleetValue, empty_fleet}
use Rattle.dlms_fleet.specs.declared.fleet.FleetStep.TheVariants as told
use Rattle.dlms_fleet.specs.declared.job.JobStep.{JobStep}
use Rattle.dlms_fleet.specs.declared.numbered.Numbered.{Numbered}
use Rattle.dlms_fleet.specs.declared.running.Outcome.{Outcome}
use Rattle.dlms_fleet.specs.declared.running.Outcome.TheVariants as outcome

-- the job takes its step, and the number stays
abbrev pub NumberedSteps : {T M E : Type 0} → (T → Input → JobStep M E → T → Type 0)
    → Numbered T → Input → JobStep M E → Numbered T → Type 0
NumberedSteps steps old at step new =
    steps old.job at step new.job × (new.number ≡ old.number)

-- Of all that happened on a seat, this job was started, then this happened, and then it was handed back with this outcome.
pub record HandsBack {T M E : Type 0} (seat : ℕ) (events : List (Event T M E)) (job : T)
    (outcome : Outcome E) (result : T)
    : Type 0 where
  pub before : List (Own T M E)
  pub since : List (Own T M E)
  pub at : MomentValue
  pub after : List (Own T M E)
  pub on_seat : own seat events ≡ before ++ Started job ∷
      (since ++ Moved at (told.Ends outcome result) ∷ after)
  pub runs_on : ends since ≡ 0

-- Whatever happens on the other seats: what a seat hands back has the number of the job that was started there, and came from it by its
-- own steps.
abbrev pub KeepsNumbers : {T M E : Type 0} → (T → Input → JobStep M E → T → Type 0) → Type 0
KeepsNumbers {T} {M} {E} steps = (old new : FleetValue (Numbered T))
    (events : List (Event (Numbered T) M E)) (seat : ℕ) (job result : Numbered T)
    (outcome : Outcome E)
    → FleetRun (NumberedSteps steps) old events new → HandsBack seat events job outcome result
    → (result.number ≡ job.number) × LedTo steps job.job outcome result.job

-- ---- an example

abbrev pub numbered : {T : Type 0} → ℕ → T → Numbered T
numbered number job = record { number = number; job = job }

-- jobs 5 and 6 start; the second sends, bytes arrive, and it is done; the first still runs
abbrev pub two_of_them : List (Event (Numbered ℕ) ℕ ℕ)
two_of_them =
    Starts 0 (numbered 5 1) ∷ Starts 1 (numbered 6 2) ∷ Moves 1 Connected (told.Sends 7)
    ∷ Moves 1 (Came (9 ∷ [])) (told.Ends outcome.Done (numbered 6 9)) ∷ []

abbrev pub OneIsDone : Type 0
OneIsDone = (new : FleetValue (Numbered ℕ))
    × FleetRun (NumberedSteps Asks) (empty_fleet two_ticks 2) two_of_them new
    × HandsBack 1 two_of_them (numbered 6 2) outcome.Done (numbered 6 9)
