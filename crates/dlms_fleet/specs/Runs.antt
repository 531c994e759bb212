-- Runs of a fleet, and of one seat in them.
use Rattle.std.specs.Prelude.{◌≡◌, ℕ, true, List, [], ◌∷◌, cond, nat_eq}
use Rattle.dlms_fleet.specs.Inputs.{Input}
use Rattle.dlms_fleet.specs.RunningJob.{MomentValue}
use Rattle.dlms_fleet.specs.Seats.{FleetSteps, FleetValue, is_free, started}
use Rattle.dlms_fleet.specs.declared.fleet.FleetStep.{FleetStep}
use Rattle.dlms_fleet.specs.declared.job.JobStep.{JobStep}

-- A job starts on the seat of this number; the seat of this number has a moment, with this result.
pub data Event (T M E : Type 0) : Type 0 where
  Starts : (number : ℕ) (job : T) → Event T M E
  Moves : (number : ℕ) (at : MomentValue) (result : FleetStep T M E) → Event T M E

abbrev pub FleetDoes : {T M E : Type 0} → (T → Input → JobStep M E → T → Type 0) → FleetValue T
    → Event T M E → FleetValue T → Type 0
FleetDoes steps old (Event.Starts number job) new =
    (is_free old.seats number ≡ true) × (new ≡ started old number job)
FleetDoes steps old (Event.Moves number at result) new = FleetSteps steps old number at result new

-- one event after another, on whichever seats, in whatever order
abbrev pub FleetRun : {T M E : Type 0} → (T → Input → JobStep M E → T → Type 0) → FleetValue T
    → List (Event T M E) → FleetValue T → Type 0
FleetRun steps old [] new = new ≡ old
FleetRun {T} steps old (event ∷ events) new =
    (mid : FleetValue T) × FleetDoes steps old event mid × FleetRun steps mid events new

-- ---- one seat

-- what happens on one seat
pub data Own (T M E : Type 0) : Type 0 where
  Started : (job : T) → Own T M E
  Moved : (at : MomentValue) (result : FleetStep T M E) → Own T M E

-- an event is the seat's own if it has its number
abbrev pub own_of : {T M E : Type 0} → ℕ → Event T M E → List (Own T M E) → List (Own T M E)
own_of seat (Event.Starts number job) rest =
    cond (nat_eq number seat) (Own.Started job ∷ rest) rest
own_of seat (Event.Moves number at result) rest =
    cond (nat_eq number seat) (Own.Moved at result ∷ rest) rest

-- what happened on this seat, in order
abbrev pub own : {T M E : Type 0} → ℕ → List (Event T M E) → List (Own T M E)
own seat [] = []
own seat (event ∷ events) = own_of seat event (own seat events)
