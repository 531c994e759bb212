-- The seats of a fleet. A moment of one seat leads to what its job makes of it alone, and changes no other seat.
use Rattle.std.specs.Prelude.{◌≡◌, ℕ, Bool, true, false, List, Option, Some, None, Result, Ok, Err, get_or, replicate, slice_get, slice_set}
use Rattle.dlms_fleet.specs.Inputs.{Input}
use Rattle.dlms_fleet.specs.RunningJob.{MomentValue, RunningSteps, new_running}
use Rattle.dlms_fleet.specs.declared.fleet.FleetStep.{FleetStep}
use Rattle.dlms_fleet.specs.declared.fleet.FleetStep.TheVariants as told
use Rattle.dlms_fleet.specs.declared.job.JobStep.{JobStep}
use Rattle.dlms_fleet.specs.declared.running.Limits.{Limits}
use Rattle.dlms_fleet.specs.declared.running.Running.{Running}
use Rattle.dlms_fleet.specs.declared.running.Step.{Step}
use Rattle.dlms_fleet.specs.declared.running.Step.TheVariants as step

pub record FleetValue (T : Type 0) : Type 0 where
  pub limits : Limits
  pub seats : List (Option (Running T))

-- this many seats, all of them free
abbrev pub empty_fleet : {T : Type 0} → Limits → ℕ → FleetValue T
empty_fleet limits count = record { limits = limits; seats = replicate count None }

abbrev pub with_seats : {T : Type 0} → FleetValue T → List (Option (Running T)) → FleetValue T
with_seats fleet seats = record fleet { seats = seats }

-- the seat of this number; free if there is none
abbrev pub seat_of : {T : Type 0} → List (Option (Running T)) → ℕ → Option (Running T)
seat_of seats number = get_or seats number None

-- it is there, and no job runs on it
abbrev pub is_empty : {T : Type 0} → Option (Option (Running T)) → Bool
is_empty None = false
is_empty (Some None) = true
is_empty (Some (Some running)) = false

abbrev pub is_free : {T : Type 0} → List (Option (Running T)) → ℕ → Bool
is_free seats number = is_empty (slice_get seats number)

-- ---- a start

-- the seats after a job was started on this one
abbrev pub started : {T : Type 0} → FleetValue T → ℕ → T → FleetValue T
started fleet number job =
    with_seats fleet (slice_set fleet.seats number (Some (new_running fleet.limits job)))

-- the job starts if its seat is free; otherwise it is handed back, and nothing changes
abbrev pub Starts : {T : Type 0} → FleetValue T → ℕ → T → Result (Unit {0}) T → FleetValue T
    → Type 0
Starts old number job (Ok done) new =
    (is_free old.seats number ≡ true) × (new ≡ started old number job)
Starts old number job (Err back) new =
    (is_free old.seats number ≡ false) × (back ≡ job) × (new ≡ old)

-- ---- a moment

-- what comes of a step, and the seat after it: free if the job ended
abbrev pub Keeps : {T M E : Type 0} → Step M E → Running T → FleetStep T M E → Option (Running T)
    → Type 0
Keeps step.Nothing running result new = (result ≡ told.Nothing) × (new ≡ Some running)
Keeps (step.Sends message) running result new =
    (result ≡ told.Sends message) × (new ≡ Some running)
Keeps (step.Ends outcome) running result new =
    (result ≡ told.Ends outcome running.job) × (new ≡ None)

pub record Runs {T M E : Type 0} (steps : T → Input → JobStep M E → T → Type 0) (limits : Limits)
    (old : Running T) (at : MomentValue) (result : FleetStep T M E) (new : Option (Running T))
    : Type 0 where
  pub made : Step M E
  pub running : Running T
  pub runs : RunningSteps steps limits old at made running
  pub keeps : Keeps made running result new

abbrev pub SeatSteps : {T M E : Type 0} → (T → Input → JobStep M E → T → Type 0) → Limits
    → Option (Running T) → MomentValue → FleetStep T M E → Option (Running T) → Type 0
SeatSteps steps limits None at result new = (result ≡ told.Nothing) × (new ≡ None)
SeatSteps steps limits (Some running) at result new = Runs steps limits running at result new

-- the seat takes its step, and nothing else changes
pub record FleetSteps {T M E : Type 0} (steps : T → Input → JobStep M E → T → Type 0)
    (old : FleetValue T) (number : ℕ) (at : MomentValue) (result : FleetStep T M E)
    (new : FleetValue T) : Type 0 where
  pub seat : Option (Running T)
  pub own : SeatSteps steps old.limits (seat_of old.seats number) at result seat
  pub others : new ≡ with_seats old (slice_set old.seats number seat)
