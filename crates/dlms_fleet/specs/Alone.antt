-- One seat alone: its run, and the laws of the jobs that run on it one after another.
use Rattle.std.specs.Prelude.{◌≡◌, ◌≤◌, ◌+◌, ◌⊎◌, ℕ, List, length, [], ◌∷◌, ◌++◌, Option, Some, None, max}
use Rattle.dlms_fleet.specs.Inputs.{Input}
use Rattle.dlms_fleet.specs.Inputs.Input.{TimesOut}
use Rattle.dlms_fleet.specs.Runs.{Event, FleetRun, Own, own}
use Rattle.dlms_fleet.specs.Runs.Own.{Started, Moved}
use Rattle.dlms_fleet.specs.RunningJob.{MomentValue, new_running}
use Rattle.dlms_fleet.specs.RunningJob.MomentValue.{Connected, Came, Lost, Ticked}
use Rattle.dlms_fleet.specs.Seats.{FleetValue, SeatSteps, seat_of}
use Rattle.dlms_fleet.specs.declared.fleet.FleetStep.{FleetStep}
use Rattle.dlms_fleet.specs.declared.fleet.FleetStep.TheVariants as told
use Rattle.dlms_fleet.specs.declared.job.JobStep.{JobStep}
use Rattle.dlms_fleet.specs.declared.job.JobStep.TheVariants as taken
use Rattle.dlms_fleet.specs.declared.running.Limits.{Limits}
use Rattle.dlms_fleet.specs.declared.running.Outcome.{Outcome}
use Rattle.dlms_fleet.specs.declared.running.Outcome.TheVariants as outcome
use Rattle.dlms_fleet.specs.declared.running.Running.{Running}

-- a run of one seat: a job starts on it while it is free, and each moment leads to its result
abbrev pub SeatRun : {T M E : Type 0} → (T → Input → JobStep M E → T → Type 0) → Limits
    → Option (Running T) → List (Own T M E) → Option (Running T) → Type 0
SeatRun steps limits old [] new = new ≡ old
SeatRun steps limits old (Started job ∷ own) new =
    (old ≡ None) × SeatRun steps limits (Some (new_running limits job)) own new
SeatRun {T} steps limits old (Moved at result ∷ own) new =
    (mid : Option (Running T)) × SeatSteps steps limits old at result mid
    × SeatRun steps limits mid own new

-- Whatever happens on which seats in whatever order: on each seat there is a run of that seat alone, of what happened on it.
abbrev pub IsAlone : {T M E : Type 0} → (T → Input → JobStep M E → T → Type 0) → Type 0
IsAlone {T} {M} {E} steps = (old new : FleetValue T) (events : List (Event T M E))
    → FleetRun steps old events new → (seat : ℕ)
    → SeatRun steps old.limits (seat_of old.seats seat) (own seat events) (seat_of new.seats seat)

-- The seats and their limits stay.
abbrev pub KeepsSeats : {T M E : Type 0} → (T → Input → JobStep M E → T → Type 0) → Type 0
KeepsSeats {T} {M} {E} steps = (old new : FleetValue T) (events : List (Event T M E))
    → FleetRun steps old events new
    → (length new.seats ≡ length old.seats) × (new.limits ≡ old.limits)

-- ---- each job ends once

-- the number of jobs that run on a seat
abbrev pub jobs_on : {T : Type 0} → Option (Running T) → ℕ
jobs_on None = 0
jobs_on (Some running) = 1

abbrev pub end_by : {T M E : Type 0} → FleetStep T M E → ℕ
end_by told.Nothing = 0
end_by (told.Sends message) = 0
end_by (told.Ends outcome job) = 1

abbrev pub start_of : {T M E : Type 0} → Own T M E → ℕ
start_of (Started job) = 1
start_of (Moved at result) = 0

abbrev pub end_of : {T M E : Type 0} → Own T M E → ℕ
end_of (Started job) = 0
end_of (Moved at result) = end_by result

abbrev pub starts : {T M E : Type 0} → List (Own T M E) → ℕ
starts [] = 0
starts (one ∷ own) = start_of one + starts own

abbrev pub ends : {T M E : Type 0} → List (Own T M E) → ℕ
ends [] = 0
ends (one ∷ own) = end_of one + ends own

-- as many jobs ended as were started, except for one that still runs
abbrev pub EndsOnce : {T M E : Type 0} → (T → Input → JobStep M E → T → Type 0) → Type 0
EndsOnce {T} {M} {E} steps = (limits : Limits) (old new : Option (Running T))
    (own : List (Own T M E)) → SeatRun steps limits old own new
    → ends own + jobs_on new ≡ starts own + jobs_on old

-- ---- in time

abbrev pub tick_by : MomentValue → ℕ
tick_by Connected = 0
tick_by (Came bytes) = 0
tick_by Lost = 0
tick_by Ticked = 1

abbrev pub tick_of : {T M E : Type 0} → Own T M E → ℕ
tick_of (Started job) = 0
tick_of (Moved at result) = tick_by at

abbrev pub ticks : {T M E : Type 0} → List (Own T M E) → ℕ
ticks [] = 0
ticks (one ∷ own) = tick_of one + ticks own

-- A job that was started has ended after as many ticks of its seat as its deadline has; at the first one if that is 0.
abbrev pub EndsInTime : {T M E : Type 0} → (T → Input → JobStep M E → T → Type 0) → Type 0
EndsInTime {T} {M} {E} steps = (limits : Limits) (old new : Option (Running T))
    (before own : List (Own T M E)) (job : T)
    → SeatRun steps limits old (before ++ Started job ∷ own) new
    → max limits.deadline 1 ≤ ticks own → 1 ≤ ends own

-- ---- by its own steps

-- one step of a job after another
abbrev pub JobRun : {T M E : Type 0} → (T → Input → JobStep M E → T → Type 0) → T
    → List (Input × JobStep M E) → T → Type 0
JobRun steps old [] new = new ≡ old
JobRun {T} steps old (one ∷ more) new =
    (mid : T) × steps old one.0 one.1 mid × JobRun steps mid more new

-- after such a step the job goes on
abbrev pub IsGoing : {M E : Type 0} → JobStep M E → Type 0
IsGoing taken.Nothing = Unit {0}
IsGoing (taken.Sends message) = Unit {0}
IsGoing taken.Done = ⊥
IsGoing (taken.Fails fault) = ⊥

abbrev pub AreGoing : {M E : Type 0} → List (Input × JobStep M E) → Type 0
AreGoing [] = Unit {0}
AreGoing (one ∷ more) = IsGoing one.1 × AreGoing more

-- this is the last step, and after those before it the job goes on
abbrev pub EndsWith : {M E : Type 0} → List (Input × JobStep M E) → JobStep M E → Type 0
EndsWith {M} {E} all last = (front : List (Input × JobStep M E)) × (at : Input)
    × AreGoing front × (all ≡ front ++ (at, last) ∷ [])

abbrev pub IsNotDone : {M E : Type 0} → JobStep M E → Type 0
IsNotDone taken.Nothing = Unit {0}
IsNotDone (taken.Sends message) = Unit {0}
IsNotDone taken.Done = ⊥
IsNotDone (taken.Fails fault) = Unit {0}

-- the job goes on after all its steps, except that the last one may be for a timeout, and not done
abbrev pub EndsAtLoss : {M E : Type 0} → List (Input × JobStep M E) → Type 0
EndsAtLoss {M} {E} all = AreGoing all ⊎ ((front : List (Input × JobStep M E))
    × (last : JobStep M E) × AreGoing front × IsNotDone last
    × (all ≡ front ++ (TimesOut, last) ∷ []))

-- the steps of a job that ended so: it is done, or fails with a fault, only if its own last step says so
abbrev pub LeadTo : {M E : Type 0} → Outcome E → List (Input × JobStep M E) → Type 0
LeadTo outcome.Done all = EndsWith all taken.Done
LeadTo (outcome.Fails fault) all = EndsWith all (taken.Fails fault)
LeadTo outcome.Lost all = EndsAtLoss all
LeadTo outcome.Late all = AreGoing all

-- the steps that led from a job to the one that its seat handed back with this outcome
abbrev pub LedTo : {T M E : Type 0} → (T → Input → JobStep M E → T → Type 0) → T → Outcome E → T
    → Type 0
LedTo {T} {M} {E} steps job outcome result = (all : List (Input × JobStep M E))
    × JobRun steps job all result × LeadTo outcome all

-- A job that was started, and that its seat handed back at its end, came there by its own steps alone.
abbrev pub EndsByItsSteps : {T M E : Type 0} → (T → Input → JobStep M E → T → Type 0) → Type 0
EndsByItsSteps {T} {M} {E} steps = (limits : Limits) (old new : Option (Running T))
    (before own after : List (Own T M E)) (job : T)
    (at : MomentValue) (outcome : Outcome E) (result : T)
    → SeatRun steps limits old
    (before ++ Started job ∷ (own ++ Moved at (told.Ends outcome result) ∷ after)) new
    → ends own ≡ 0 → LedTo steps job outcome result

-- ---- seats are freed

-- the number of ticks within which the job on a seat ends
abbrev pub due : {T : Type 0} → Option (Running T) → ℕ
due None = 0
due (Some running) = max running.left 1

-- Once each seat had as many ticks as its job had left, that job has ended: its seat is free, unless another job was started there.
abbrev pub FreesSeats : {T M E : Type 0} → (T → Input → JobStep M E → T → Type 0) → Type 0
FreesSeats {T} {M} {E} steps = (old new : FleetValue T) (events : List (Event T M E))
    → FleetRun steps old events new → (seat : ℕ)
    → due (seat_of old.seats seat) ≤ ticks (own seat events)
    → (jobs_on (seat_of old.seats seat) ≤ ends (own seat events))
    × (starts (own seat events) ≡ 0 → seat_of new.seats seat ≡ None)
