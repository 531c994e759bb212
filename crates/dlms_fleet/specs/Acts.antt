-- The loop over the lines: a run of the fleet, in which the result of each moment is done on its line, and nothing else.
use Rattle.std.specs.Prelude.{◌≡◌, ℕ, Bool, true, false, List, [], ◌∷◌, ◌++◌, Option, Some, None, length, take}
use Rattle.dlms_fleet.specs.Inputs.{Input}
use Rattle.dlms_fleet.specs.Runs.{Event, FleetRun}
use Rattle.dlms_fleet.specs.RunningJob.{MomentValue}
use Rattle.dlms_fleet.specs.RunningJob.MomentValue.{Connected, Came, Lost, Ticked}
use Rattle.dlms_fleet.specs.Seats.{FleetSteps, FleetValue}
use Rattle.dlms_fleet.specs.declared.fleet.FleetStep.{FleetStep}
use Rattle.dlms_fleet.specs.declared.fleet.FleetStep.TheVariants as told
use Rattle.dlms_fleet.specs.declared.job.JobStep.{JobStep}
use Rattle.dlms_fleet.specs.declared.lines.LineEvent.{LineEvent}
use Rattle.dlms_fleet.specs.declared.lines.LineEvent.TheVariants as event
use Rattle.dlms_fleet.specs.declared.lines.SeatEvent.{SeatEvent}
use Rattle.dlms_fleet.specs.declared.running.Outcome.{Outcome}

-- This happened on the line of this seat; this message was sent there; its job ended so, and the line was closed. Or no line had
-- anything more.
pub data Act (T M E : Type 0) : Type 0 where
  Saw : (number : ℕ) (at : MomentValue) → Act T M E
  Sent : (number : ℕ) (message : M) → Act T M E
  Closed : (number : ℕ) (outcome : Outcome E) (job : T) → Act T M E
  Rested : Act T M E

-- if the past is known, these acts came after it
abbrev pub Adds : {X : Type 0} → Option (List X) → Option (List X) → List X → Type 0
Adds None new acts = Unit {0}
Adds (Some before) None acts = ⊥
Adds (Some before) (Some after) acts = after ≡ before ++ acts

abbrev pub moment_at : LineEvent → List ℕ → MomentValue
moment_at event.Connected piece = Connected
moment_at (event.Bytes count) piece = Came (take count piece)
moment_at event.Lost piece = Lost
moment_at event.Tick piece = Ticked

abbrev pub seen : {T M E : Type 0} → Option SeatEvent → List ℕ → List (Act T M E)
seen None piece = Act.Rested ∷ []
seen (Some next) piece = Act.Saw next.number (moment_at next.event piece) ∷ []

-- the act for a result
abbrev pub acts_by : {T M E : Type 0} → ℕ → FleetStep T M E → List (Act T M E)
acts_by number told.Nothing = []
acts_by number (told.Sends message) = Act.Sent number message ∷ []
acts_by number (told.Ends outcome job) = Act.Closed number outcome job ∷ []

-- a moment, and the act for its result
abbrev pub acts_of : {T M E : Type 0} → Event T M E → List (Act T M E)
acts_of (Event.Starts number job) = []
acts_of (Event.Moves number at result) = Act.Saw number at ∷ acts_by number result

abbrev pub acts_in : {T M E : Type 0} → List (Event T M E) → List (Act T M E)
acts_in [] = []
acts_in (event ∷ events) = acts_of event ++ acts_in events

pub record Takes {T M E : Type 0} (steps : T → Input → JobStep M E → T → Type 0)
    (before after : Option (List (Act T M E))) (old new : FleetValue T) : Type 0 where
  pub number : ℕ
  pub at : MomentValue
  pub result : FleetStep T M E
  pub moves : FleetSteps steps old number at result new
  pub done : Adds before after (acts_of (Event.Moves number at result))

abbrev pub TakesOne : {T M E : Type 0} → (T → Input → JobStep M E → T → Type 0)
    → Option (List (Act T M E)) → Option (List (Act T M E)) → FleetValue T → Bool → FleetValue T
    → Type 0
TakesOne steps before after old true new = Takes steps before after old new
TakesOne steps before after old false new = Adds before after (Act.Rested ∷ []) × (new ≡ old)

pub record Serves {T M E : Type 0} (steps : T → Input → JobStep M E → T → Type 0)
    (before after : Option (List (Act T M E))) (old new : FleetValue T) : Type 0 where
  pub events : List (Event T M E)
  pub run : FleetRun steps old events new
  pub done : Adds before after (acts_in events)

-- Events were taken, one after another, until no line had anything more; or this many were taken.
pub data TakesAll {T M E : Type 0} (steps : T → Input → JobStep M E → T → Type 0) (most : ℕ)
    (before after : Option (List (Act T M E))) (old new : FleetValue T) : Type 0 where
  Rests : (mid : Option (List (Act T M E))) → Serves steps before mid old new
      → Adds mid after (Act.Rested ∷ []) → TakesAll steps most before after old new
  IsFull : (served : Serves steps before after old new) → length served.events ≡ most
      → TakesAll steps most before after old new
