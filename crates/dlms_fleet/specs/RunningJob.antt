-- One running job at each moment of its line. It depends neither on other jobs nor on their number.
use Rattle.std.specs.Prelude.{◌≡◌, ◌-◌, ℕ, List, Bool, true, false, nat_lt}
use Rattle.dlms_fleet.specs.Inputs.{Input}
use Rattle.dlms_fleet.specs.Inputs.Input.{Begins, Reads, TimesOut}
use Rattle.dlms_fleet.specs.declared.job.JobStep.{JobStep}
use Rattle.dlms_fleet.specs.declared.job.JobStep.TheVariants as taken
use Rattle.dlms_fleet.specs.declared.running.Limits.{Limits}
use Rattle.dlms_fleet.specs.declared.running.Moment.{Moment}
use Rattle.dlms_fleet.specs.declared.running.Moment.TheVariants as moment
use Rattle.dlms_fleet.specs.declared.running.Outcome.{Outcome}
use Rattle.dlms_fleet.specs.declared.running.Outcome.TheVariants as outcome
use Rattle.dlms_fleet.specs.declared.running.Phase.{Phase}
use Rattle.dlms_fleet.specs.declared.running.Phase.TheVariants.{Connecting, Quiet, Asking}
use Rattle.dlms_fleet.specs.declared.running.Running.{Running}
use Rattle.dlms_fleet.specs.declared.running.Step.{Step}
use Rattle.dlms_fleet.specs.declared.running.Step.TheVariants as step

-- The line is connected; these bytes arrive; it is lost; a tick of the clock.
pub data MomentValue : Type 0 where
  Connected : MomentValue
  Came : (bytes : List ℕ) → MomentValue
  Lost : MomentValue
  Ticked : MomentValue

abbrev pub moment_of : Moment → MomentValue
moment_of moment.Connected = Connected
moment_of (moment.Bytes bytes) = Came bytes.now
moment_of moment.Lost = Lost
moment_of moment.Tick = Ticked

abbrev pub new_running : {T : Type 0} → Limits → T → Running T
new_running limits job = record { job = job; phase = Connecting; left = limits.deadline }

-- ---- a step of the job itself

-- what the running job does for this step of its job; a message's answer may take `answer` ticks from now on
abbrev pub Makes : {M E : Type 0} → ℕ → Phase → JobStep M E → Step M E → Phase → Type 0
Makes answer old taken.Nothing made new = (made ≡ step.Nothing) × (new ≡ old)
Makes answer old (taken.Sends message) made new =
    (made ≡ step.Sends message) × (new ≡ Asking answer)
Makes answer old taken.Done made new = (made ≡ step.Ends outcome.Done) × (new ≡ old)
Makes answer old (taken.Fails fault) made new =
    (made ≡ step.Ends (outcome.Fails fault)) × (new ≡ old)

-- the job takes one step, with this many ticks left
pub record Takes {T M E : Type 0} (steps : T → Input → JobStep M E → T → Type 0)
    (answer ticks : ℕ) (phase : Phase) (at : Input) (old : Running T) (made : Step M E)
    (new : Running T) : Type 0 where
  pub own : JobStep M E
  pub takes : steps old.job at own new.job
  pub makes : Makes answer phase own made new.phase
  pub left : new.left ≡ ticks

-- the job takes no step
abbrev pub Stays : {T M E : Type 0} → Running T → Step M E → Running T → Type 0
Stays old made new = (made ≡ step.Nothing) × (new ≡ old)

abbrev pub When : Bool → Type 0 → Type 0 → Type 0
When true a b = a
When false a b = b

-- ---- each moment, by the phase of the line

-- the line is connected: it has to be quiet first, or the job begins
abbrev pub Connects : {T M E : Type 0} → (T → Input → JobStep M E → T → Type 0) → Limits → Phase
    → Running T → Step M E → Running T → Type 0
Connects steps limits Connecting old made new =
    When (nat_lt 0 limits.quiet) (Stays (record old { phase = Quiet limits.quiet }) made new)
    (Takes steps limits.answer old.left (Asking limits.answer) Begins old made new)
Connects steps limits (Quiet ticks) old made new = Stays old made new
Connects steps limits (Asking ticks) old made new = Stays old made new

-- bytes before the job has begun are dropped, and the line has to be quiet again
abbrev pub TakesBytes : {T M E : Type 0} → (T → Input → JobStep M E → T → Type 0) → Limits → List ℕ
    → Phase → Running T → Step M E → Running T → Type 0
TakesBytes steps limits bytes Connecting old made new = Stays old made new
TakesBytes steps limits bytes (Quiet ticks) old made new =
    Stays (record old { phase = Quiet limits.quiet }) made new
TakesBytes steps limits bytes (Asking ticks) old made new =
    Takes steps limits.answer old.left old.phase (Reads bytes) old made new

-- a job that is done at a timeout is done as its line is lost; any other is lost
abbrev pub outcome_of_loss : {M E : Type 0} → JobStep M E → Outcome E
outcome_of_loss taken.Nothing = outcome.Lost
outcome_of_loss (taken.Sends message) = outcome.Lost
outcome_of_loss taken.Done = outcome.Done
outcome_of_loss (taken.Fails fault) = outcome.Lost

pub record LosesAsking {T M E : Type 0} (steps : T → Input → JobStep M E → T → Type 0)
    (old : Running T) (made : Step M E) (new : Running T) : Type 0 where
  pub own : JobStep M E
  pub takes : steps old.job TimesOut own new.job
  pub ends : made ≡ step.Ends (outcome_of_loss own)
  pub same : new ≡ record old { job = new.job }

abbrev pub Loses : {T M E : Type 0} → (T → Input → JobStep M E → T → Type 0) → Phase → Running T
    → Step M E → Running T → Type 0
Loses steps Connecting old made new = (made ≡ step.Ends outcome.Lost) × (new ≡ old)
Loses steps (Quiet ticks) old made new = (made ≡ step.Ends outcome.Lost) × (new ≡ old)
Loses steps (Asking ticks) old made new = LosesAsking steps old made new

-- a tick that is not the last one: one less to wait, or the job begins, or has a timeout
abbrev pub TakesTick : {T M E : Type 0} → (T → Input → JobStep M E → T → Type 0) → Limits → Phase
    → Running T → Step M E → Running T → Type 0
TakesTick steps limits Connecting old made new = Stays old made new
TakesTick steps limits (Quiet ticks) old made new =
    When (nat_lt 1 ticks) (Stays (record old { phase = Quiet (ticks - 1) }) made new)
    (Takes steps limits.answer old.left (Asking limits.answer) Begins old made new)
TakesTick steps limits (Asking ticks) old made new =
    When (nat_lt 1 ticks) (Stays (record old { phase = Asking (ticks - 1) }) made new)
    (Takes steps limits.answer old.left (Asking limits.answer) TimesOut old made new)

abbrev pub RunningSteps : {T M E : Type 0} → (T → Input → JobStep M E → T → Type 0) → Limits
    → Running T → MomentValue → Step M E → Running T → Type 0
RunningSteps steps limits old Connected made new =
    Connects steps limits old.phase old made new
RunningSteps steps limits old (Came bytes) made new =
    TakesBytes steps limits bytes old.phase old made new
RunningSteps steps limits old Lost made new = Loses steps old.phase old made new
RunningSteps steps limits old Ticked made new =
    When (nat_lt 1 old.left)
    (TakesTick steps limits old.phase (record old { left = old.left - 1 }) made new)
    ((made ≡ step.Ends outcome.Late) × (new ≡ old))
