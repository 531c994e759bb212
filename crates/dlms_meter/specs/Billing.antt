-- What a utility bills from: an answer that went out is never taken back.
use Rattle.std.specs.Prelude.{◌≡◌, ◌⊎◌, ℕ, List, [], ◌∷◌, Some, true}
use Rattle.dlms_service.specs.Stake.{is_success}
use Rattle.dlms_state.specs.declared.event.Event.{Event}
use Rattle.dlms_store.specs.World.{IsBeginning}
use Rattle.dlms_meter.specs.Run.{MeterWorld, Turn, events_in, recovered}
use Rattle.dlms_meter.specs.Steps.{Step, Piece, Silence, Happens, Leads, Run}
use Rattle.dlms_meter.specs.Lives.{Leg, IsLeg, Lives}

-- this frame was answered with success or with data (IEC 62056-5-3), and these events were accepted by then
abbrev pub IsAnswered : Turn → List Event → Type 0
IsAnswered turn events = (answer : List ℕ) × (turn.answer ≡ Some answer)
    × (is_success answer ≡ true) × (events_in turn.store ≡ events)

-- one of these frames was
abbrev pub OneIsAnswered : List Turn → List Event → Type 0
OneIsAnswered [] events = ⊥
OneIsAnswered (turn ∷ turns) events = IsAnswered turn events ⊎ OneIsAnswered turns events

-- one of the frames that this step ended was
abbrev pub AnswersIn : (w : MeterWorld) (step : Step) (w' : MeterWorld) → Leads w step w'
    → List Event → Type 0
AnswersIn w (Piece bytes replies) w' leads events = OneIsAnswered leads.turns events
AnswersIn w Silence w' leads events = ⊥
AnswersIn w (Happens event outcome) w' leads events = ⊥

-- one of the frames of this run was
abbrev pub HasAnswered : (w : MeterWorld) (steps : List Step) (w' : MeterWorld) → Run w steps w'
    → List Event → Type 0
HasAnswered w [] w' run events = ⊥
HasAnswered w (step ∷ steps) w' (mid, leads, rest) events = AnswersIn w step mid leads events
    ⊎ HasAnswered mid steps w' rest events

-- the recovery of each of these legs found all of these events, first of all
abbrev pub EachFinds : List Event → List Leg → Type 0
EachFinds events [] = Unit {0}
EachFinds events (leg ∷ legs) = IsBeginning events leg.found × EachFinds events legs

-- An answer of success, or with data, went out in a run of a meter. Wherever the power stopped since, in a call, in a recovery or
-- between them, and whatever the meter was sent afterwards: every recovery finds all events that were accepted before that answer.
abbrev pub NothingIsTakenBack : Type 0
NothingIsTakenBack = (w : MeterWorld) (leg : Leg) (is : IsLeg w leg) (events : List Event)
    → HasAnswered w leg.steps is.last is.run events
    → (later : List Leg) (last : MeterWorld) → Lives (recovered leg.found) later last
    → EachFinds events (leg ∷ later)
