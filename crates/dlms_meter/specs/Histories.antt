-- A history of the meter: what comes over links and in messages, in any order. Its laws are those of runs (`Steps`), over both
-- carriers.
use Rattle.std.specs.Prelude.{◌≡◌, ◌⊎◌, ℕ, Bool, true, false, List, [], ◌∷◌, ◌++◌, length, map, nat_le, take, Option, Some, None, if◌then◌else◌}
use Rattle.dlms_frame.specs.declared.client.Client.{Client}
use Rattle.dlms_meter.specs.declared.connection.TheConstants.{MOST_OCTETS}
use Rattle.dlms_pages.specs.declared.device.Pages.{Ghosts}
use Rattle.dlms_service.specs.Serves.{FindsMemory}
use Rattle.dlms_service.specs.Stake.{is_success}
use Rattle.dlms_state.specs.declared.event.Event.{Event}
use Rattle.dlms_store.specs.Later.{IsLater}
use Rattle.dlms_store.specs.World.{StoreWorld, StoreStep, StoreRun, IsBeginning, IsQuiet, IsRecovered}
use Rattle.dlms_store.specs.World.StoreStep.{Opens}
use Rattle.dlms_meter.specs.Billing.{AnswersIn}
use Rattle.dlms_meter.specs.ClientRecord.{ClientRecord}
use Rattle.dlms_meter.specs.Healthy.{AreServed, IsDecided, IsHealthy, IsServed}
use Rattle.dlms_meter.specs.Independence.{OwnTurn, own_in_step}
use Rattle.dlms_meter.specs.Messages.{Input, Frame, Message, Loss, IsRequest, Requests, Takes, disconnected}
use Rattle.dlms_meter.specs.Own.{AreOwn}
use Rattle.dlms_meter.specs.Run.{MeterWorld, Choice, Served, JudgedFor, MayChoose, Stands, events_in, events_of, first_world, is_same, recovered}
use Rattle.dlms_meter.specs.Steps.{Step, Piece, Silence, Happens, Leads, Call, Fed, Idled, Told, IsCall, AllMayChoose, step_of}
use Rattle.dlms_meter.specs.Storing.{steps_in}
use Rattle.dlms_meter.specs.Transfers.{Exchange, Own, Asked, Cleared, InTurn, JoinBlocks, NoneBegins, blocks_in, own_in}
use Rattle.dlms_meter.specs.declared.meter.Meter.{Meter}

pub data Act : Type 0 where
  -- a step of a run: what comes over links, silences, pulses and moments
  OverLinks : (step : Step) → Act
  -- an APDU of a client in a message, and its answer
  Asks : (who : Client) → (apdu answer : List ℕ) → Act
  -- the connection of a client's messages is lost
  Disconnects : (who : Client) → Act

abbrev pub Makes : MeterWorld → Act → MeterWorld → Type 0
Makes w (OverLinks step) w' = Leads w step w'
Makes w (Asks who apdu answer) w' = IsRequest w who apdu answer w'
Makes w (Disconnects who) w' = w' ≡ disconnected w who

-- the acts, one after another, lead from one world to another
abbrev pub History : MeterWorld → List Act → MeterWorld → Type 0
History w [] w' = w' ≡ w
History w (act ∷ acts) w' = (mid : MeterWorld) × Makes w act mid × History mid acts w'

-- ---- the calls

-- a call of the meter, as its caller sees it: one of a run, or one that has to do with messages
pub data AnyCall : Type 0 where
  Linked : (call : Call) → AnyCall
  Requested : (who : Client) → (apdu answer : List ℕ) → AnyCall
  Disconnected : (who : Client) → AnyCall

abbrev pub act_of : AnyCall → Act
act_of (Linked call) = OverLinks (step_of call)
act_of (Requested who apdu answer) = Asks who apdu answer
act_of (Disconnected who) = Disconnects who

-- what a call's contract says of the meter before and after it
abbrev pub IsAnyCall : {P A : Type 0} → {ghosts : Ghosts P} → Meter P A ghosts → AnyCall
    → Meter P A ghosts → Type 0
IsAnyCall old (Linked call) new = IsCall old call new
IsAnyCall old (Requested who apdu answer) new = Requests old who apdu answer new
    × IsLater old.store new.store
IsAnyCall old (Disconnected who) new =
    ((w : MeterWorld) → Stands old w → Stands new (disconnected w who)) × (new.store ≡ old.store)

-- the calls, one after another
abbrev pub AnyCalls : {P A : Type 0} → {ghosts : Ghosts P} → Meter P A ghosts → List AnyCall
    → Meter P A ghosts → Type 0
AnyCalls old [] new = new ≡ old
AnyCalls {P} {A} {ghosts} old (call ∷ calls) new = (mid : Meter P A ghosts)
    × IsAnyCall old call mid × AnyCalls mid calls new

-- a fault in this act of a call has its cause in that call
abbrev pub IsCaused : {P A : Type 0} → {ghosts : Ghosts P} → (old new : Meter P A ghosts)
    → (call : AnyCall) → (w w' : MeterWorld) → Makes w (act_of call) w' → Type 0
IsCaused old new (Linked (Fed taken reply)) w w' leads =
    AllMayChoose old.store new.store leads.turns
IsCaused old new (Linked Idled) w w' leads = Unit {0}
IsCaused old new (Linked (Told event outcome)) w w' leads =
    JudgedFor event outcome old.store new.store
IsCaused old new (Requested who apdu answer) w w' is = MayChoose old.store new.store is.choice
IsCaused old new (Disconnected who) w w' is = Unit {0}

-- In a history of these calls each fault has its cause in its own call, and the meter after each call stands for the world after
-- its act.
abbrev pub AreCaused : {P A : Type 0} → {ghosts : Ghosts P} → (old : Meter P A ghosts)
    → (calls : List AnyCall) → (new : Meter P A ghosts) → AnyCalls old calls new
    → (w w' : MeterWorld) → History w (map act_of calls) w' → Type 0
AreCaused old [] new is w w' history = Unit {0}
AreCaused old (call ∷ calls) new (mid, is, rest) w w' (m, makes, more) =
    IsCaused old mid call w m makes × Stands mid m × AreCaused mid calls new rest m w' more

-- each of these calls met no fault of the device
abbrev pub AllHealthy : {P A : Type 0} → {ghosts : Ghosts P} → (old : Meter P A ghosts)
    → (calls : List AnyCall) → (new : Meter P A ghosts) → AnyCalls old calls new → Type 0
AllHealthy old [] new is = Unit {0}
AllHealthy old (call ∷ calls) new (mid, is, rest) = IsHealthy old.store mid.store
    × AllHealthy mid calls new rest

-- no APDU of this act is answered with the device's fault, and no event meets one
abbrev pub GoesWellBy : (w : MeterWorld) (act : Act) (w' : MeterWorld) → Makes w act w' → Type 0
GoesWellBy w (OverLinks (Piece bytes replies)) w' leads = AreServed leads.turns
GoesWellBy w (OverLinks Silence) w' leads = Unit {0}
GoesWellBy w (OverLinks (Happens event outcome)) w' leads = IsDecided outcome
GoesWellBy w (Asks who apdu answer) w' is = IsServed is.choice
GoesWellBy w (Disconnects who) w' is = Unit {0}

abbrev pub AllGoWell : (w : MeterWorld) (acts : List Act) (w' : MeterWorld) → History w acts w'
    → Type 0
AllGoWell w [] w' history = Unit {0}
AllGoWell w (act ∷ acts) w' (mid, makes, more) = GoesWellBy w act mid makes
    × AllGoWell mid acts w' more

-- ---- the store, stops and recoveries

-- the store's steps in an act, and in a history
abbrev pub steps_by : (w : MeterWorld) (act : Act) (w' : MeterWorld) → Makes w act w'
    → List StoreStep
steps_by w (OverLinks step) w' leads = steps_in w step w' leads
steps_by w (Asks who apdu answer) w' is = is.steps
steps_by w (Disconnects who) w' is = []

abbrev pub all_steps : (w : MeterWorld) (acts : List Act) (w' : MeterWorld) → History w acts w'
    → List StoreStep
all_steps w [] w' history = []
all_steps w (act ∷ acts) w' (mid, makes, more) = steps_by w act mid makes
    ++ all_steps mid acts w' more

-- A history of whole calls; how far the store came in the call that was cut off after them, if any; the stops, closes and failed
-- recoveries after it; and the events that a recovery finally found.
pub record Era : Type 0 where
  pub acts : List Act
  pub cut : List StoreStep
  pub quiet : List StoreStep
  pub found : List Event

-- these are the first of the store's steps in a call from here
abbrev pub IsCutShort : MeterWorld → List StoreStep → Type 0
IsCutShort w cut = (act : Act) × (mid : MeterWorld) × (makes : Makes w act mid) × (count : ℕ)
    × (cut ≡ take count (steps_by w act mid makes))

pub record IsEra (w : MeterWorld) (era : Era) : Type 0 where
  pub last : MeterWorld
  pub now : StoreWorld
  pub history : History w era.acts last
  pub cut_short : IsCutShort last era.cut
  pub quiet : IsQuiet era.quiet
  pub store : StoreRun last.store (era.cut ++ era.quiet ++ Opens era.found ∷ []) now

-- one after another, each from what the recovery before it found
abbrev pub Eras : MeterWorld → List Era → MeterWorld → Type 0
Eras w [] w' = w' ≡ w
Eras w (era ∷ eras) w' = IsEra w era × Eras (recovered era.found) eras w'

-- what the store did before an era's recovery, and in all eras
abbrev pub steps_before : (w : MeterWorld) (era : Era) → IsEra w era → List StoreStep
steps_before w era is = all_steps w era.acts is.last is.history ++ era.cut ++ era.quiet

abbrev pub steps_of_eras : (w : MeterWorld) (eras : List Era) (w' : MeterWorld) → Eras w eras w'
    → List StoreStep
steps_of_eras w [] w' is = []
steps_of_eras w (era ∷ eras) w' (is, more) = (steps_before w era is ++ Opens era.found ∷ [])
    ++ steps_of_eras (recovered era.found) eras w' more

-- Whatever came to a formatted meter, wherever the power stopped, also in a recovery: a recovery finds a beginning of the accepted
-- events, with every event that was settled before an answer, and at most one page of records less.
abbrev pub RecoversInEras : Type 0
RecoversInEras = (w : MeterWorld) (eras : List Era) (before : Eras first_world eras w) (era : Era)
    (is : IsEra w era)
    → IsRecovered (steps_of_eras first_world eras w before ++ steps_before w era is) era.found

-- ---- an answer that went out is never taken back

-- an APDU of this act was answered with success or with data, and these events were accepted by then
abbrev pub AnswersBy : (w : MeterWorld) (act : Act) (w' : MeterWorld) → Makes w act w'
    → List Event → Type 0
AnswersBy w (OverLinks step) w' leads events = AnswersIn w step w' leads events
AnswersBy w (Asks who apdu answer) w' is events = (is_success answer ≡ true)
    × (events_in is.store ≡ events)
AnswersBy w (Disconnects who) w' is events = ⊥

abbrev pub AnyAnswers : (w : MeterWorld) (acts : List Act) (w' : MeterWorld) → History w acts w'
    → List Event → Type 0
AnyAnswers w [] w' history events = ⊥
AnyAnswers w (act ∷ acts) w' (mid, makes, more) events = AnswersBy w act mid makes events
    ⊎ AnyAnswers mid acts w' more events

-- the recovery of each of these eras found all of these events, first of all
abbrev pub AllFind : List Event → List Era → Type 0
AllFind events [] = Unit {0}
AllFind events (era ∷ eras) = IsBeginning events era.found × AllFind events eras

-- An answer of success, or with data, went out over either carrier. Wherever the power stopped since, and whatever the meter was
-- sent afterwards: every recovery finds all events that were accepted before that answer.
abbrev pub NoneIsTakenBack : Type 0
NoneIsTakenBack = (w : MeterWorld) (era : Era) (is : IsEra w era) (events : List Event)
    → AnyAnswers w era.acts is.last is.history events
    → (later : List Era) (last : MeterWorld) → Eras (recovered era.found) later last
    → AllFind events (era ∷ later)

-- ---- a client's own

-- in every life of a formatted meter its record of each client is that client's own
abbrev pub AreOwnInEras : Type 0
AreOwnInEras = (w last : MeterWorld) (eras : List Era) (acts : List Act)
    → Eras first_world eras w → History w acts last → AreOwn last

-- a client's input, and the events accepted before it
pub record Prompt : Type 0 where
  pub input : Input
  pub before : List Event

-- one of a client's inputs, the choice that was taken at it, its reply, and the event that it led to
pub record OwnAct : Type 0 where
  pub prompt : Prompt
  pub choice : Choice
  pub reply : Option (List ℕ)
  pub answer : Option (List ℕ)
  pub accepted : List Event

abbrev pub of_turn : OwnTurn → OwnAct
of_turn turn = record {
  prompt = record { input = Frame turn.question.frame; before = turn.question.before };
  choice = turn.choice;
  reply = turn.reply;
  answer = turn.answer;
  accepted = turn.accepted;
}

abbrev pub asking : (w : MeterWorld) (who : Client) (apdu answer : List ℕ) (w' : MeterWorld)
    → IsRequest w who apdu answer w' → OwnAct
asking w who apdu answer w' is = record {
  prompt = record { input = Message apdu; before = events_of w };
  choice = is.choice;
  reply = Some is.outcome.answer;
  answer = Some is.outcome.answer;
  accepted = is.outcome.accepted;
}

abbrev pub losing : MeterWorld → OwnAct
losing w = record {
  prompt = record { input = Loss; before = events_of w };
  choice = Served FindsMemory;
  reply = None;
  answer = None;
  accepted = [];
}

abbrev pub own_by_act : Client → (w : MeterWorld) (act : Act) (w' : MeterWorld) → Makes w act w'
    → List OwnAct
own_by_act who w (OverLinks step) w' leads = map of_turn (own_in_step who w step w' leads)
own_by_act who w (Asks other apdu answer) w' is =
    if is_same other who then asking w other apdu answer w' is ∷ [] else []
own_by_act who w (Disconnects other) w' is = if is_same other who then losing w ∷ [] else []

abbrev pub own_acts : Client → (w : MeterWorld) (acts : List Act) (w' : MeterWorld)
    → History w acts w' → List OwnAct
own_acts who w [] w' history = []
own_acts who w (act ∷ acts) w' (mid, makes, more) = own_by_act who w act mid makes
    ++ own_acts who mid acts w' more

-- A client on its own: its inputs lead from one record of its own to another, and nobody else's record is looked at.
abbrev pub OnItsOwn : ClientRecord → List OwnAct → ClientRecord → Type 0
OnItsOwn own [] own' = own' ≡ own
OnItsOwn own (act ∷ acts) own' =
    (mid : ClientRecord) × Takes act.choice act.prompt.before own act.prompt.input
    (record { own = mid; reply = act.reply; answer = act.answer; accepted = act.accepted })
    × OnItsOwn mid acts own'

-- in every history a client's inputs lead where they lead on their own
abbrev pub AllOnTheirOwn : Type 0
AllOnTheirOwn = (who : Client) (w w' : MeterWorld) (acts : List Act) (history : History w acts w')
    → OnItsOwn (w.records who) (own_acts who w acts w' history) (w'.records who)

abbrev pub OwnFindMemory : List OwnAct → Type 0
OwnFindMemory [] = Unit {0}
OwnFindMemory (act ∷ acts) = (act.choice ≡ Served FindsMemory) × OwnFindMemory acts

abbrev pub prompts : List OwnAct → List Prompt
prompts acts = map (λ act. act.prompt) acts

abbrev pub answers_to : List OwnAct → List (Option (List ℕ))
answers_to acts = map (λ act. act.reply) acts

-- In two histories a client's record is initially the same, and its inputs are the same, with the same events accepted before each
-- of them: if memory was found for them, they have the same replies and lead to the same record.
abbrev pub AreIndependent : Type 0
AreIndependent =
    (who : Client) (v v' w w' : MeterWorld) (acts others : List Act) (a : History v acts v')
    (b : History w others w') → v.records who ≡ w.records who
    → prompts (own_acts who v acts v' a) ≡ prompts (own_acts who w others w' b)
    → OwnFindMemory (own_acts who v acts v' a) → OwnFindMemory (own_acts who w others w' b)
    → (answers_to (own_acts who v acts v' a) ≡ answers_to (own_acts who w others w' b))
    × (v'.records who ≡ w'.records who)

-- ---- transfers

-- what becomes of the client's association and transfers: an APDU is served, unless it is longer than the meter accepts
abbrev pub exchanged : (is_short : Bool) → Exchange → List Own
exchanged true x = Asked x ∷ []
exchanged false x = []

abbrev pub own_by : (who : Client) (w : MeterWorld) (act : Act) (w' : MeterWorld) → Makes w act w'
    → List Own
own_by who w (OverLinks step) w' leads = own_in who w step w' leads
own_by who w (Asks other apdu answer) w' is =
    if is_same other who then exchanged (nat_le (length apdu) MOST_OCTETS) (record {
      apdu = apdu;
      before = events_of w;
      choice = is.choice;
      outcome = is.outcome;
    }) else []
own_by who w (Disconnects other) w' is = if is_same other who then Cleared ∷ [] else []

-- in a history, in their order
abbrev pub own_of_all : (who : Client) (w : MeterWorld) (acts : List Act) (w' : MeterWorld)
    → History w acts w' → List Own
own_of_all who w [] w' history = []
own_of_all who w (act ∷ acts) w' (mid, makes, more) = own_by who w act mid makes
    ++ own_of_all who mid acts w' more

-- In every history a client's APDUs are answered one after another, each from the state that the one before left.
abbrev pub AllInTurn : Type 0
AllInTurn = (who : Client) (w w' : MeterWorld) (acts : List Act) (history : History w acts w')
    → InTurn (w.records who).session (own_of_all who w acts w' history) (w'.records who).session

-- In every history the blocks that a client got of one GET, joined, are a prefix of the attribute's encoding, over either carrier
-- (`JoinBlocks` of `Transfers`); and without a transfer no block is returned if no GET began.
abbrev pub AllBlocksJoin : Type 0
AllBlocksJoin = (who : Client) (w w' : MeterWorld) (acts : List Act) (history : History w acts w')
    → JoinBlocks who (w.records who).session (own_of_all who w acts w' history)

abbrev pub NoneUnasked : Type 0
NoneUnasked =
    (who : Client) (w w' : MeterWorld) (acts : List Act) (history : History w acts w')
    → (w.records who).session.getting ≡ None → NoneBegins (own_of_all who w acts w' history)
    → blocks_in (own_of_all who w acts w' history) ≡ []
