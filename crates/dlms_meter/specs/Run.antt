-- A run of the meter: what comes in over the line and by its own pulses and moments, what it replies, and the events that
-- it accepts. The line is that of IEC 62056-46, what is served above it that of IEC 62056-5-3.
use Rattle.std.specs.Prelude.{◌≡◌, ◌≢◌, ◌==◌, ◌⊎◌, ℕ, ◌+◌, ◌≤◌, List, [], ◌∷◌, ◌++◌, length, Bool, true, false, Option, Some, None, IfSome, Result, Ok, Err, if◌then◌else◌}
use Rattle.dlms_frame.specs.declared.client.Client.{Client}
use Rattle.dlms_frame.specs.declared.client.Client.TheVariants.{Public, Management, Reader}
use Rattle.dlms_frame.specs.Client.{sap_of, client_of}
use Rattle.dlms_frame.specs.declared.frame.Address.{Address}
use Rattle.dlms_frame.specs.declared.frame.Address.TheVariants.{One}
use Rattle.dlms_frame.specs.Frame.{Parts, spelling}
use Rattle.dlms_frame.specs.Stream.{FrameAt, IsNext, Fits}
use Rattle.dlms_link.specs.Server.{ServerRecord, server_on, server_send}
use Rattle.dlms_link.specs.declared.out.LinkOut.{LinkOut}
use Rattle.dlms_link.specs.declared.out.LinkOut.TheVariants.{Nothing, Reply, Apdu, Oversize, BadLlc, Up, Down}
use Rattle.dlms_service.specs.Session.{SessionValue, Outcome, fresh, not_possible, unknown_service}
use Rattle.dlms_service.specs.Serves.{Choice as Memory, FindsMemory, Serves}
use Rattle.dlms_service.specs.Stake.{Fails, is_success}
use Rattle.dlms_state.specs.declared.event.Event.{Event}
use Rattle.dlms_state.specs.Refusal.{refusal_after}
use Rattle.dlms_store.specs.World.{StoreWorld, StoreStep, Next, StoreRun}
use Rattle.dlms_store.specs.World.StoreWorld.{Runs, InDoubt, Rests}
use Rattle.dlms_store.specs.World.StoreStep.{Settles, Fails as Fault, Refuses}
use Rattle.dlms_store.specs.Going.{Knows, Goes, IsAdd}
use Rattle.dlms_store.specs.declared.fault.AddFault.{AddFault}
use Rattle.dlms_store.specs.declared.fault.AddFault.TheVariants as add
use Rattle.dlms_store.specs.declared.store.Store.{Store}
use Rattle.dlms_pages.specs.Device.{Rose}
use Rattle.dlms_pages.specs.declared.device.Pages.{Ghosts}
use Rattle.dlms_store.specs.Store.{AddIsExhausted, CommitIsExhausted, IsStopped, view_of}
use Rattle.dlms_meter.specs.ClientRecord.{ClientRecord, fresh_record}
use Rattle.dlms_meter.specs.declared.meter.Meter.{Meter}

-- each client's own record
abbrev pub Records : Type 0
Records = Client → ClientRecord

-- the accepted events: those that are settled, followed by those that are not yet
abbrev pub events_in : StoreWorld → List Event
events_in (Runs settled pending) = settled ++ pending
events_in (InDoubt settled pending) = settled ++ pending
events_in (Rests events) = events

-- those that are not settled yet
abbrev pub pending_in : StoreWorld → List Event
pending_in (Runs settled pending) = pending
pending_in (InDoubt settled pending) = pending
pending_in (Rests events) = []

-- The state of a run: the bytes since the last silence, the place in them from which the next frame is searched, each client's
-- record, and the store's world: the accepted events, which of them are settled, and whether the store runs.
pub record MeterWorld : Type 0 where
  pub stretch : List ℕ
  pub place : ℕ
  pub records : Records
  pub store : StoreWorld

abbrev pub events_of : MeterWorld → List Event
events_of w = events_in w.store

-- ---- one frame of a client

-- What no list of events determines: whether memory is found; and whether the device fails where the answer would report success or
-- carry data, with the event of that answer (if any) then accepted or not.
pub data Choice : Type 0 where
  Served : (memory : Memory) → Choice
  DeviceFails : (kept : Bool) (wanted : List Event) → Choice

-- what an APDU leads to
abbrev pub Does : Choice → List Event → SessionValue → List ℕ → Outcome → Type 0
Does (Served memory) E s apdu o = Serves memory E s apdu o
Does (DeviceFails kept wanted) E s apdu o = (fails : Fails kept E s apdu o)
    × (fails.2.accepted ≡ wanted)

-- The outcome of a frame: its client's record, the bytes of the frame that answers it, the APDU whose first frame that is, if any
-- (a further segment and a repeated frame have none), and the accepted event, if any.
pub record Handled : Type 0 where
  pub own : ClientRecord
  pub reply : Option (List ℕ)
  pub answer : Option (List ℕ)
  pub accepted : List Event

-- an answer from the link alone
abbrev pub replies : ServerRecord → SessionValue → Option (List ℕ) → Handled
replies r s reply = record {
  own = record { link = r; session = s };
  reply = reply;
  answer = None;
  accepted = [];
}

-- the answer to an APDU, in the frame that the link makes of its beginning
abbrev pub sends : ServerRecord → Outcome → Handled
sends r o = record {
  own = record { link = (server_send r o.answer).0; session = o.own };
  reply = Some (spelling (server_send r o.answer).1);
  answer = Some o.answer;
  accepted = o.accepted;
}

-- what the link alone does calls no device
abbrev pub ByLink : Choice → Type 0 → Type 0
ByLink (Served memory) made = made
ByLink (DeviceFails kept wanted) made = ⊥

-- The answer to what the link hands up. A link that comes up or goes down drops the association and the transfers; an APDU is
-- served; one that is too long, or does not begin with the LLC, is not.
abbrev pub Answered : Choice → List Event → ServerRecord → SessionValue → LinkOut → Handled → Type 0
Answered choice E r s Nothing h = ByLink choice (h ≡ replies r s None)
Answered choice E r s (Reply frame) h = ByLink choice (h ≡ replies r s (Some (spelling frame)))
Answered choice E r s (Up frame) h =
    ByLink choice (h ≡ replies r (fresh s.client) (Some (spelling frame)))
Answered choice E r s (Down frame) h =
    ByLink choice (h ≡ replies r (fresh s.client) (Some (spelling frame)))
Answered choice E r s Apdu h = (o : Outcome) × Does choice E s r.apdu o × (h ≡ sends r o)
Answered choice E r s Oversize h = ByLink choice (h ≡ sends r (not_possible s))
Answered choice E r s BadLlc h = ByLink choice (h ≡ sends r (unknown_service s))

-- a frame is handled from its client's own record and the accepted events
abbrev pub Handles : Choice → List Event → ClientRecord → Parts → Handled → Type 0
Handles choice E own frame h =
    Answered choice E (server_on own.link frame).0 own.session (server_on own.link frame).1 h

-- ---- a frame of anyone

-- no two clients have one service access point
abbrev pub is_same : Client → Client → Bool
is_same who other = sap_of who == sap_of other

-- the records with this client's changed
abbrev pub with_record : Records → Client → ClientRecord → Records
with_record records who own other = if is_same who other then own else records other

-- the client that a frame from this address is of, if any
abbrev pub client_at : Address → Option Client
client_at (One sap) = client_of sap
client_at _ = None

-- A frame in its turn: its place in the stretch, the choice made at it, its outcome, and the store's steps.
pub record Turn : Type 0 where
  pub from : ℕ
  pub to : ℕ
  pub frame : Parts
  pub choice : Choice
  pub records : Records
  pub reply : Option (List ℕ)
  pub answer : Option (List ℕ)
  pub accepted : List Event
  pub steps : List StoreStep
  pub store : StoreWorld

-- a frame of nobody leads to nothing, that of a client changes its own record alone
abbrev pub Takes : List Event → Records → Turn → Option Client → Type 0
Takes E records turn None = (turn.records ≡ records) × (turn.reply ≡ None) × (turn.answer ≡ None)
    × (turn.accepted ≡ [])
Takes E records turn (Some who) =
    (own : ClientRecord) × Handles turn.choice E (records who) turn.frame (record {
      own = own;
      reply = turn.reply;
      answer = turn.answer;
      accepted = turn.accepted;
    })
    × (turn.records ≡ with_record records who own)

-- the steps by which a store takes what is accepted
abbrev pub IsTaking : List Event → List StoreStep → Type 0
IsTaking [] steps = steps ≡ []
IsTaking (event ∷ []) steps = (step : StoreStep) × IsAdd event step × (steps ≡ step ∷ [])
IsTaking (event ∷ other ∷ more) steps = ⊥

-- the store is not called, and nothing is accepted
abbrev pub IsUncalled : List Event → List StoreStep → Type 0
IsUncalled accepted steps = (accepted ≡ []) × (steps ≡ [])

-- the store takes what is accepted, and settles all
abbrev pub IsSettling : List Event → List StoreStep → Type 0
IsSettling accepted steps = (taking : List StoreStep) × IsTaking accepted taking
    × (steps ≡ taking ++ Settles ∷ [])

-- the store takes what is accepted, and then a call of it fails or is refused
abbrev pub IsUnsettling : List Event → List StoreStep → Type 0
IsUnsettling accepted steps = (taking : List StoreStep) × (last : StoreStep)
    × IsTaking accepted taking × ((last ≡ Fault) ⊎ (last ≡ Refuses)) × (steps ≡ taking ++ last ∷ [])

-- for an answer that says success or carries data, or for another one
abbrev pub StoredFor : Bool → List Event → List StoreStep → Type 0
StoredFor true accepted steps = IsSettling accepted steps
StoredFor false accepted steps = IsUncalled accepted steps

-- The store's steps for an answer: if it reports success or carries data, all is settled before it goes out; another answer does
-- not call the store.
abbrev pub Stored : Choice → Option (List ℕ) → List Event → List StoreStep → Type 0
Stored choice None accepted steps = IsUncalled accepted steps
Stored (Served memory) (Some answer) accepted steps = StoredFor (is_success answer) accepted steps
Stored (DeviceFails kept wanted) (Some answer) accepted steps = IsUnsettling accepted steps

-- the next frame of the stretch is this turn's; an answer has at most the bytes that a link takes
pub record IsTurn (w : MeterWorld) (turn : Turn) : Type 0 where
  pub next : IsNext w.stretch w.place turn.from turn.to turn.frame
  pub takes : Takes (events_of w) w.records turn (client_at turn.frame.src)
  pub stored : Stored turn.choice turn.answer turn.accepted turn.steps
  pub run : StoreRun w.store turn.steps turn.store
  pub short : IfSome turn.answer (λ answer. length answer ≤ 1024)

-- an answer of success, or with data, leaves nothing pending
abbrev pub Promised : Turn → Type 0
Promised turn = IfSome turn.answer (λ answer. is_success answer ≡ true → pending_in turn.store ≡ [])

abbrev pub after_turn : MeterWorld → Turn → MeterWorld
after_turn w turn = record {
  stretch = w.stretch;
  place = turn.to;
  records = turn.records;
  store = turn.store;
}

-- ---- a piece of bytes

abbrev pub listed : Option (List ℕ) → List (List ℕ)
listed None = []
listed (Some bytes) = bytes ∷ []

-- there is no frame in the stretch from the place on
abbrev pub HasNoFrame : List ℕ → ℕ → Type 0
HasNoFrame stretch place = (i j : ℕ) (frame : Parts) → place ≤ i → FrameAt stretch i j frame → ⊥

-- The turns are the frames of the stretch from the place on, each answered from the state that the ones before it led to.
abbrev pub Answers : MeterWorld → List Turn → List (List ℕ) → MeterWorld → Type 0
Answers w [] replies w' = HasNoFrame w.stretch w.place × (replies ≡ []) × (w' ≡ w)
Answers w (turn ∷ turns) replies w' =
    IsTurn w turn × (rest : List (List ℕ)) × (replies ≡ listed turn.reply ++ rest)
    × Answers (after_turn w turn) turns rest w'

-- at each of these frames memory was found
abbrev pub FoundMemory : List Turn → Type 0
FoundMemory [] = Unit {0}
FoundMemory (turn ∷ turns) = (turn.choice ≡ Served FindsMemory) × FoundMemory turns

-- the stretch goes on
abbrev pub grown : MeterWorld → List ℕ → MeterWorld
grown w bytes = record w { stretch = w.stretch ++ bytes }

-- A piece of bytes comes in, and the frames that it ends are answered.
pub record Comes (w : MeterWorld) (bytes : List ℕ) (replies : List (List ℕ)) (w' : MeterWorld)
    : Type 0 where
  pub turns : List Turn
  pub answers : Answers (grown w bytes) turns replies w'

-- One call of feed took these bytes: they ended no frame, or they end with the closing flag of the next one. The choice that was
-- taken at it may be taken, and these were the steps of the store.
abbrev pub Fed : (Choice → Type 0) → MeterWorld → List ℕ → Option (List ℕ) → List StoreStep
    → MeterWorld → Type 0
Fed May w taken reply steps w' =
    (HasNoFrame (w.stretch ++ taken) w.place × (reply ≡ None) × (steps ≡ []) × (w' ≡ grown w taken))
    ⊎ ((turn : Turn) × IsTurn (grown w taken) turn × May turn.choice × Promised turn
    × (turn.to + 1 ≡ length (w.stretch ++ taken))
    × (reply ≡ turn.reply) × (steps ≡ turn.steps) × (w' ≡ after_turn (grown w taken) turn))

-- ---- pulses, moments, silence

-- with the store's world changed
abbrev pub with_store : MeterWorld → StoreWorld → MeterWorld
with_store w store = record {
  stretch = w.stretch;
  place = w.place;
  records = w.records;
  store = store;
}

-- the store runs
abbrev pub IsRunningIn : StoreWorld → Type 0
IsRunningIn (Runs settled pending) = Unit {0}
IsRunningIn _ = ⊥

-- the store is stopped
abbrev pub IsStoppedIn : StoreWorld → Type 0
IsStoppedIn (InDoubt settled pending) = Unit {0}
IsStoppedIn _ = ⊥

-- An event is accepted, or refused by the table; a stopped store looks at no event, and a fault or an exhausted generation comes
-- only if the table does not refuse.
abbrev pub Judged : MeterWorld → Event → Result (Unit {0}) AddFault → StoreStep → MeterWorld
    → Type 0
Judged w event (Ok done) step w' = (refusal_after (events_of w) event ≡ None) × IsAdd event step
    × (now : StoreWorld) × Next w.store step now × (w' ≡ with_store w now)
Judged w event (Err (add.Refused cause)) step w' = IsRunningIn w.store
    × (refusal_after (events_of w) event ≡ Some cause) × (step ≡ Refuses) × (w' ≡ w)
Judged w event (Err add.Device) step w' = (refusal_after (events_of w) event ≡ None)
    × (step ≡ Fault) × (now : StoreWorld) × Next w.store Fault now × (w' ≡ with_store w now)
Judged w event (Err add.Stopped) step w' = IsStoppedIn w.store × (step ≡ Refuses) × (w' ≡ w)
Judged w event (Err add.Exhausted) step w' = IsRunningIn w.store
    × (refusal_after (events_of w) event ≡ None) × (step ≡ Refuses) × (w' ≡ w)

-- silence begins a new stretch
abbrev pub silent : MeterWorld → MeterWorld
silent w = record w { stretch = []; place = 0 }

-- nothing has happened yet
abbrev pub first_world : MeterWorld
first_world = record { stretch = []; place = 0; records = fresh_record; store = Runs [] [] }

-- after a recovery: these events, all links down and no association
abbrev pub recovered : List Event → MeterWorld
recovered events = record {
  stretch = [];
  place = 0;
  records = fresh_record;
  store = Runs events [];
}

-- ---- a meter stands for what a run has led to

abbrev pub record_for : {P A : Type 0} → {ghosts : Ghosts P} → Meter P A ghosts → Client
    → ClientRecord
record_for m Public = m.public
record_for m Management = m.management
record_for m Reader = m.reader

pub record Stands {P A : Type 0} {ghosts : Ghosts P} (m : Meter P A ghosts) (w : MeterWorld)
    : Type 0 where
  pub line : Fits m.deframer.bytes w.stretch w.place
  pub own : (who : Client) → w.records who ≡ record_for m who
  pub store : Knows m.store w.store

-- this event is not taken: no number of 64 bits is left for its row, or no checkpoint that it asks for can be made any more
abbrev pub TakesNoMore : {P A : Type 0} → {ghosts : Ghosts P} → List Event → Store P A ghosts
    → Type 0
TakesNoMore wanted store = (event : Event) × (wanted ≡ event ∷ []) × AddIsExhausted store event

-- Why the device may fail an answer with this event, or with none: its faults rose in these calls, or the store was stopped before
-- them, or it is exhausted: something is still pending that only a checkpoint could settle, and none can be made any more, or it
-- does not take this event any more.
abbrev pub MayFail : {P A : Type 0} → {ghosts : Ghosts P} → List Event → Store P A ghosts
    → Store P A ghosts → Type 0
MayFail wanted old new = Rose (view_of old).faults (view_of new).faults ⊎ IsStopped old
    ⊎ CommitIsExhausted new ⊎ TakesNoMore wanted new

-- Out of memory may always be reported; a failure of the device only for its cause.
abbrev pub MayChoose : {P A : Type 0} → {ghosts : Ghosts P} → Store P A ghosts → Store P A ghosts
    → Choice → Type 0
MayChoose old new (Served memory) = Unit {0}
MayChoose old new (DeviceFails kept wanted) = MayFail wanted old new

-- what a frame of a client led to, in its record and in the store
pub record Handling {P A : Type 0} {ghosts : Ghosts P} (own : ClientRecord) (frame : Parts)
    (reply : Option (List ℕ)) (own' : ClientRecord) (before : StoreWorld)
    (old new : Store P A ghosts) : Type 0 where
  pub choice : Choice
  pub answer : Option (List ℕ)
  pub accepted : List Event
  pub steps : List StoreStep
  pub now : StoreWorld
  pub handles : Handles choice (events_in before) own frame (record {
    own = own';
    reply = reply;
    answer = answer;
    accepted = accepted;
  })
  pub stored : Stored choice answer accepted steps
  pub may : MayChoose old new choice
  pub goes : Goes before steps now old new
  pub short : IfSome answer (λ bytes. length bytes ≤ 1024)

-- how a frame of a client, or of no client, changes a meter, and the reply
abbrev pub Replies : {P A : Type 0} → {ghosts : Ghosts P} → Meter P A ghosts → Parts
    → Option (List ℕ) → Meter P A ghosts → Option Client → Type 0
Replies old frame reply new None = (new ≡ old) × (reply ≡ None)
Replies old frame reply new (Some who) =
    ((before : StoreWorld) → Knows old.store before
    → Handling (record_for old who) frame reply
    (record_for new who) before old.store new.store)
    × (new.deframer ≡ old.deframer)
    × ((other : Client) → other ≢ who → record_for new other ≡ record_for old other)

-- with these bytes the next frame of the stretch ends
abbrev pub EndsFrame : MeterWorld → List ℕ → Type 0
EndsFrame w taken = (i : ℕ) × (j : ℕ) × (frame : Parts) × (j + 1 ≡ length (w.stretch ++ taken))
    × IsNext (w.stretch ++ taken) w.place i j frame

-- One call of feed, for every run that the meter stands for. If the device also keeps the rules, a stop at any moment of the call
-- leaves what it may leave in a world of the store before one of these steps.
abbrev pub Feeds : {P A : Type 0} → {ghosts : Ghosts P} → Meter P A ghosts → List ℕ
    → Option (List ℕ) → Meter P A ghosts → Type 0
Feeds old taken reply new = (w : MeterWorld) → Stands old w
    → (w' : MeterWorld) × (steps : List StoreStep)
    × Fed (MayChoose old.store new.store) w taken reply steps w' × Stands new w'
    × Goes w.store steps w'.store old.store new.store

-- The device is reported to have failed only if it did, and the generation to be exhausted only if the store was before the call.
abbrev pub JudgedFor : {P A : Type 0} → {ghosts : Ghosts P} → Event → Result (Unit {0}) AddFault
    → Store P A ghosts → Store P A ghosts → Type 0
JudgedFor event (Err add.Device) old new = Rose (view_of old).faults (view_of new).faults
JudgedFor event (Err add.Exhausted) old new = AddIsExhausted old event
JudgedFor event _ old new = Unit {0}

-- one call that judges an event
abbrev pub Judges : {P A : Type 0} → {ghosts : Ghosts P} → Meter P A ghosts → Event
    → Result (Unit {0}) AddFault → Meter P A ghosts → Type 0
Judges old event outcome new = (w : MeterWorld) → Stands old w
    → (w' : MeterWorld) × (step : StoreStep)
    × Judged w event outcome step w' × JudgedFor event outcome old.store new.store × Stands new w'
    × Goes w.store (step ∷ []) w'.store old.store new.store
