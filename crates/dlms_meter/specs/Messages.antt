-- APDUs that come in messages, without a link (IEC 62056-47: the wrapper over TCP). Each is answered as over a link.
use Rattle.std.specs.Prelude.{◌≡◌, ◌≢◌, ℕ, ◌≤◌, nat_le, Bool, true, false, List, [], length, Some, None}
use Rattle.dlms_frame.specs.declared.client.Client.{Client}
use Rattle.dlms_frame.specs.Frame.{Parts}
use Rattle.dlms_meter.specs.declared.connection.TheConstants.{MOST_OCTETS}
use Rattle.dlms_pages.specs.declared.device.Pages.{Ghosts}
use Rattle.dlms_service.specs.Session.{SessionValue, Outcome, fresh, not_possible}
use Rattle.dlms_service.specs.Stake.{is_success}
use Rattle.dlms_state.specs.declared.event.Event.{Event}
use Rattle.dlms_store.specs.World.{StoreWorld, StoreStep, StoreRun}
use Rattle.dlms_store.specs.Going.{Goes}
use Rattle.dlms_store.specs.declared.store.Store.{Store}
use Rattle.dlms_meter.specs.ClientRecord.{ClientRecord}
use Rattle.dlms_meter.specs.declared.meter.Meter.{Meter}
use Rattle.dlms_meter.specs.Run.{MeterWorld, Choice, Does, ByLink, Handled, Handles, MayChoose, Stands, Stored, events_in, events_of, pending_in, record_for, replies, with_record}

-- ---- what a client sends

-- a frame over its link, an APDU in a message, or nothing any more: the connection of its messages is lost
pub data Input : Type 0 where
  Frame : (frame : Parts) → Input
  Message : (apdu : List ℕ) → Input
  Loss : Input

-- One of the octets that the meter accepts is served as over a link; a longer one is not served (IEC 62056-5-3,
-- exception-response: service not possible).
abbrev pub MeetsBy : (is_short : Bool) → Choice → List Event → SessionValue → List ℕ → Outcome
    → Type 0
MeetsBy true choice E s apdu o = Does choice E s apdu o
MeetsBy false choice E s apdu o = ByLink choice (o ≡ not_possible s)

abbrev pub Meets : Choice → List Event → SessionValue → List ℕ → Outcome → Type 0
Meets choice E s apdu o = MeetsBy (nat_le (length apdu) MOST_OCTETS) choice E s apdu o

-- the answer in a message of its own: the link stays as it is
abbrev pub answers : ClientRecord → Outcome → Handled
answers own o = record {
  own = record own { session = o.own };
  reply = Some o.answer;
  answer = Some o.answer;
  accepted = o.accepted;
}

-- no association and no transfer is left; the link stays as it is
abbrev pub disconnected_record : ClientRecord → ClientRecord
disconnected_record own = record own { session = fresh own.session.client }

-- what a client's input leads to, from its own record and the accepted events
abbrev pub Takes : Choice → List Event → ClientRecord → Input → Handled → Type 0
Takes choice E own (Frame frame) h = Handles choice E own frame h
Takes choice E own (Message apdu) h =
    (o : Outcome) × Meets choice E own.session apdu o × (h ≡ answers own o)
Takes choice E own Loss h = ByLink choice (h ≡ replies own.link (fresh own.session.client) None)

-- ---- one message

-- The APDU of a client in a message: the choice made at it, its outcome, and the store's steps. An answer of success, or with data,
-- leaves nothing pending, and an answer has at most the octets that a link takes.
pub record IsRequest (w : MeterWorld) (who : Client) (apdu answer : List ℕ) (w' : MeterWorld)
    : Type 0 where
  pub choice : Choice
  pub outcome : Outcome
  pub answered : answer ≡ outcome.answer
  pub steps : List StoreStep
  pub store : StoreWorld
  pub meets : Meets choice (events_of w) (w.records who).session apdu outcome
  pub stored : Stored choice (Some outcome.answer) outcome.accepted steps
  pub run : StoreRun w.store steps store
  pub promise : is_success outcome.answer ≡ true → pending_in store ≡ []
  pub short : length outcome.answer ≤ MOST_OCTETS
  pub same : w' ≡ record {
    stretch = w.stretch;
    place = w.place;
    records = with_record w.records who (answers (w.records who) outcome).own;
    store = store;
  }

-- a client's connection is lost
abbrev pub disconnected : MeterWorld → Client → MeterWorld
disconnected w who =
    record w { records = with_record w.records who (disconnected_record (w.records who)) }

-- ---- the calls

-- what an APDU led to, in its client's association and transfers and in the store, and its answer
pub record Responding {P A : Type 0} {ghosts : Ghosts P} (s : SessionValue) (apdu answer : List ℕ)
    (s' : SessionValue) (before : StoreWorld) (old new : Store P A ghosts) : Type 0 where
  pub choice : Choice
  pub accepted : List Event
  pub steps : List StoreStep
  pub now : StoreWorld
  pub does : Does choice (events_in before) s apdu (record {
    own = s';
    answer = answer;
    accepted = accepted;
  })
  pub stored : Stored choice (Some answer) accepted steps
  pub may : MayChoose old new choice
  pub goes : Goes before steps now old new

-- the other clients' records are as they were
abbrev pub KeepsOthers : {P A : Type 0} → {ghosts : Ghosts P} → Client → Meter P A ghosts
    → Meter P A ghosts → Type 0
KeepsOthers who old new = (other : Client) → other ≢ who
    → record_for new other ≡ record_for old other

-- One call of request, for every run that the meter stands for: the choice that was taken may be taken, and a stop at any moment of
-- the call leaves what it may leave in a world of the store before one of these steps, if the device keeps the rules.
abbrev pub Requests : {P A : Type 0} → {ghosts : Ghosts P} → Meter P A ghosts → Client → List ℕ
    → List ℕ → Meter P A ghosts → Type 0
Requests old who apdu answer new = (w : MeterWorld) → Stands old w
    → (w' : MeterWorld) × (is : IsRequest w who apdu answer w')
    × MayChoose old.store new.store is.choice × Stands new w'
    × Goes w.store is.steps w'.store old.store new.store
