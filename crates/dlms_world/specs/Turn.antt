-- What may happen next in the world.
use Rattle.std.specs.Prelude.{◌≡◌, ◌≢◌, ◌⊎◌, ◌≤◌, ℕ, Bool, true, false, List, [], ◌∷◌, ◌++◌, length, Option, Some, None}
use Rattle.dlms_frame.specs.Frame.{Parts, spelling}
use Rattle.dlms_frame.specs.declared.client.Client.{Client}
use Rattle.dlms_headend.specs.Asking.{PlanValue}
use Rattle.dlms_headend.specs.Merged.{merged}
use Rattle.dlms_headend.specs.declared.plan.Columns.{Columns}
use Rattle.dlms_headend.specs.Poll.{HasReleased, Asks}
use Rattle.dlms_headend.specs.Polling.{WantsRequest}
use Rattle.dlms_headend.specs.Talk.{Ends as EndsBy}
use Rattle.dlms_headend.specs.declared.poll_fault.PollFault.{PollFault}
use Rattle.dlms_headend.specs.declared.poll_fault.PollFault.TheVariants.{Protocol, Memory}
use Rattle.dlms_headend.specs.declared.row.Row.{Row}
use Rattle.dlms_headend.specs.declared.stage.Course.{Course}
use Rattle.dlms_headend.specs.declared.stage.Course.TheVariants.{Ready, Running, Done, Failed}
use Rattle.dlms_link.specs.Client.{client_step}
use Rattle.dlms_link.specs.Server.{ServerRecord, server_on}
use Rattle.dlms_link.specs.World.{LinkWorld as Link, happens, Connect, Give, Disconnect, ReachesMeter, ReachesClient, LostUp, LostDown, TimesOut, Restarts, Intrudes, start as first_link}
use Rattle.dlms_link.specs.declared.out.ClientOut.{ClientOut}
use Rattle.dlms_link.specs.declared.out.ClientOut.TheVariants as out
use Rattle.dlms_link.specs.declared.out.LinkOut.{LinkOut}
use Rattle.dlms_link.specs.declared.out.LinkOut.TheVariants.{Nothing, Reply, Apdu, Oversize, BadLlc, Up, Down}
use Rattle.dlms_link.specs.declared.phase.Phase.TheVariants.{Closed}
use Rattle.dlms_meter.specs.ClientRecord.{ClientRecord, fresh_record}
use Rattle.dlms_meter.specs.Run.{Choice, Does, ByLink, Handled, Handles, Records, client_at, replies, sends, with_record}
use Rattle.dlms_meter.specs.Transfers.{Exchange}
use Rattle.dlms_service.specs.Stake.{is_success}
use Rattle.dlms_service.specs.Session.{SessionValue, Outcome, fresh, not_possible, unknown_service}
use Rattle.dlms_state.specs.Refusal.{MayFollow}
use Rattle.dlms_state.specs.declared.event.Event.{Event}
use Rattle.dlms_store.specs.World.{StoreWorld as Store, StoreStep, Next}
use Rattle.dlms_store.specs.World.StoreStep.{Stops}
use Rattle.dlms_world.specs.Sublists.{IsSublist}
use Rattle.dlms_world.specs.World.{World, IsOn, IsUsual, Remembers}
use Rattle.dlms_meter.specs.Run.{events_in, pending_in}

-- ---- the meter takes a frame of the poller's client

-- the exchange, if an APDU was served
abbrev pub served_by : Choice → List Event → ServerRecord → LinkOut → Outcome → List Exchange
served_by choice E r Apdu o = record {
  apdu = r.apdu;
  before = E;
  choice = choice;
  outcome = o;
} ∷ []
served_by choice E r Nothing o = []
served_by choice E r (Reply frame) o = []
served_by choice E r Oversize o = []
served_by choice E r BadLlc o = []
served_by choice E r (Up frame) o = []
served_by choice E r (Down frame) o = []

-- nothing is said above the link
abbrev pub silent : SessionValue → Outcome
silent s = record { own = s; answer = []; accepted = [] }

-- The answer above the link to what the link hands up: as in the meter's `Handles`, without the frames.
abbrev pub Answers : Choice → List Event → ServerRecord → SessionValue → LinkOut → Outcome → Type 0
Answers choice E r s Apdu o = Does choice E s r.apdu o
Answers choice E r s Oversize o = ByLink choice (o ≡ not_possible s)
Answers choice E r s BadLlc o = ByLink choice (o ≡ unknown_service s)
Answers choice E r s (Up frame) o = ByLink choice (o ≡ silent (fresh s.client))
Answers choice E r s (Down frame) o = ByLink choice (o ≡ silent (fresh s.client))
Answers choice E r s Nothing o = ByLink choice (o ≡ silent s)
Answers choice E r s (Reply frame) o = ByLink choice (o ≡ silent s)

-- the same with the link and the frames
abbrev pub handled : ServerRecord → LinkOut → Outcome → Handled
handled r Apdu o = sends r o
handled r Oversize o = sends r o
handled r BadLlc o = sends r o
handled r Nothing o = replies r o.own None
handled r (Reply frame) o = replies r o.own (Some (spelling frame))
handled r (Up frame) o = replies r o.own (Some (spelling frame))
handled r (Down frame) o = replies r o.own (Some (spelling frame))

-- the meter's end comes up, or goes down
abbrev pub still_ours : Bool → LinkOut → Bool
still_ours ours (Up frame) = true
still_ours ours (Down frame) = false
still_ours ours Nothing = ours
still_ours ours (Reply frame) = ours
still_ours ours Apdu = ours
still_ours ours Oversize = ours
still_ours ours BadLlc = ours

-- A frame that the meter takes, its answer, and the store after it. Nothing is pending after an answer of success or data.
pub record Takes (w : World) (frame : Parts) (choice : Choice) (o : Outcome) (memory : Store)
    : Type 0 where
  pub on : IsOn w.memory
  pub answers : Answers choice (events_in w.memory)
      (server_on w.link.meter frame).0 w.session (server_on w.link.meter frame).1 o
  pub short : length o.answer ≤ 1024
  pub remembers : Remembers w.memory o.accepted memory
  pub promise : is_success o.answer ≡ true → pending_in memory ≡ []

-- ---- the meter comes back: all clients' links are down, and no association or transfer is open

abbrev pub restarted : World → Store → World
restarted w memory = record w {
  link = happens w.link Restarts;
  ours = false;
  session = fresh w.session.client;
  others = fresh_record;
  memory = memory;
}

-- ---- a new poll

-- what the meter keeps of each client
abbrev pub records_in : World → Records
records_in w = with_record w.others w.plan.client (record {
  link = w.link.meter;
  session = w.session;
})

-- A new poll, by a plan of the same client or of another: its end of the line is new, the meter's end is its record of that client,
-- and frames on the line stay.
abbrev pub turned : World → PlanValue → World
turned w plan = record w {
  link = record (first_link plan.client) { meter = (records_in w plan.client).link; up_line = w.link.up_line; down_line = w.link.down_line };
  ours = false;
  session = (records_in w plan.client).session;
  others = records_in w;
  served = [];
  plan = plan;
  course = Ready;
  rows = [];
}

-- ---- the poller takes a frame

-- the link after the oldest frame, and its output
abbrev pub reached : World → Link
reached w = happens w.link ReachesClient

abbrev pub gives : World → Parts → ClientOut
gives w frame = (client_step w.link.client frame).1

-- nothing is awaited: the link came up, or handed up an APDU
abbrev pub IsFree : ClientOut → Type 0
IsFree out.Nothing = ⊥
IsFree out.Up = Unit {0}
IsFree (out.Send frame) = ⊥
IsFree out.Apdu = Unit {0}
IsFree out.Down = ⊥

-- the link goes on by itself
abbrev pub IsOnItsOwn : ClientOut → Type 0
IsOnItsOwn out.Nothing = Unit {0}
IsOnItsOwn out.Up = ⊥
IsOnItsOwn (out.Send frame) = Unit {0}
IsOnItsOwn out.Apdu = ⊥
IsOnItsOwn out.Down = ⊥

-- why a poll fails at a frame that leaves its link so
abbrev pub Fails : Columns → List (List ℕ) → Link → PollFault → ClientOut → Type 0
Fails columns taken link fault out.Nothing = ⊥
Fails columns taken link fault out.Up = ⊥
Fails columns taken link fault (out.Send frame) = ⊥
Fails columns taken link fault out.Apdu = EndsBy columns taken link.client.apdu fault
    ⊎ ((fault ≡ Memory) × WantsRequest columns link.taken)
Fails columns taken link fault out.Down = (fault ≡ Protocol)
    × ((rows : List Row) → HasReleased columns taken rows → ⊥)

abbrev pub IsOver : Course → Type 0
IsOver Ready = ⊥
IsOver Running = ⊥
IsOver Done = Unit {0}
IsOver (Failed fault) = Unit {0}

-- ---- the steps

pub data Turn : World → World → Type 0 where
  -- the poll's first frame goes out
  Begins : (w : World) → w.course ≡ Ready
      → Turn w (record w {
        link = happens w.link Connect;
        ours = false;
        served = [];
        course = Running;
      })
  -- the oldest frame on the way to the poller comes: its link goes on by itself, or with the next request, or with the link's end
  GoesOn : (w : World) (frame : Parts) (rest : List Parts) → w.course ≡ Running
      → w.link.down_line ≡ frame ∷ rest → IsOnItsOwn (gives w frame) →
      Turn w (record w { link = reached w })
  AsksNext : (w : World) (frame : Parts) (rest : List Parts) (apdu : List ℕ)
      (short : length apdu ≤ 1024) → w.course ≡ Running → w.link.down_line ≡ frame ∷ rest →
      IsFree (gives w frame) → Asks w.plan (reached w).taken apdu
      → Turn w (record w { link = happens (reached w) (Give apdu short) })
  Leaves : (w : World) (frame : Parts) (rest : List Parts) (rows : List Row) → w.course ≡ Running
      → w.link.down_line ≡ frame ∷ rest →
      IsFree (gives w frame) → HasReleased w.plan.columns (reached w).taken rows
      → Turn w (record w { link = happens (reached w) Disconnect })
  -- it is done if its link goes down after the answer to the release
  Ends : (w : World) (frame : Parts) (rest : List Parts) (rows : List Row) → w.course ≡ Running
      → w.link.down_line ≡ frame ∷ rest →
      gives w frame ≡ out.Down → HasReleased w.plan.columns w.link.taken rows → Turn w (record w { link = reached w; course = Done; rows = rows })
  -- it fails at an answer that is not the awaited one, if it runs out of memory, or if its link goes down before
  FailsAt : (w : World) (frame : Parts) (rest : List Parts) (fault : PollFault) → w.course ≡ Running
      → w.link.down_line ≡ frame ∷ rest →
      Fails w.plan.columns w.link.taken (reached w) fault (gives w frame)
      → Turn w (record w { link = reached w; course = Failed fault })
  -- a timeout, which comes only if nothing is on the line: the frame goes again, or the poll has failed
  TimedOut : (w : World) → w.course ≡ Running → (happens w.link TimesOut).client.phase ≢ Closed
      → Turn w (record w { link = happens w.link TimesOut })
  GivesUp : (w : World) (fault : PollFault) → w.course ≡ Running
      → (happens w.link TimesOut).client.phase ≡ Closed →
      Turn w (record w { link = happens w.link TimesOut; course = Failed fault })
  -- A new poll, once nothing is on the line, wherever the last one stands: it is over, or its head end was stopped.
  TurnsTo : (w : World) (plan : PlanValue) → w.link.up_line ≡ [] → w.link.down_line ≡ [] → Turn w (turned w plan)
  -- rows of a poll that is done are merged: all of them, or some of them in their order
  Merges : (w : World) (kept : List Row) → w.course ≡ Done → IsSublist kept w.rows → Turn w (record w { file = merged w.file kept })
  -- a frame is lost
  LosesUp : (w : World) → Turn w (record w { link = happens w.link LostUp })
  LosesDown : (w : World) → Turn w (record w { link = happens w.link LostDown })
  -- the oldest frame on the way to the meter comes
  Arrives : (w : World) (frame : Parts) (rest : List Parts) (choice : Choice) (o : Outcome)
      (memory : Store) → w.link.up_line ≡ frame ∷ rest → (takes : Takes w frame choice o memory) →
      Turn w (record w {
        link = happens w.link (ReachesMeter o.answer takes.short);
        ours = still_ours w.ours (server_on w.link.meter frame).1;
        session = o.own;
        served = w.served ++ served_by choice (events_in w.memory)
            (server_on w.link.meter frame).0 (server_on w.link.meter frame).1 o;
        memory = memory;
      })
  -- between two polls another hand sends a frame of the poller's client
  Intruded : (w : World) (frame : Parts) (choice : Choice) (o : Outcome) (memory : Store)
      → w.course ≢ Running → w.link.client.phase ≡ Closed → Takes w frame choice o memory →
      Turn w (record w {
        link = happens w.link (Intrudes frame o.answer);
        ours = false;
        session = o.own;
        memory = memory;
      })
  -- at any time another client sends one
  OtherSends : (w : World) (who : Client) (frame : Parts) (choice : Choice) (own : ClientRecord)
      (reply answer : Option (List ℕ)) (accepted : List Event) (memory : Store) → IsOn w.memory
      → who ≢ w.plan.client → client_at frame.src ≡ Some who →
      Handles choice (events_in w.memory) (w.others who) frame (record {
        own = own;
        reply = reply;
        answer = answer;
        accepted = accepted;
      }) → Remembers w.memory accepted memory
      → Turn w (record w { others = with_record w.others who own; memory = memory })
  -- a pulse or a moment
  Happens : (w : World) (event : Event) (memory : Store) → IsOn w.memory
      → MayFollow (events_in w.memory) event → Remembers w.memory (event ∷ []) memory
      → Turn w (record w { memory = memory })
  -- the store settles what is pending, refuses, or fails by itself
  Works : (w : World) (memory : Store) → IsOn w.memory → Remembers w.memory [] memory
      → Turn w (record w { memory = memory })
  -- the power stops inside a call that had accepted these events; a frame that led to the call is one that was lost
  StopsInside : (w : World) (accepted : List Event) (mid memory : Store) → IsOn w.memory
      → Remembers w.memory accepted mid → Next mid Stops memory → Turn w (restarted w memory)
  -- it stops, or the meter is closed, or recovery is tried, and finds what the store's own rules let it find
  Restarted : (w : World) (step : StoreStep) (memory : Store) → (IsUsual step → ⊥)
      → Next w.memory step memory → Turn w (restarted w memory)

-- a whole run
pub data Run (w : World) : World → Type 0 where
  Stays : Run w w
  Goes : (mid now : World) → Run w mid → Turn mid now → Run w now
