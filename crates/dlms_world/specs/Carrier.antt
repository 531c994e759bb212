-- A poll over a carrier of whole APDUs, such as the TCP wrapper (IEC 62056-47): the poll gives its
-- requests at the one end, a meter serves its client's APDUs at the other, and the carrier brings
-- APDUs from one end to the other.
use Rattle.std.specs.Prelude.{◌≡◌, ℕ, false, List, [], ◌∷◌, ◌++◌, Option, None, Some, Ok, map, unwrap_or}
use Rattle.std.specs.List.{filter_map}
use Rattle.dlms_frame.specs.Frame.{Parts}
use Rattle.dlms_frame.specs.declared.client.Client.{Client}
use Rattle.dlms_carrier.specs.Carrying.{Meaning, meaning}
use Rattle.dlms_headend.specs.Asking.{PlanValue}
use Rattle.dlms_headend.specs.CarrierPollValue.{CarrierPollValue, TermsValue}
use Rattle.dlms_headend.specs.CarrierRun.{Beside, Call, Passage, answers, carried_in, passages, requests}
use Rattle.dlms_headend.specs.Due.{sent_secret}
use Rattle.dlms_headend.specs.Merged.{merged}
use Rattle.dlms_headend.specs.PollRun.{Call as LineCall, Calls}
use Rattle.dlms_headend.specs.PollRun.Call.{On}
use Rattle.dlms_headend.specs.PollerValue.{PollerValue}
use Rattle.dlms_headend.specs.Polling.{fresh_poll}
use Rattle.dlms_headend.specs.declared.plan.Columns.TheVariants.{Trusted, Asked as AsksColumns}
use Rattle.dlms_headend.specs.declared.row.Row.{Row}
use Rattle.dlms_headend.specs.declared.stage.Course.TheVariants.{Ready}
use Rattle.dlms_headend.specs.declared.stage.PollCourse.TheVariants.{Done}
use Rattle.dlms_headend.specs.declared.step.PollStep.TheVariants as step
use Rattle.dlms_link.specs.World.{start as first_link}
use Rattle.dlms_meter.specs.Histories.{Act, Era, Eras, History, own_of_all}
use Rattle.dlms_meter.specs.Run.{MeterWorld, Stands, events_of, first_world as first_of_meter, recovered}
use Rattle.dlms_meter.specs.Steps.{Step, Run as MeterRun}
use Rattle.dlms_meter.specs.Transfers.{Exchange, Own, Asked, Cleared}
use Rattle.dlms_meter.specs.declared.meter.Meter.{Meter}
use Rattle.dlms_pages.specs.declared.device.Pages.{Ghosts}
use Rattle.dlms_state.specs.declared.event.Event.{Event}
use Rattle.dlms_store.specs.World.{Next as StoreNext}
use Rattle.dlms_store.specs.World.StoreStep.{Stops}
use Rattle.dlms_store.specs.World.StoreWorld.{Rests, Runs}
use Rattle.dlms_world.specs.Agree.{AreCaptures, BringsBuffer, Rise}
use Rattle.dlms_world.specs.Line.{DoAgree, Joins, turns_of}
use Rattle.dlms_world.specs.MeterTurns.{IsMeterOf}
use Rattle.dlms_world.specs.Named.{IsNamed}
use Rattle.dlms_world.specs.Possible.{KnowsSecret, first_rows, quarter}
use Rattle.dlms_world.specs.Sublists.{IsSublist}
use Rattle.dlms_world.specs.Turn.{Run}
use Rattle.dlms_world.specs.World.{World, all_readings, settled_in}

-- ---- what a meter serves to a client

-- From one world of a meter to another, over stops of the power: eras, each of which ends with a
-- recovery, and a history after the last of them. Frames of links, messages, lost connections,
-- pulses and moments occur in it in any order.
pub record Life (m m' : MeterWorld) : Type 0 where
  pub eras : List Era
  pub last : MeterWorld
  pub in_eras : Eras m eras last
  pub acts : List Act
  pub history : History last acts m'

-- what becomes of a client's association and transfers in eras: after a recovery there is none
abbrev pub own_in_eras : (who : Client) (m : MeterWorld) (eras : List Era) (m' : MeterWorld)
    → Eras m eras m' → List Own
own_in_eras who m [] m' is = []
own_in_eras who m (era ∷ eras) m' (is, more) = own_of_all who m era.acts is.last is.history
    ++ Cleared ∷ own_in_eras who (recovered era.found) eras m' more

abbrev pub own_in : (who : Client) (m m' : MeterWorld) → Life m m' → List Own
own_in who m m' life = own_in_eras who m life.eras life.last life.in_eras
    ++ own_of_all who life.last life.acts m' life.history

abbrev pub exchange_in : Own → Option Exchange
exchange_in Cleared = None
exchange_in (Asked x) = Some x

-- the APDUs that the meter serves to the client, over whichever carrier, and their outcomes
abbrev pub served_to : (who : Client) (m m' : MeterWorld) → Life m m' → List Exchange
served_to who m m' life = filter_map exchange_in (own_in who m m' life)

-- ---- the carrier

-- The carrier may lose and delay any APDU, either way. It delivers an APDU whole, in order and at
-- most once: the APDUs that the meter served to the client are some of the poll's requests, and the
-- answers that were handed up to the poll are some of the meter's answers to these. A request
-- counts as lost if the power stops before it is answered. A poll awaits the answer to a request
-- before it gives the next one; so if it is done, nothing was lost but the release or its answer,
-- and each answer belongs to the request before it.
pub record Delivers (passed : List Passage) (served : List Exchange) : Type 0 where
  pub up : IsSublist (map (λ x. x.apdu) served) (requests passed)
  pub down : IsSublist (answers passed) (map (λ x. x.outcome.answer) served)

-- ---- the file and the meter

-- Each row is a capture of events that no stop takes back, and the rows are in order if these
-- captures are. The meter's record of each client is that client's own.
pub record Holds (m : MeterWorld) (file : List Row) : Type 0 where
  pub captures : AreCaptures (settled_in m.store) file
  pub order : Rise (all_readings (settled_in m.store)) → Rise file
  pub own : (who : Client) → ((m.records who).link.client ≡ who)
      × ((m.records who).session.client ≡ who)

-- a formatted meter holds the rows of an empty file
abbrev pub FirstHolds : Type 0
FirstHolds = Holds first_of_meter []

-- so does a meter that agrees with a file, as after polls over a line of HDLC
abbrev pub AgreeingHolds : Type 0
AgreeingHolds = (m : MeterWorld) (file : List Row) → DoAgree m file → Holds m file

-- Each row of the file is a capture of the events that the meter holds; and if the captures' clocks
-- rise strictly, no row occurs twice and the rows are in order.
abbrev pub HeldAreCaptures : Type 0
HeldAreCaptures = (m : MeterWorld) (file : List Row) → Holds m file
    → AreCaptures (events_of m) file × (Rise (all_readings (events_of m)) → Rise file)

-- whatever arrives at the meter afterwards, over any carrier, and wherever the power stops and is
-- restored
abbrev pub LivesHold : Type 0
LivesHold = (m m' : MeterWorld) (file : List Row) → Life m m' → Holds m file → Holds m' file

-- the power stops, and the meter is recovered with the events that the stop left
abbrev pub StopsHold : Type 0
StopsHold = (m : MeterWorld) (left : List Event) (file : List Row) → Holds m file
    → StoreNext m.store Stops (Rests left) → Holds (recovered left) file

-- ---- a poll

-- the plan of a poll by these terms as this client
abbrev pub plan_of : Client → TermsValue → PlanValue
plan_of who terms = record {
  client = who;
  secret = unwrap_or terms.secret [];
  after = terms.after;
  until = terms.until;
  columns = terms.columns;
}

-- A poll by this plan brought these rows, and a meter served these APDUs to its client. The rows
-- are exactly those that the meter's buffer had when it took the poll's GET, by name if the poll
-- asks for the columns. If rows of them are merged into the file, all or some in their order, the
-- meter holds the rows of that file.
pub record EndsOnCarrier (plan : PlanValue) (served : List Exchange) (file rows : List Row)
    (m' : MeterWorld) : Type 0 where
  pub brings : BringsBuffer plan served rows
  pub named : plan.columns ≡ AsksColumns → IsNamed plan served rows
  pub merges : (kept : List Row) → IsSublist kept rows → Holds m' (merged file kept)

-- so it is if the poll is done, and its carrier delivered what it took from this client's end of
-- the meter since the poll began
abbrev pub PollsHold : {C P A : Type 0} → {ghosts : Ghosts P} → Meaning C → Meter P A ghosts
    → Type 0
PollsHold {C} meaning new =
    (who : Client) (carrier : C) (terms : TermsValue) (calls : List Call)
    (done : CarrierPollValue C) (poll : Beside meaning carrier terms calls done)
    (m m' : MeterWorld) (life : Life m m') (file : List Row)
    → done.course ≡ Done → Delivers (passages (carried_in poll.shares)) (served_to who m m' life)
    → Stands new m' → Holds m file
    → EndsOnCarrier (plan_of who terms) (served_to who m m' life) file done.talk.rows m'

-- ---- a poll over a line of HDLC

-- a poll by this plan that has not begun, at this meter and with this file, while nothing is on the
-- line
abbrev pub world_at : PlanValue → MeterWorld → List Row → World
world_at plan m file = record {
  link = record (first_link plan.client) { meter = (m.records plan.client).link };
  ours = false;
  session = (m.records plan.client).session;
  others = m.records;
  served = [];
  memory = m.store;
  plan = plan;
  course = Ready;
  rows = [];
  file = file;
}

-- A poll is done over a line to this meter, whatever carriers the earlier polls had. A run of the
-- world from the poll's start leads to the meter; the poll has exactly the rows that the meter's
-- buffer had when it took the poll's GET; and if rows of it are merged into the file, the meter
-- holds the rows of that file.
pub record EndsOnLine (plan : PlanValue) (file rows : List Row) (m m' : MeterWorld) : Type 0 where
  pub world : World
  pub run : Run (world_at plan m file) world
  pub meter : IsMeterOf m' world
  pub same : world.file ≡ file
  pub brings : BringsBuffer plan world.served rows
  pub merges : (kept : List Row) → IsSublist kept rows → Holds m' (merged file kept)

abbrev pub LinesHold : {P A : Type 0} → {ghosts : Ghosts P} → Meter P A ghosts → Meter P A ghosts
    → Type 0
LinesHold old new =
    (plan : PlanValue) (front : List LineCall) (frame : Parts) (done : PollerValue)
    (m m' : MeterWorld) (steps : List Step) (run : MeterRun m steps m') (file : List Row)
    → Stands old m → Stands new m' → Holds m file
    → Calls (fresh_poll plan) (front ++ On frame (Ok step.Done) ∷ []) done
    → Joins plan (front ++ On frame (Ok step.Done) ∷ []) (turns_of m steps m' run)
    → EndsOnLine plan file done.talk.rows m m'

-- ---- a poll can be done over a carrier

-- a formatted meter that has captured its first row
abbrev pub first_captured : MeterWorld
first_captured = record first_of_meter { store = Runs quarter [] }

-- a carrier of which nothing is known: each call may lead to any state, which is the last APDU
abbrev pub any_carrier : Meaning (List ℕ)
any_carrier = meaning (λ old input event new. Unit {0}) (λ apdu. []) (λ apdu. apdu)
    (λ apdu. Unit {0})

-- the terms of a poll by this plan
abbrev pub terms_by : PlanValue → TermsValue
terms_by plan = record {
  secret = sent_secret plan.client plan.secret;
  after = plan.after;
  until = plan.until;
  columns = plan.columns;
}

-- a poll by this plan that is done with these rows, and a carrier that delivered what passed
-- between it and a meter
pub record CarriedPoll (plan : PlanValue) (found : List Row) (m m' : MeterWorld) : Type 0 where
  pub calls : List Call
  pub done : CarrierPollValue (List ℕ)
  pub poll : Beside any_carrier [] (terms_by plan) calls done
  pub course : done.course ≡ Done
  pub rows : done.talk.rows ≡ found
  pub life : Life m m'
  pub delivers : Delivers (passages (carried_in poll.shares)) (served_to plan.client m m' life)

-- a poll that knows its client's secret and trusts the columns brings that row
abbrev pub CanBeCarried : (after until : Option ℕ) → Type 0
CanBeCarried after until = (plan : PlanValue) → KnowsSecret plan [] → plan.after ≡ after
    → plan.until ≡ until → plan.columns ≡ Trusted
    → (m : MeterWorld) × CarriedPoll plan (first_rows after until) first_captured m
