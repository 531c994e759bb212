-- A poll over a line with two ends: a poller makes its calls at the one, a meter takes frames at the other, and the line brings frames
-- from one to the other.
use Rattle.std.specs.Prelude.{◌≡◌, ◌≢◌, List, [], ◌∷◌, ◌++◌, Option, Some, None, Ok}
use Rattle.std.specs.List.{filter_map}
use Rattle.dlms_frame.specs.Frame.{Parts}
use Rattle.dlms_frame.specs.declared.client.Client.{Client}
use Rattle.dlms_headend.specs.Asking.{PlanValue}
use Rattle.dlms_headend.specs.Merged.{merged}
use Rattle.dlms_headend.specs.PollerValue.{PollerValue}
use Rattle.dlms_headend.specs.PollRun.{Call, Calls}
use Rattle.dlms_headend.specs.PollRun.Call.{Next, On, Timeout}
use Rattle.dlms_headend.specs.Polling.{fresh_poll}
use Rattle.dlms_headend.specs.declared.row.Row.{Row}
use Rattle.dlms_headend.specs.declared.step.PollStep.TheVariants as step
use Rattle.dlms_meter.specs.Run.{MeterWorld, Turn as MeterTurn, Stands, client_at, events_of, first_world as first_of_meter, recovered}
use Rattle.dlms_meter.specs.Steps.{Step, Run as MeterRun}
use Rattle.dlms_meter.specs.Steps.Step.{Piece, Silence, Happens}
use Rattle.dlms_meter.specs.declared.meter.Meter.{Meter}
use Rattle.dlms_pages.specs.declared.device.Pages.{Ghosts}
use Rattle.dlms_state.specs.declared.event.Event.{Event}
use Rattle.dlms_store.specs.World.{StoreWorld, Next as StoreNext}
use Rattle.dlms_store.specs.World.StoreWorld.{Rests}
use Rattle.dlms_store.specs.World.StoreStep.{Stops}
use Rattle.dlms_world.specs.Agree.{AreCaptures, BringsBuffer}
use Rattle.dlms_world.specs.PollTurns.{sent_first, sent_on, sent_again}
use Rattle.dlms_world.specs.Programs.{IsReply}
use Rattle.dlms_world.specs.Sublists.{IsSublist}
use Rattle.dlms_world.specs.MeterTurns.{IsMeterOf}
use Rattle.dlms_world.specs.Turn.{Run}
use Rattle.dlms_world.specs.World.{World, first_world}

-- ---- what happens at the two ends

-- a call of the poller; or a frame that the meter takes, with its reply
pub data Moment : Type 0 where
  AtHead : (call : Call) → Moment
  AtMeter : (turn : MeterTurn) → Moment

abbrev pub call_at : Moment → Option Call
call_at (AtHead call) = Some call
call_at (AtMeter turn) = None

abbrev pub turn_at : Moment → Option MeterTurn
turn_at (AtHead call) = None
turn_at (AtMeter turn) = Some turn

-- the frames that the meter takes in a run, one after another
abbrev pub turns_of : (m : MeterWorld) (steps : List Step) (m' : MeterWorld) → MeterRun m steps m'
    → List MeterTurn
turns_of m [] m' run = []
turns_of m (Piece bytes replies ∷ steps) m' (mid, comes, run) = comes.turns
    ++ turns_of mid steps m' run
turns_of m (Silence ∷ steps) m' (mid, leads, run) = turns_of mid steps m' run
turns_of m (Happens event outcome ∷ steps) m' (mid, leads, run) = turns_of mid steps m' run

-- ---- the line

-- The frames of the poll's client that are on the line, the oldest first: on the way up to the meter, and down to the poller.
pub record OnLine : Type 0 where
  pub up : List Parts
  pub down : List Parts

-- This frame arrives; those before it are lost, those after it are still on the way.
abbrev pub Comes : Parts → (before after : List Parts) → Type 0
Comes frame before after = (lost : List Parts) × (before ≡ lost ++ frame ∷ after)

-- A call puts its frame on the line, if it answers one. The frame that it is given comes over the line; at a time-out nothing that is
-- on the line will come any more.
abbrev pub CallsOver : OnLine → Call → OnLine → Type 0
CallsOver l (Next frame) l' = l' ≡ record { up = sent_first frame; down = [] }
CallsOver l (On frame result) l' = (rest : List Parts) × Comes frame l.down rest × (l' ≡ record { up = l.up ++ sent_on result; down = rest })
CallsOver l (Timeout result) l' = l' ≡ record { up = sent_again result; down = [] }

-- A frame of the poll's client comes to the meter over the line, and the reply goes onto it. One of anyone else leaves this line as it is.
pub data TakenOver (who : Client) (l : OnLine) (turn : MeterTurn) (l' : OnLine) : Type 0 where
  Own : (rest sent : List Parts) → client_at turn.frame.src ≡ Some who → Comes turn.frame l.up rest
      → IsReply turn.reply sent → l' ≡ record { up = rest; down = l.down ++ sent }
      → TakenOver who l turn l'
  Other : client_at turn.frame.src ≢ Some who → l' ≡ l → TakenOver who l turn l'

abbrev pub Passes : Client → OnLine → Moment → OnLine → Type 0
Passes who l (AtHead call) l' = CallsOver l call l'
Passes who l (AtMeter turn) l' = TakenOver who l turn l'

-- one after another, in the order of time
abbrev pub Carries : Client → OnLine → List Moment → Type 0
Carries who l [] = Unit {0}
Carries who l (moment ∷ moments) = (after : OnLine) × Passes who l moment after
    × Carries who after moments

-- The two ends are joined by a line: the meter took some frames of any client before the poll began; then the poll's first frame
-- was sent; and the line carried the moments from then on, in the order of time. It may delay, cut and lose anything: only a whole
-- frame counts, and each of those was sent from the other end, arrives in order and once, and never after a timeout that found it
-- on the way.
pub record Joins (plan : PlanValue) (calls : List Call) (turns : List MeterTurn) : Type 0 where
  pub early : List MeterTurn
  pub frame : Option Parts
  pub moments : List Moment
  pub are_calls : calls ≡ Next frame ∷ filter_map call_at moments
  pub are_turns : turns ≡ early ++ filter_map turn_at moments
  pub carried : Carries plan.client (record { up = sent_first frame; down = [] }) moments

-- ---- the file and the meter

-- A run of the world has led to this meter and this file. What the laws of the world say of every run, they say of them.
pub record Agree (m : MeterWorld) (file : List Row) (w : World) : Type 0 where
  pub plan : PlanValue
  pub run : Run (first_world plan) w
  pub meter : IsMeterOf m w
  pub same : w.file ≡ file

abbrev pub DoAgree : MeterWorld → List Row → Type 0
DoAgree m file = (w : World) × Agree m file w

-- a formatted meter and an empty file
abbrev pub FirstAgree : Type 0
FirstAgree = DoAgree first_of_meter []

-- if they agree, each row of the file is a capture of the events that the meter holds
abbrev pub AgreeingIsCaptures : Type 0
AgreeingIsCaptures = (m : MeterWorld) (file : List Row) → DoAgree m file
    → AreCaptures (events_of m) file

-- Whatever comes to the meter, of anyone, and whatever it counts: they still agree. So it is of a poll that fails or is broken off, whose
-- frames are anyone's.
abbrev pub RunsAgree : {P A : Type 0} → {ghosts : Ghosts P} → Meter P A ghosts → Meter P A ghosts
    → Type 0
RunsAgree old new =
    (m m' : MeterWorld) (steps : List Step) (file : List Row) → Stands old m → Stands new m'
    → MeterRun m steps m' → DoAgree m file → DoAgree m' file

-- The power stops, and the meter is recovered with the events that the stop left: they still agree.
abbrev pub StopsAgree : Type 0
StopsAgree =
    (m : MeterWorld) (left : List Event) (file : List Row) → DoAgree m file
    → StoreNext m.store Stops (Rests left) → DoAgree (recovered left) file

-- A poll that is done over a line to this meter has exactly the rows that the meter's buffer had when it took the poll's GET; and if rows
-- of it are merged into the file, all or some in their order, the file and the meter still agree.
abbrev pub PollsAgree : {P A : Type 0} → {ghosts : Ghosts P} → Meter P A ghosts → Meter P A ghosts
    → Type 0
PollsAgree old new =
    (plan : PlanValue) (front : List Call) (frame : Parts) (done : PollerValue) (m m' : MeterWorld)
    (steps : List Step) (run : MeterRun m steps m') (file : List Row)
    → Stands old m → Stands new m' → DoAgree m file
    → Calls (fresh_poll plan) (front ++ On frame (Ok step.Done) ∷ []) done
    → Joins plan (front ++ On frame (Ok step.Done) ∷ []) (turns_of m steps m' run)
    → (w : World) × Agree m' file w × BringsBuffer plan w.served done.talk.rows
    × ((kept : List Row) → IsSublist kept done.talk.rows → DoAgree m' (merged file kept))
