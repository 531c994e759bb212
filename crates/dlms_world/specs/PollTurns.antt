-- How the calls of a poller are steps of the world.
use Rattle.std.specs.Prelude.{◌≡◌, ℕ, List, [], ◌∷◌, ◌++◌, Option, None, Some, Result, Ok, Err}
use Rattle.dlms_frame.specs.Frame.{Parts}
use Rattle.dlms_frame.specs.declared.client.Client.{Client}
use Rattle.dlms_headend.specs.Asking.{PlanValue}
use Rattle.dlms_headend.specs.Merged.{merged}
use Rattle.dlms_headend.specs.PollerValue.{PollerValue}
use Rattle.dlms_headend.specs.Polling.{fresh_poll, Fits, Begins, Polls, TimesOut, CanTimeOut}
use Rattle.dlms_headend.specs.declared.poll_fault.PollFault.{PollFault}
use Rattle.dlms_headend.specs.declared.row.Row.{Row}
use Rattle.dlms_headend.specs.declared.stage.Course.{Course}
use Rattle.dlms_headend.specs.declared.stage.Course.TheVariants.{Ready, Running, Done, Failed}
use Rattle.dlms_headend.specs.declared.step.PollStep.{PollStep}
use Rattle.dlms_headend.specs.declared.step.PollStep.TheVariants.{Send}
use Rattle.dlms_world.specs.Sublists.{IsSublist}
use Rattle.dlms_world.specs.World.{World, first_world}
use Rattle.dlms_world.specs.Turn.{Turn, records_in}

-- the poll has not ended
abbrev pub IsUnderWay : Course → Type 0
IsUnderWay Ready = Unit {0}
IsUnderWay Running = Unit {0}
IsUnderWay Done = ⊥
IsUnderWay (Failed fault) = ⊥

-- what a poll took in this connection: nothing, before its first frame went out
abbrev pub taken_by : Course → List (List ℕ) → List (List ℕ)
taken_by Ready taken = []
taken_by Running taken = taken
taken_by Done taken = taken
taken_by (Failed fault) taken = taken

-- the poller is the one that the world speaks of
pub record IsPollerOf (p : PollerValue) (w : World) : Type 0 where
  pub plan : p.plan ≡ w.plan
  pub course : p.course ≡ w.course
  pub link : IsUnderWay w.course → p.link ≡ w.link.client
  pub rows : w.course ≡ Done → p.talk.rows ≡ w.rows
  pub fits : Fits p (taken_by w.course w.link.taken)

-- the meter's record of each client, its events, and the file are as they were
pub record IsAsideSame (w now : World) : Type 0 where
  pub records : (who : Client) → records_in now who ≡ records_in w who
  pub memory : now.memory ≡ w.memory
  pub file : now.file ≡ w.file

-- A step of the world, after which this is its poller: the frames that it sent are on the line, after those already on the way to
-- the meter; these are left on the way to the poller; and nothing else has changed.
abbrev pub TurnsInto : World → (sent left : List Parts) → PollerValue → Type 0
TurnsInto w sent left new =
    (now : World) × Turn w now × IsPollerOf new now × (now.link.up_line ≡ w.link.up_line ++ sent)
    × (now.link.down_line ≡ left) × IsAsideSame w now

-- the frame that a call answered, if it did
abbrev pub sent_first : Option Parts → List Parts
sent_first None = []
sent_first (Some frame) = frame ∷ []

abbrev pub sent_on : Result PollStep PollFault → List Parts
sent_on (Ok (Send frame)) = frame ∷ []
sent_on _ = []

abbrev pub sent_again : Result Parts PollFault → List Parts
sent_again (Ok frame) = frame ∷ []
sent_again (Err fault) = []

-- a new poller is that of the first world
abbrev pub NewIsFirst : Type 0
NewIsFirst = (plan : PlanValue) → IsPollerOf (fresh_poll plan) (first_world plan)

-- the same after any poll, by any plan of any client, while nothing is on the line
abbrev pub NewIsTurn : Type 0
NewIsTurn = (plan : PlanValue) (w : World) → w.link.up_line ≡ [] → w.link.down_line ≡ []
    → TurnsInto w [] [] (fresh_poll plan)

-- A merge of rows of a poll that is done, all or some of them in their order, is a step: the file has its rows, followed by the later
-- ones of those.
abbrev pub MergeIsTurn : Type 0
MergeIsTurn =
    (w : World) (p : PollerValue) (kept : List Row) → IsPollerOf p w → p.course ≡ Done
    → IsSublist kept p.talk.rows
    → (now : World) × Turn w now × IsPollerOf p now × (now ≡ record w { file = merged w.file kept })

-- the call that gives the first frame is a step
abbrev pub NextIsTurn : Type 0
NextIsTurn = (w : World) (result : Option Parts) (old new : PollerValue) → IsPollerOf old w
    → w.course ≡ Ready → Begins old result new
    → TurnsInto w (sent_first result) w.link.down_line new

-- a call that is given the oldest frame on the way is a step
abbrev pub OnIsTurn : Type 0
OnIsTurn =
    (w : World) (frame : Parts) (rest : List Parts) (result : Result PollStep PollFault)
    (old new : PollerValue) → IsPollerOf old w → w.course ≡ Running
    → w.link.down_line ≡ frame ∷ rest → Polls w.link.taken frame old result new
    → TurnsInto w (sent_on result) rest new

-- a call that reports a timeout, while nothing is on the line, is a step
abbrev pub TimeoutIsTurn : Type 0
TimeoutIsTurn =
    (w : World) (result : Result Parts PollFault) (old new : PollerValue) → IsPollerOf old w
    → w.course ≡ Running → CanTimeOut old
    → w.link.up_line ≡ [] → w.link.down_line ≡ [] → TimesOut old result new
    → TurnsInto w (sent_again result) [] new
