-- Columns that stand still between the two answers of one poll, over a whole run; and the readings file by name.
use Rattle.std.specs.Prelude.{◌≡◌, ◌≢◌, ℕ, List, [], ◌∷◌, filter_map}
use Rattle.std.specs.List.{AllByRecursion}
use Rattle.dlms_headend.specs.Asking.{PlanValue, columns_bytes}
use Rattle.dlms_headend.specs.declared.plan.Columns.TheVariants.{Asked}
use Rattle.dlms_headend.specs.declared.stage.Course.TheVariants.{Running, Done}
use Rattle.dlms_meter.specs.Run.{events_in}
use Rattle.dlms_meter.specs.Transfers.{Exchange}
use Rattle.dlms_state.specs.Events.{columns_set}
use Rattle.dlms_state.specs.declared.event.Event.{Event}
use Rattle.dlms_world.specs.Agree.{AreAmong}
use Rattle.dlms_world.specs.Named.{named_readings}
use Rattle.dlms_world.specs.Turn.{Turn, Begins, GoesOn, AsksNext, Leaves, Ends, FailsAt, TimedOut, GivesUp, TurnsTo, Merges, LosesUp, LosesDown, Arrives, Intruded, OtherSends, Happens, Works, StopsInside, Restarted, Run, Stays, Goes}
use Rattle.dlms_world.specs.World.{World, first_world}

-- the events that the meter accepts in a step: at a frame, at a pulse or a moment, and in a call that a stop ends
abbrev pub accepted_in : {w now : World} → Turn w now → List Event
accepted_in (Begins w ready) = []
accepted_in (GoesOn w frame rest runs line own) = []
accepted_in (AsksNext w frame rest apdu short runs line free asks) = []
accepted_in (Leaves w frame rest rows runs line free released) = []
accepted_in (Ends w frame rest rows runs line down released) = []
accepted_in (FailsAt w frame rest fault runs line fails) = []
accepted_in (TimedOut w runs up) = []
accepted_in (GivesUp w fault runs closed) = []
accepted_in (TurnsTo w plan up down) = []
accepted_in (Merges w kept done some) = []
accepted_in (LosesUp w) = []
accepted_in (LosesDown w) = []
accepted_in (Arrives w frame rest choice o memory line takes) = o.accepted
accepted_in (Intruded w frame choice o memory between closed takes) = o.accepted
accepted_in
    (OtherSends w who frame choice own reply answer accepted memory on differs of handles remembers) =
    accepted
accepted_in (Happens w event memory on follows remembers) = event ∷ []
accepted_in (Works w memory on remembers) = []
accepted_in (StopsInside w accepted mid memory on remembers stops) = accepted
accepted_in (Restarted w step memory unusual next) = []

-- the columns that these events set, one after another
abbrev pub columns_set_by : List Event → List (List ℕ)
columns_set_by events = filter_map columns_set events

-- A poll that asks for the columns is under way, between their two answers: after the association the meter served a GET of them,
-- and none since.
pub record IsBetween (w : World) : Type 0 where
  pub runs : w.course ≡ Running
  pub asks : w.plan.columns ≡ Asked
  pub association : Exchange
  pub first : Exchange
  pub since : List Exchange
  pub served : w.served ≡ association ∷ first ∷ since
  pub asked : first.apdu ≡ columns_bytes
  pub not_again : AllByRecursion (λ (x : Exchange). x.apdu ≢ columns_bytes) since

-- between the two answers of a poll no step of the run sets columns
abbrev pub StandStill : {first w : World} → Run first w → Type 0
StandStill Stays = Unit {0}
StandStill (Goes mid now run turn) = StandStill run × (IsBetween now → columns_set_by (accepted_in turn) ≡ [])

-- each poll that is done, and after which the run continues, asked for the columns
abbrev pub EachAsks : {first w : World} → Run first w → Type 0
EachAsks Stays = Unit {0}
EachAsks (Goes mid now run turn) = EachAsks run × (mid.course ≡ Done → mid.plan.columns ≡ Asked)

-- Each row of the readings is a capture of the events that the meter holds, by name: it has the clock, and in the place of a register
-- what that register held. Columns may be set anywhere in the run, but for the stretches between the two answers of a poll.
abbrev pub ReadingsAreNamed : Type 0
ReadingsAreNamed = (plan : PlanValue) (w : World) (run : Run (first_world plan) w) → StandStill run
    → EachAsks run → AreAmong (named_readings (events_in w.memory)) w.file

-- ---- where the columns stand still

-- no step of the run sets columns
abbrev pub SetsNone : {first w : World} → Run first w → Type 0
SetsNone Stays = Unit {0}
SetsNone (Goes mid now run turn) = SetsNone run × (columns_set_by (accepted_in turn) ≡ [])

-- in a run without such a step
abbrev pub StillUnset : Type 0
StillUnset = (first w : World) (run : Run first w) → SetsNone run → StandStill run

-- and in one that continues with any step after which no poll is under way: before a poll begins, and once it is over
abbrev pub StillApart : Type 0
StillApart = (first mid now : World) (run : Run first mid) (turn : Turn mid now) → StandStill run
    → now.course ≢ Running → StandStill (Goes mid now run turn)
