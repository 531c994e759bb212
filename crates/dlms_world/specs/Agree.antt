-- The file and the meter agree.
use Rattle.std.specs.Prelude.{◌≡◌, ◌<◌, List, [], ◌∷◌, Contains}
use Rattle.dlms_headend.specs.Asking.{PlanValue, IsBufferRequest}
use Rattle.dlms_headend.specs.declared.row.Row.{Row}
use Rattle.dlms_headend.specs.declared.stage.Course.TheVariants.{Done}
use Rattle.dlms_meter.specs.Transfers.{Exchange}
use Rattle.dlms_state.specs.declared.event.Event.{Event}
use Rattle.dlms_world.specs.World.{World, all_readings, rows_due, first_world}
use Rattle.dlms_meter.specs.Run.{events_in}
use Rattle.dlms_world.specs.Turn.{Run, IsOver}

-- each of these rows is one of those
abbrev pub AreAmong : List Row → List Row → Type 0
AreAmong those [] = Unit {0}
AreAmong those (row ∷ rows) = Contains those row × AreAmong those rows

-- each row is the reading of a capture of these events
abbrev pub AreCaptures : List Event → List Row → Type 0
AreCaptures E rows = AreAmong (all_readings E) rows

-- the row's clock is below that of each of these
abbrev pub IsBefore : Row → List Row → Type 0
IsBefore row [] = Unit {0}
IsBefore row (later ∷ rows) = (row.clock < later.clock) × IsBefore row rows

-- the clocks rise strictly: no row occurs twice, and the rows are in order
abbrev pub Rise : List Row → Type 0
Rise [] = Unit {0}
Rise (row ∷ rows) = IsBefore row rows × Rise rows

-- these rows are those of the meter's buffer when it took the poll's GET, whose clock is at least the plan's second
pub record BringsBuffer (plan : PlanValue) (served : List Exchange) (rows : List Row) : Type 0 where
  pub get : Exchange
  pub took : Contains served get
  pub asked : IsBufferRequest plan.after plan.until get.apdu
  pub are : rows ≡ rows_due plan get.before

-- a poll that is done has exactly the rows of the buffer at its GET
abbrev pub PollsAreTold : Type 0
PollsAreTold = (plan : PlanValue) (w : World) → Run (first_world plan) w → w.course ≡ Done
    → BringsBuffer w.plan w.served w.rows

-- each row of the readings is a capture of the events that the meter holds, whatever came since it was read
abbrev pub ReadingsAreCaptures : Type 0
ReadingsAreCaptures = (plan : PlanValue) (w : World) → Run (first_world plan) w
    → AreCaptures (events_in w.memory) w.file

-- if the captures' clocks rise strictly, no row occurs twice, and the rows are in order
abbrev pub ReadingsRise : Type 0
ReadingsRise = (plan : PlanValue) (w : World) → Run (first_world plan) w
    → Rise (all_readings (events_in w.memory)) → Rise w.file

-- once a poll is over nothing is on the line, so a new poller may take its place at once
abbrev pub LineIsSilent : Type 0
LineIsSilent = (plan : PlanValue) (w : World) → Run (first_world plan) w → IsOver w.course
    → (w.link.up_line ≡ []) × (w.link.down_line ≡ [])
