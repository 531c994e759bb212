-- Rows by name, whatever columns the meter has and had.
use Rattle.std.specs.Prelude.{◌≡◌, true, List, ◌∷◌, ◌++◌, map}
use Rattle.dlms_classes.specs.Listing.{map_values}
use Rattle.dlms_classes.specs.Shown.{column_value}
use Rattle.dlms_classes.specs.Table.{object_of_column}
use Rattle.dlms_data.specs.Value.{Value, array}
use Rattle.dlms_headend.specs.Asking.{PlanValue, IsBufferRequest, columns_bytes}
use Rattle.dlms_headend.specs.Columns.{columns}
use Rattle.dlms_headend.specs.declared.plan.Columns.TheVariants.{Asked}
use Rattle.dlms_headend.specs.declared.row.Row.{Row}
use Rattle.dlms_headend.specs.declared.stage.Course.TheVariants.{Done}
use Rattle.dlms_meter.specs.Transfers.{Exchange}
use Rattle.dlms_service.specs.Stake.{is_success}
use Rattle.dlms_state.specs.Events.{captures, columns_after, clock_after, registers_after}
use Rattle.dlms_state.specs.declared.event.Event.{Event}
use Rattle.dlms_world.specs.Agree.{AreAmong}
use Rattle.dlms_world.specs.Turn.{Run}
use Rattle.dlms_world.specs.World.{World, first_world}

-- the meter's columns after these events, by class, name, attribute and data index
abbrev pub names_after : List Event → Value
names_after E = array (map_values (λ id. column_value (object_of_column id)) (columns_after E))

-- a capture by name: the clock at that time, and the registers' values, whatever the columns were
abbrev pub named_reading : List Event → Row
named_reading capture = record { clock = clock_after capture; registers = registers_after capture }

abbrev pub named_readings : List Event → List Row
named_readings E = map named_reading (captures E)

-- A poll that asks for the columns: after the association the meter served a GET of them, then the GET of the rows, and after it
-- and its blocks a GET of the columns again. At the first and at the last of them its columns were the clock and the three
-- registers; if they were at the GET of the rows too, each row has in the place of a register what that register held at a capture.
-- The first two were answered with data.
pub record IsNamed (plan : PlanValue) (served : List Exchange) (rows : List Row) : Type 0 where
  pub association : Exchange
  pub first : Exchange
  pub get : Exchange
  pub between : List Exchange
  pub last : Exchange
  pub more : List Exchange
  pub are : served ≡ association ∷ first ∷ get ∷ (between ++ last ∷ more)
  pub asked_first : first.apdu ≡ columns_bytes
  pub asked : IsBufferRequest plan.after plan.until get.apdu
  pub asked_last : last.apdu ≡ columns_bytes
  pub success_first : is_success first.outcome.answer ≡ true
  pub success : is_success get.outcome.answer ≡ true
  pub names_first : names_after first.before ≡ columns
  pub names_last : names_after last.before ≡ columns
  pub named : names_after get.before ≡ columns → AreAmong (named_readings get.before) rows

-- a poll that is done and asks for the columns is such a one
abbrev pub PollsAreNamed : Type 0
PollsAreNamed = (plan : PlanValue) (w : World) → Run (first_world plan) w → w.course ≡ Done
    → w.plan.columns ≡ Asked → IsNamed w.plan w.served w.rows
