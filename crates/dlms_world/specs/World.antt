-- The whole world: a meter over its store, a poller, the line between them, and the readings file.
use Rattle.std.specs.Prelude.{◌≡◌, ℕ, false, List, [], ◌∷◌, ◌++◌, map, filter, nat_le, drop, slice_index, Bool, Option, Some, None, Result, Ok}
use Rattle.dlms_apdu.specs.Forms.{ResponseForm, get_data, get_block}
use Rattle.dlms_apdu.specs.Reading.{response_at}
use Rattle.dlms_apdu.specs.declared.fault.Refusal.{Refusal}
use Rattle.dlms_headend.specs.Asking.{PlanValue, first_second, last_second}
use Rattle.dlms_headend.specs.declared.row.Row.{Row}
use Rattle.dlms_headend.specs.declared.stage.Course.{Course}
use Rattle.dlms_headend.specs.declared.stage.Course.TheVariants.{Ready}
use Rattle.dlms_link.specs.World.{LinkWorld as Link, start as first_link}
use Rattle.dlms_meter.specs.ClientRecord.{fresh_record}
use Rattle.dlms_meter.specs.Run.{Records, events_in}
use Rattle.dlms_meter.specs.Transfers.{Exchange}
use Rattle.dlms_profile.specs.Rows.{in_range}
use Rattle.dlms_profile.specs.declared.rows.Row.{Row as Captured}
use Rattle.dlms_service.specs.Session.{SessionValue, fresh}
use Rattle.dlms_classes.specs.Shown.{clock_place}
use Rattle.dlms_state.specs.Events.{captures, columns_after, row_after, buffer_after}
use Rattle.dlms_state.specs.Refusal.{IsLegal}
use Rattle.dlms_state.specs.declared.event.Event.{Event}
use Rattle.dlms_store.specs.World.{StoreWorld as Memory, StoreStep, StoreRun}
use Rattle.dlms_store.specs.World.StoreWorld.{Runs, InDoubt, Rests}
use Rattle.dlms_store.specs.World.StoreStep.{Adds, AddsBehind, Settles, Refuses, Fails, Closes, ClosesInDoubt, Stops, Opens, OpenFails}

pub record World : Type 0 where
  -- the poller's link at both its ends, the line between them, and what went over it in this connection
  pub link : Link
  -- whether the meter's end came up in this connection, and has been up since
  pub ours : Bool
  -- what the meter keeps of the poller's client above its link, and of each other client; what stands here of the poller's own
  -- is not looked at
  pub session : SessionValue
  pub others : Records
  -- the APDUs that the meter served in this connection, each with the events that it then held
  pub served : List Exchange
  -- the events that the meter's store holds
  pub memory : Memory
  -- the poll: its plan, its course, and the rows that it was done with
  pub plan : PlanValue
  pub course : Course
  pub rows : List Row
  -- the readings
  pub file : List Row

-- ---- events

-- those that no stop takes back
abbrev pub settled_in : Memory → List Event
settled_in (Runs settled pending) = settled
settled_in (InDoubt settled pending) = settled
settled_in (Rests events) = events

-- the store runs, or was stopped by a fault of its device: the meter is on
abbrev pub IsOn : Memory → Type 0
IsOn (Runs settled pending) = Unit {0}
IsOn (InDoubt settled pending) = Unit {0}
IsOn (Rests events) = ⊥

-- what the store may do while the meter stays on
abbrev pub IsUsual : StoreStep → Type 0
IsUsual (Adds event) = Unit {0}
IsUsual (AddsBehind event) = Unit {0}
IsUsual Settles = Unit {0}
IsUsual Refuses = Unit {0}
IsUsual Fails = Unit {0}
IsUsual Closes = ⊥
IsUsual ClosesInDoubt = ⊥
IsUsual Stops = ⊥
IsUsual (Opens events) = ⊥
IsUsual OpenFails = ⊥

abbrev pub AreUsual : List StoreStep → Type 0
AreUsual [] = Unit {0}
AreUsual (step ∷ steps) = IsUsual step × AreUsual steps

-- a call in which the store takes these events; what it holds is legal, as its own contract has it
pub record Remembers (before : Memory) (taken : List Event) (after : Memory) : Type 0 where
  pub steps : List StoreStep
  pub usual : AreUsual steps
  pub run : StoreRun before steps after
  pub all : events_in after ≡ events_in before ++ taken
  pub legal : IsLegal (events_in after)

-- ---- answers

abbrev pub GivesDataBy : Result ResponseForm Refusal → Type 0
GivesDataBy (Ok (get_data invoke value)) = Unit {0}
GivesDataBy (Ok (get_block invoke last number raw)) = Unit {0}
GivesDataBy _ = ⊥

-- an answer of data, whole or a block
abbrev pub GivesData : List ℕ → Type 0
GivesData apdu = GivesDataBy (response_at apdu)

-- ---- rows

-- a capture, as the readings have it: its first value is the clock, and the others are the registers. Of rows of other columns than
-- the clock and three registers the poll reads none.
abbrev pub reading_of : Captured → Row
reading_of row = record {
  clock = slice_index row.values.items 0;
  registers = drop 1 row.values.items;
}

-- the readings of all captures of these events
abbrev pub all_readings : List Event → List Row
all_readings E = map reading_of (map row_after (captures E))

-- the rows whose clock lies between two seconds, if the clock is at this place; none if it is not a column
abbrev pub rows_between : Option ℕ → (first last : ℕ) → List Captured → List Captured
rows_between None first last rows = []
rows_between (Some place) first last rows = in_range place first last rows

-- the rows whose clock is at least this second
abbrev pub rows_since : Option ℕ → (first : ℕ) → List Captured → List Captured
rows_since None first rows = []
rows_since (Some place) first rows =
    filter (λ row. nat_le first (slice_index row.values.items place)) rows

-- the buffer's rows between two seconds, both included
abbrev pub rows_from : (first last : ℕ) → List Event → List Row
rows_from first last E = map reading_of
    (rows_between (clock_place (columns_after E)) first last (buffer_after E))

-- all of its rows from this second on; only those until another one, if it is given
abbrev pub all_rows_from : ℕ → Option ℕ → List Event → List Row
all_rows_from first None E = map reading_of
    (rows_since (clock_place (columns_after E)) first (buffer_after E))
all_rows_from first (Some last) E = rows_from first last E

-- the rows that a poll by this plan asks for, if the meter takes its GET after these events
abbrev pub rows_asked : PlanValue → List Event → List Row
rows_asked plan E = rows_from (first_second plan.after) (last_second plan.until) E

-- what it is to bring: the rows whose clock is at least the plan's first second, and at most its last one, if it has one
abbrev pub rows_due : PlanValue → List Event → List Row
rows_due plan E = all_rows_from (first_second plan.after) plan.until E

-- ---- the beginning

-- a formatted meter, an empty file, a poller, and nothing on the line
abbrev pub first_world : PlanValue → World
first_world plan = record {
  link = first_link plan.client;
  ours = false;
  session = fresh plan.client;
  others = fresh_record;
  served = [];
  memory = Runs [] [];
  plan = plan;
  course = Ready;
  rows = [];
  file = [];
}
