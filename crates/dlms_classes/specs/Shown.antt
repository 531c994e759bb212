-- The content of an answer, and its value: the attributes' values of IEC 62056-6-2 (Blue Book: Data 4.3.1, Register 4.3.2, Profile
-- generic 4.3.6, Association LN 4.4.4, Clock 4.5.1). The constants are the meter's own.
use Rattle.std.specs.Prelude.{◌≡◌, ◌≢◌, ℕ, zero, suc, ◌-◌, ◌==◌, ◌≤◌, ◌||◌, nat_lt, if◌then◌else◌, List, [], ◌∷◌, map, length, slice_index, slice_range, codes, replicate, pos, ⊤, Bool, true, false, IsTrue, Option, Some}
use Rattle.std.specs.List.{position_from}
use Rattle.dlms_data.specs.Value.{Value, Values, null, array, structure, boolean, double_long_unsigned, octet_string, integer, long, unsigned, long_unsigned, enumerated, none, cons}
use Rattle.dlms_data.specs.DateTime.{NamesSecond}
use Rattle.dlms_data.specs.Building.{IsTime}
use Rattle.dlms_data.specs.declared.descriptor.Descriptor.{Descriptor}
use Rattle.dlms_frame.specs.Client.{sap_of}
use Rattle.dlms_frame.specs.declared.client.Client.{Client}
use Rattle.dlms_profile.specs.declared.rows.Row.{Row}
use Rattle.dlms_profile.specs.Rows.{in_range, entries}
use Rattle.dlms_profile.specs.declared.rows.TheConstants.{CAPACITY}
use Rattle.dlms_state.specs.Events.{clock_at}
use Rattle.dlms_state.specs.StateValue.{StateValue}
use Rattle.dlms_classes.specs.declared.rows.Cell.{Cell}
use Rattle.dlms_classes.specs.declared.rows.Cell.TheVariants.{Second, Number}
use Rattle.dlms_classes.specs.declared.table.Content.{Content}
use Rattle.dlms_classes.specs.declared.table.Content.TheVariants.{LogicalName, DeviceName, SerialNumber, Text, Register, ScalerUnit, Time, TimeZone, ClockStatus, DaylightTime, DaylightDeviation, DaylightEnabled, ClockBase, ObjectList, AssociatedPartners, Withheld, Secret, AssociationStatus, Buffer, CaptureObjects, CapturePeriod, SortMethod, SortObject, EntriesInUse, ProfileEntries}
use Rattle.dlms_classes.specs.Table.{Entry, object_of_column, captured_attribute}
use Rattle.dlms_classes.specs.Listing.{object_list, map_values}
use Rattle.dlms_data.specs.declared.date_time.TheConstants.{LAST_SECOND}

-- ---- what is shown

-- Which part of the buffer is wanted: all of it; the rows between two date-times; entries and columns, counted from 1.
pub data Part : Type 0 where
  whole : Part
  between : (first last : List ℕ) → Part
  cut : (first last first_column last_column : ℕ) → Part

-- A value, a second of the clock, rows, or the rows of these columns whose clock lies between two date-times.
pub data Shown : Type 0 where
  as_value : Value → Shown
  as_time : ℕ → Shown
  as_table : List (List Cell) → Shown
  as_range : (columns : List ℕ) → (first last : List ℕ) → List Row → Shown

-- the field of a column: column 0 is the clock, and the others are registers
abbrev pub cell_of : (id value : ℕ) → Cell
cell_of zero value = Second value
cell_of (suc register) value = Number value

abbrev pub cells_of : (columns values : List ℕ) → List Cell
cells_of [] values = []
cells_of (id ∷ columns) [] = []
cells_of (id ∷ columns) (value ∷ values) = cell_of id value ∷ cells_of columns values

-- the fields of a row: one a column, in their order
abbrev pub cells : List ℕ → Row → List Cell
cells columns row = cells_of columns row.values.items

-- the place of the clock among the columns, counted from 0, if it is one
abbrev pub clock_place : List ℕ → Option ℕ
clock_place columns = position_from (λ id. id == 0) 0 columns

-- the columns from first to last, counted from 1; 0 or a number past the end means the last one
abbrev pub last_column : (count last : ℕ) → ℕ
last_column count last = if (last == 0) || nat_lt count last then count else last

abbrev pub columns_between : (count first last : ℕ) → List Cell → List Cell
columns_between count first last row = slice_range row (first - 1) (last_column count last)

abbrev pub part_shown : (columns : List ℕ) → Part → List Row → Shown
part_shown columns whole rows = as_table (map (cells columns) rows)
part_shown columns (between first last) rows = as_range columns first last rows
part_shown columns (cut first last first_column last_column) rows =
    as_table (map (λ row. columns_between (length columns) first_column last_column
    (cells columns row)) (entries first last rows))

abbrev pub two : Value → Value → Values
two a b = cons a (cons b none)

abbrev pub four : Value → Value → Value → Value → Values
four a b c d = cons a (cons b (cons c (cons d none)))

-- the column that an object gives: class_id, logical_name, attribute_index, data_index
abbrev pub column_value : Entry → Value
column_value o = structure (four (long_unsigned o.class) (octet_string o.name)
    (integer (pos captured_attribute)) (long_unsigned 0))

-- no object: the sort method needs none
abbrev pub no_column : Value
no_column = structure (four (long_unsigned 0) (octet_string (replicate 6 0)) (integer (pos 0))
    (long_unsigned 0))

-- a date-time of which nothing is said
abbrev pub open_time : List ℕ
open_time = 255 ∷ 255 ∷ 255 ∷ 255 ∷ 255 ∷ 255 ∷ 255 ∷ 255 ∷ 255 ∷ 128 ∷ 0 ∷ 255 ∷ []

-- what an attribute shows of a state to a client; of the buffer, the part that is wanted
abbrev pub shown : StateValue → Client → Descriptor → Part → Content → Shown
shown s client d p LogicalName = as_value (octet_string d.name)
shown s client d p DeviceName = as_value (octet_string (codes "RTL0000000000001"))
shown s client d p SerialNumber = as_value (octet_string (codes "00000001"))
shown s client d p Text = as_value (octet_string s.text)
shown s client d p (Register channel) =
    as_value (double_long_unsigned (slice_index s.registers channel))
shown s client d p (ScalerUnit unit) =
    as_value (structure (two (integer (pos 0)) (enumerated unit)))
shown s client d p Time = as_time (clock_at s.last s.offset)
shown s client d p TimeZone = as_value (long (pos 0))
shown s client d p ClockStatus = as_value (unsigned 0)
shown s client d p DaylightTime = as_value (octet_string open_time)
shown s client d p DaylightDeviation = as_value (integer (pos 0))
shown s client d p DaylightEnabled = as_value (boolean false)
shown s client d p ClockBase = as_value (enumerated 1)
shown s client d p ObjectList = as_value (object_list client)
shown s client d p AssociatedPartners =
    as_value (structure (two (integer (pos (sap_of client))) (long_unsigned 1)))
shown s client d p AssociationStatus = as_value (enumerated 2)
shown s client d p Buffer = part_shown s.columns p s.rows.items
shown s client d p CaptureObjects =
    as_value (array (map_values (λ id. column_value (object_of_column id)) s.columns))
shown s client d p CapturePeriod = as_value (double_long_unsigned s.period)
shown s client d p SortMethod = as_value (enumerated 1)
shown s client d p SortObject = as_value no_column
shown s client d p EntriesInUse = as_value (double_long_unsigned (length s.rows.items))
shown s client d p ProfileEntries = as_value (double_long_unsigned CAPACITY)
-- these two nobody may read
shown s client d p Withheld = as_value null
shown s client d p Secret = as_value null

-- what is shown takes memory: all but numbers, an enumeration's place, a truth and nothing
abbrev pub takes_memory : Content → Bool
takes_memory (Register channel) = false
takes_memory TimeZone = false
takes_memory ClockStatus = false
takes_memory DaylightDeviation = false
takes_memory DaylightEnabled = false
takes_memory ClockBase = false
takes_memory Withheld = false
takes_memory Secret = false
takes_memory AssociationStatus = false
takes_memory CapturePeriod = false
takes_memory SortMethod = false
takes_memory EntriesInUse = false
takes_memory ProfileEntries = false
takes_memory _ = true

-- the part of the buffer that is wanted has a row
abbrev pub HasRows : (columns : List ℕ) → List Row → Part → Type 0
HasRows columns rows whole = rows ≢ []
HasRows columns rows (between first last) =
    (place : ℕ) × (from : ℕ) × (to : ℕ) × (clock_place columns ≡ Some place)
    × NamesSecond first from × NamesSecond last to × (in_range place from to rows ≢ [])
HasRows columns rows (cut first last first_column last_column) = entries first last rows ≢ []

-- the value for the request takes memory: for the buffer, if that part has a row
abbrev pub TakesMemory : StateValue → Part → Content → Type 0
TakesMemory s p Buffer = HasRows s.columns s.rows.items p
TakesMemory s p content = IsTrue (takes_memory content)

-- ---- which value shows it

-- the second is one of the clock's
abbrev pub HasTime : Cell → Type 0
HasTime (Second s) = s ≤ LAST_SECOND
HasTime (Number n) = ⊤

abbrev pub IsCell : Cell → Value → Type 0
IsCell (Second s) v = IsTime s v
IsCell (Number n) v = v ≡ double_long_unsigned n

-- as many values as elements, each of which shows its element
abbrev pub Match : {X : Type 0} → (X → Value → Type 0) → List X → Values → Type 0
Match R [] none = ⊤
Match R [] (cons v vs) = ⊥
Match R (x ∷ xs) none = ⊥
Match R (x ∷ xs) (cons v vs) = R x v × Match R xs vs

abbrev pub IsRow : List Cell → Value → Type 0
IsRow row (structure vs) = Match IsCell row vs
IsRow row _ = ⊥

abbrev pub IsTable : List (List Cell) → Value → Type 0
IsTable rows (array vs) = Match IsRow rows vs
IsTable rows _ = ⊥

-- the clock is one of the columns, and these are the rows whose clock lies between the seconds that two date-times name, both
-- included
pub record IsRange (columns : List ℕ) (first last : List ℕ) (rows : List Row) (v : Value)
    : Type 0 where
  pub place : ℕ
  pub is_column : clock_place columns ≡ Some place
  pub from : ℕ
  pub to : ℕ
  pub names_from : NamesSecond first from
  pub names_to : NamesSecond last to
  pub value : IsTable (map (cells columns) (in_range place from to rows)) v

abbrev pub Shows : Shown → Value → Type 0
Shows (as_value v) w = w ≡ v
Shows (as_time s) w = IsTime s w
Shows (as_table rows) w = IsTable rows w
Shows (as_range columns first last rows) w = IsRange columns first last rows w
