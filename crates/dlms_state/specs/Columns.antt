-- The columns of a row: which objects are captured, and their values.
-- capture_objects of class Profile generic (7) of IEC 62056-6-2 (Blue Book 4.3.6). Id 0 is the time of the clock, 1 to 3 are
-- the values of the registers 0 to 2; the numbers are the meter's own.
use Rattle.std.specs.Prelude.{◌≡◌, ℕ, ◌<◌, ◌≤◌, Bool, true, ◌&&◌, not, nat_eq, nat_le, nat_lt, List, [], ◌∷◌, length, map, slice_index}
use Rattle.std.specs.List.{list_all, list_any}
use Rattle.dlms_profile.specs.declared.rows.Row.{Row}
use Rattle.dlms_profile.specs.Rows.{row_of_values}
use Rattle.dlms_state.specs.declared.event.TheConstants.{LAST_COLUMN, LAST_SECOND}

-- no id stands twice
abbrev pub are_distinct : List ℕ → Bool
are_distinct [] = true
are_distinct (id ∷ ids) = not (list_any (nat_eq id) ids) && are_distinct ids

-- each id is one of a column
abbrev pub are_known : List ℕ → Bool
are_known ids = list_all (λ id. nat_le id LAST_COLUMN) ids

-- these ids may be the columns: one at least, none of them unknown, none of them twice
abbrev pub fits_columns : List ℕ → Bool
fits_columns ids = nat_lt 0 (length ids) && (are_known ids && are_distinct ids)

-- the columns of a new meter: the clock and the three registers
abbrev pub first_columns : List ℕ
first_columns = 0 ∷ 1 ∷ 2 ∷ 3 ∷ []

-- the value of a column, at a second and with these registers
abbrev pub value_of : (clock : ℕ) (registers : List ℕ) (id : ℕ) → ℕ
value_of clock registers id = slice_index (clock ∷ registers) id

-- the row that is captured then
abbrev pub row_of_columns : (columns : List ℕ) (clock : ℕ) (registers : List ℕ) → Row
row_of_columns columns clock registers = row_of_values (map (value_of clock registers) columns)

-- A row of these columns: a value a column, and the clock's in its range.
pub record IsRowOf (columns : List ℕ) (row : Row) : Type 0 where
  pub count : length row.values.items ≡ length columns
  pub clock : (k : ℕ) → k < length columns → slice_index columns k ≡ 0
      → slice_index row.values.items k ≤ LAST_SECOND
