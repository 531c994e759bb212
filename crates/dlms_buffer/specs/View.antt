-- What the cells of a row show.
use Rattle.std.specs.Prelude.{◌≡◌, ℕ, ◌<◌, List, length, map, get_or}
use Rattle.dlms_values.specs.Value.{Value, null}
use Rattle.dlms_values.specs.View.{value_of}
use Rattle.dlms_buffer.specs.declared.cell.Cell.{Cell}
use Rattle.dlms_buffer.specs.Rows.{last_given, rows_since, column}

-- a value, and how many rows come after the one that gives it
abbrev pub Shown : Type 0
Shown = Value × ℕ

abbrev pub cell_view : Cell → Shown
cell_view c = (value_of c.value, c.age)

-- what a column shows after these of its values
abbrev pub shown : List Value → Shown
shown values = (last_given values, rows_since values)

-- the cells show these rows: each has the last value of its column that is given
abbrev pub ShowRows : List (List Value) → List Shown → Type 0
ShowRows rows cells = (j : ℕ) → j < length cells → get_or cells j (null, 0) ≡ shown (column j rows)
