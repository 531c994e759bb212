-- What a cell shows one row later.
use Rattle.std.specs.Prelude.{◌+◌, ◌-◌, ◌^◌, min, List, [], ◌∷◌, if◌then◌else◌}
use Rattle.dlms_values.specs.Value.{Value}
use Rattle.dlms_buffer.specs.Rows.{is_null}
use Rattle.dlms_buffer.specs.View.{Shown}

abbrev pub step : Shown → Value → Shown
step cell value = if is_null value then (cell.0, min (cell.1 + 1) (2 ^ 64 - 1)) else (value, 0)

-- the same for the cells of a row
abbrev pub steps : List Shown → List Value → List Shown
steps [] values = []
steps (cell ∷ cells) [] = cell ∷ cells
steps (cell ∷ cells) (value ∷ values) = step cell value ∷ steps cells values
