-- The rows of a buffer and what they show (Blue Book 4.3.6: a null-data stands for the value of the row before; for the clock it
-- stands for the clock of the row before plus the capture period).
use Rattle.std.specs.Prelude.{◌≡◌, ◌==◌, ℕ, ◌-◌, ◌^◌, min, List, [], ◌∷◌, length, map, reverse, Bool, true, false, not, Result, Ok, Err, unwrap_or, get_or, if◌then◌else◌}
use Rattle.std.specs.List.{find, take_while}
use Rattle.dlms_values.specs.Value.{Value, Values, null, structure, none, cons, count}
use Rattle.dlms_buffer.specs.declared.fault.BufferFault.{BufferFault}
use Rattle.dlms_buffer.specs.declared.fault.BufferFault.TheVariants.{Row, Width}

-- the values in a structure, in their order
abbrev pub listed : Values → List Value
listed none = []
listed (cons v vs) = v ∷ listed vs

-- the values of a row: it is a structure with a value for each column
abbrev pub row_of : ℕ → Value → Result (List Value) BufferFault
row_of width (structure vs) = if count vs == width then Ok (listed vs) else Err Width
row_of width _ = Err Row

-- whether a value is left out
abbrev pub is_null : Value → Bool
is_null null = true
is_null _ = false

abbrev pub is_given : Value → Bool
is_given v = not (is_null v)

-- the last value of a column that is given, and null before any is
unfoldable pub last_given : List Value → Value
last_given values = unwrap_or (find is_given (reverse values)) null

-- how many rows come after the one that gives it; a count that passes 2^64 - 1 stays there
unfoldable pub rows_since : List Value → ℕ
rows_since values = min (length (take_while is_null (reverse values))) (2 ^ 64 - 1)

-- a column of rows
abbrev pub column : ℕ → List (List Value) → List Value
column j rows = map (λ row. get_or row j null) rows
