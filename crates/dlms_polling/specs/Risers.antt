-- The rows of an answer that a readings file takes: each is later than every row before it.
use Rattle.std.specs.Prelude.{◌&&◌, ◌-◌, nat_eq, Bool, false, ℕ, List, [], ◌∷◌, filter, length, Option, Some, None, slice_get}
use Rattle.std.specs.Str.{bytes_eq}
use Rattle.dlms_headend.specs.Merged.{added, is_later}
use Rattle.dlms_headend.specs.declared.row.Row.{Row}
use Rattle.dlms_world.specs.Sublists.{IsSublist}

-- the first row, and those of the others that are later than it and than every row before them
abbrev pub risers : List Row → List Row
risers [] = []
risers (row ∷ rows) = row ∷ filter (is_later (Some row.clock)) (risers rows)

-- two rows are the same
abbrev pub same : Row → Row → Bool
same one other = nat_eq one.clock other.clock && bytes_eq one.registers other.registers

-- the row is the last one of a file, if the file has rows
abbrev pub is_last : Option Row → Row → Bool
is_last None row = false
is_last (Some last) row = same last row

-- How many rows of an answer are left out of these readings: all rows, less those that are the last row of the readings, and less
-- those that are filed.
abbrev pub count_left_out : List Row → List Row → ℕ
count_left_out before rows = length rows - length
    (filter (is_last (slice_get before (length before - 1))) rows) - length
    (added before (risers rows))

-- what is filed of an answer are some of its rows, in their order
abbrev pub FilesSome : Type 0
FilesSome = (rows : List Row) → IsSublist (risers rows) rows
