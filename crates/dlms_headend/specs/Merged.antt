-- Readings that grow by the rows of a poll.
use Rattle.std.specs.Prelude.{ℕ, Bool, true, ◌&&◌, nat_lt, nat_le, List, ◌++◌, filter, Option, Some, None, option_map, slice_get, length, ◌-◌}
use Rattle.dlms_data.specs.declared.date_time.TheConstants.{LAST_SECOND}
use Rattle.dlms_headend.specs.declared.row.Row.{Row}

-- the clock of the last row
abbrev pub last_clock : List Row → Option ℕ
last_clock rows = option_map (λ row. row.clock) (slice_get rows (length rows - 1))

-- the row's clock is greater than that one, if there is one
abbrev pub is_later : Option ℕ → Row → Bool
is_later None row = true
is_later (Some clock) row = nat_lt clock row.clock

-- a readings file may hold the row: its clock shows one of the meter's seconds
abbrev pub is_reading : Row → Bool
is_reading row = nat_le row.clock LAST_SECOND

-- the rows that a readings file may hold, in their order
abbrev pub readings_in : List Row → List Row
readings_in rows = filter is_reading rows

-- both: it is one of those that are added after this clock
abbrev pub is_added : Option ℕ → Row → Bool
is_added last row = is_reading row && is_later last row

-- the given rows, in their order, whose clock is greater than that of the file's last row; all of them after an empty file
abbrev pub added : List Row → List Row → List Row
added file given = filter (is_later (last_clock file)) given

-- the file's rows, followed by those
abbrev pub merged : List Row → List Row → List Row
merged file given = file ++ added file given
