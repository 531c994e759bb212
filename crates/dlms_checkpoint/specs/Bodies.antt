-- How the bytes of a checkpoint are cut into bodies, each the payload of a page, and what the first body must contain. The counts
-- and numbers are read from bytes in the present layout.
use Rattle.std.specs.Prelude.{slice_range, ℕ, ◌+◌, ◌-◌, ◌*◌, ◌/◌, ◌%◌, ◌^◌, min, nat_lt, nat_le, nat_eq, ◌&&◌, if◌then◌else◌, List, length, take, drop, slice_index, Bool, Option, Some, None}
use Rattle.byteorder.specs.Endian.{big_from}
use Rattle.dlms_checkpoint.specs.declared.fields.TheConstants.{HEAD_BYTES}
use Rattle.dlms_checkpoint.specs.declared.version.Version.{Version}
use Rattle.dlms_checkpoint.specs.Layouts.{as_present, head_length, missing}
use Rattle.dlms_checkpoint.specs.declared.reading.BodyFault.{BodyFault}
use Rattle.dlms_checkpoint.specs.declared.reading.BodyFault.TheVariants.{Length, Counts}
use Rattle.dlms_profile.specs.declared.rows.TheConstants.{CAPACITY}
use Rattle.dlms_checkpoint.specs.declared.writing.TheConstants.{MOST_BODY, RING_ROWS}

-- the body at this place, counted from 0
abbrev pub body_at : ℕ → List ℕ → List ℕ
body_at index bytes = take MOST_BODY (drop (MOST_BODY * index) bytes)

-- how many bodies the bytes fill; none is empty
abbrev pub body_count : List ℕ → ℕ
body_count bytes = (length bytes + (MOST_BODY - 1)) / MOST_BODY

-- the counts that a first body says
abbrev pub secret_count : List ℕ → ℕ
secret_count bytes = slice_index bytes 28

abbrev pub text_count : List ℕ → ℕ
text_count bytes = slice_index bytes 45

abbrev pub column_count : List ℕ → ℕ
column_count bytes = slice_index bytes 286

abbrev pub reader_secret_count : List ℕ → ℕ
reader_secret_count bytes = slice_index bytes 291

-- the columns in these bytes
abbrev pub columns_said : List ℕ → List ℕ
columns_said bytes = slice_range bytes 287 (287 + column_count bytes)

-- the numbers of the first row and after the last row, as the bytes have them
abbrev pub first_field : List ℕ → ℕ
first_field bytes = big_from 308 8 bytes

abbrev pub next_field : List ℕ → ℕ
next_field bytes = big_from 316 8 bytes

-- the number after the last row: 0 means 2 ^ 64 if the first number is above 0
abbrev pub next_said : List ℕ → ℕ
next_said bytes = if nat_eq (next_field bytes) 0 && nat_lt 0 (first_field bytes) then 2 ^ 64
    else next_field bytes

-- the first number: 1 means 2 ^ 64 if that is the number after the last row
abbrev pub first_said : List ℕ → ℕ
first_said bytes = if nat_eq (next_said bytes) (2 ^ 64) && nat_eq (first_field bytes) 1 then 2 ^ 64
    else first_field bytes

-- secrets of at most 16 bytes, a text of at most 240, at most 4 columns, and at most CAPACITY rows, from the first number to the
-- next one
abbrev pub counts_fit : List ℕ → Bool
counts_fit bytes =
    nat_le (secret_count bytes) 16
    && (nat_le (text_count bytes) 240
    && (nat_le (column_count bytes) 4
    && (nat_le (reader_secret_count bytes) 16
    && (nat_le (first_said bytes) (next_said bytes) && nat_le (next_said bytes)
    (first_said bytes + CAPACITY)))))

-- how many bytes there are in all, as the first body says
abbrev pub whole_length : List ℕ → ℕ
whole_length bytes = HEAD_BYTES + 4 * column_count bytes * (next_said bytes % RING_ROWS)

-- the length of the next body after these bytes; 0 if there is none
abbrev pub awaited : List ℕ → ℕ
awaited bytes = min MOST_BODY (whole_length bytes - length bytes)

-- why bytes are no first body of this version, or None
abbrev pub first_fault : Version → List ℕ → Option BodyFault
first_fault version bytes =
    if nat_lt (length bytes) (head_length version) then Some Length
    else if counts_fit (as_present version bytes)
    then (if nat_eq (length bytes)
    (min MOST_BODY (whole_length (as_present version bytes) - missing version)) then None
    else Some Length)
    else Some Counts
