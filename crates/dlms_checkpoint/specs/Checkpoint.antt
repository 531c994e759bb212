-- The bytes of a checkpoint: a whole state as it is on the meter's medium, in bodies and in the ring pages that they name. This is
-- the present layout. Numbers have their highest byte first.
use Rattle.std.specs.Prelude.{◌≡◌, ℕ, zero, suc, ◌+◌, ◌-◌, ◌*◌, ◌%◌, ◌<◌, ◌≤◌, ◌^◌, nat_eq, nat_lt, if◌then◌else◌, List, [], ◌∷◌, ◌++◌, length, take, drop, replicate, slice_index, slice_index_or}
use Rattle.std.specs.Int.{cast_unsigned, w64}
use Rattle.std.specs.List.{flat_map}
use Rattle.byteorder.specs.Endian.{big_bytes}
use Rattle.dlms_profile.specs.declared.rows.Row.{Row}
use Rattle.dlms_profile.specs.Rows.{RowsValue, first_number, row_at}
use Rattle.dlms_state.specs.StateValue.{StateValue, IsWithinLimits, FitsTypes}
use Rattle.dlms_checkpoint.specs.declared.writing.TheConstants.{RING_ROWS}

-- bytes in a field of this size: their count, the bytes, and zeros after them
unfoldable pub field : ℕ → List ℕ → List ℕ
field room bytes = length bytes ∷ (bytes ++ replicate (room - length bytes) 0)

-- three registers, of four bytes each
unfoldable pub registers_bytes : List ℕ → List ℕ
registers_bytes registers = big_bytes 4 (slice_index registers 0)
    ++ (big_bytes 4 (slice_index registers 1) ++ big_bytes 4 (slice_index registers 2))

-- a row: its values, of four bytes each
unfoldable pub row_bytes : Row → List ℕ
row_bytes row = flat_map (big_bytes 4) row.values.items

-- how many bytes a row of these columns has
abbrev pub row_width : (columns : List ℕ) → ℕ
row_width columns = 4 * length columns

-- Where the rows end at 2 ^ 64, the eight bytes of their end are zeros; with no row there, those of their beginning say 1.
abbrev pub first_written : RowsValue → ℕ
first_written rows = if nat_eq (first_number rows) (2 ^ 64) then 1 else first_number rows

abbrev pub next_written : RowsValue → ℕ
next_written rows = if nat_eq rows.next (2 ^ 64) then 0 else rows.next

-- The bytes before the rows: the last moment (4 bytes), the offset (8, in two's complement), the capture period (4), the registers
-- (12), management's secret (a count and 16), the text (a count and 240), the ids of the columns (a count and 4), the reader's
-- secret (a count and 16), the number of the first row (8), and the number after the last row (8).
unfoldable pub head_bytes : StateValue → (first next : ℕ) → List ℕ
head_bytes s first next =
    big_bytes 4 s.last
    ++ (big_bytes 8 (cast_unsigned w64 s.offset)
    ++ (big_bytes 4 s.period
    ++ (registers_bytes s.registers
    ++ (field 16 s.secret
    ++ (field 240 s.text
    ++ (field 4 s.columns
    ++ (field 16 s.reader_secret
    ++ (big_bytes 8 first
    ++ big_bytes 8 next))))))))

-- ---- rows at places

-- the row of this number
abbrev pub row_numbered : RowsValue → ℕ → Row
row_numbered rows n = slice_index_or rows.items (n - first_number rows) (row_at 0)

-- The places hold the rows of these columns from the one numbered `from` on. A place below the first number is not looked at.
pub record HoldsRows (columns : List ℕ) (rows : RowsValue) (from count : ℕ) (places : List ℕ)
    : Type 0 where
  pub long : length places ≡ row_width columns * count
  pub each : (n : ℕ) → first_number rows ≤ n → from ≤ n → n < from + count
      → take (row_width columns) (drop (row_width columns * (n - from)) places) ≡ row_bytes
      (row_numbered rows n)

-- The k-th ring page has the places of the rows numbered 30 k to 30 k + 29. It belongs to a state where all of them were
-- captured and the last one is still kept.
pub record IsNamed (rows : RowsValue) (k : ℕ) : Type 0 where
  pub some : first_number rows < RING_ROWS * (k + 1)
  pub filled : RING_ROWS * (k + 1) ≤ rows.next

-- the number of rows in the ring page that is not filled, and the number of the first place there
abbrev pub unfilled : RowsValue → ℕ
unfilled rows = rows.next % RING_ROWS

abbrev pub unfilled_from : RowsValue → ℕ
unfilled_from rows = rows.next - unfilled rows

-- ---- the bytes in the bodies

-- the head, and the places of the ring page that is not filled
pub record AreBytes (s : StateValue) (bytes : List ℕ) : Type 0 where
  pub places : List ℕ
  pub joined : bytes ≡ head_bytes s (first_written s.rows) (next_written s.rows) ++ places
  pub holds : HoldsRows s.columns s.rows (unfilled_from s.rows) (unfilled s.rows) places

-- a state that a legal list of events may leave, whose rows have numbers of 64 bits
pub record IsLegalState (s : StateValue) : Type 0 where
  pub within : IsWithinLimits s
  pub fits : FitsTypes s
  pub numbers : s.rows.next ≤ 2 ^ 64

-- ---- as they are written

-- a place as it is written: zeros below the first number
abbrev pub place_of : (columns : List ℕ) → RowsValue → ℕ → List ℕ
place_of columns rows n = if nat_lt n (first_number rows) then replicate (row_width columns) 0
    else row_bytes (row_numbered rows n)

-- so many places from that number on
abbrev pub places_of : (columns : List ℕ) → RowsValue → (from count : ℕ) → List ℕ
places_of columns rows from zero = []
places_of columns rows from (suc count) = places_of columns rows from count
    ++ place_of columns rows (from + count)

-- the bytes of a state's bodies
unfoldable pub checkpoint_bytes : StateValue → List ℕ
checkpoint_bytes s = head_bytes s (first_written s.rows) (next_written s.rows)
    ++ places_of s.columns s.rows (unfilled_from s.rows) (unfilled s.rows)
