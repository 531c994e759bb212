-- Reading a checkpoint, by the places of its parts in the present layout.
use Rattle.std.specs.Prelude.{◌≡◌, ℕ, zero, suc, ◌+◌, ◌-◌, ◌*◌, ◌/◌, ◌%◌, ◌<◌, ◌≤◌, ◌^◌, All, IfSome, List, [], ◌∷◌, ◌++◌, Option, None, Some, length, take, drop, slice_range}
use Rattle.std.specs.Int.{cast_signed, w64}
use Rattle.byteorder.specs.Endian.{big_from}
use Rattle.dlms_profile.specs.declared.rows.Row.{Row}
use Rattle.dlms_profile.specs.Rows.{none_before, row_of_values}
use Rattle.dlms_state.specs.Columns.{IsRowOf}
use Rattle.dlms_state.specs.StateValue.{StateValue}
use Rattle.dlms_checkpoint.specs.Bodies.{secret_count, text_count, column_count, reader_secret_count, columns_said, first_said, next_said, whole_length}
use Rattle.dlms_checkpoint.specs.Checkpoint.{HoldsRows, row_width}
use Rattle.dlms_checkpoint.specs.Layouts.{IsCheckpointOf}
use Rattle.dlms_checkpoint.specs.declared.fields.TheConstants.{HEAD_BYTES}
use Rattle.dlms_checkpoint.specs.declared.version.Version.{Version}
use Rattle.dlms_checkpoint.specs.declared.version.Version.TheVariants.{Columns}
use Rattle.dlms_checkpoint.specs.declared.writing.TheConstants.{RING_ROWS}
use Rattle.dlms_profile.specs.declared.rows.TheConstants.{CAPACITY}

-- three registers from this place on
unfoldable pub registers_at : ℕ → List ℕ → List ℕ
registers_at place bytes = big_from place 4 bytes ∷ big_from (place + 4) 4 bytes
    ∷ big_from (place + 8) 4 bytes ∷ []

-- the state of a head, without rows, whose next row gets this number
unfoldable pub parts_at : List ℕ → ℕ → StateValue
parts_at bytes next = record {
  registers = registers_at 16 bytes;
  last = big_from 0 4 bytes;
  offset = cast_signed w64 (big_from 4 8 bytes);
  period = big_from 12 4 bytes;
  text = slice_range bytes 46 (46 + text_count bytes);
  secret = slice_range bytes 29 (29 + secret_count bytes);
  reader_secret = slice_range bytes 292 (292 + reader_secret_count bytes);
  columns = columns_said bytes;
  rows = none_before next;
}

-- so many values, of four bytes each
abbrev pub values_at : ℕ → List ℕ → List ℕ
values_at zero bytes = []
values_at (suc n) bytes = big_from 0 4 bytes ∷ values_at n (drop 4 bytes)

-- the row of this many values from this place on
unfoldable pub row_at : (width place : ℕ) → List ℕ → Row
row_at width place bytes = row_of_values (values_at width (drop place bytes))

-- this many rows of this many values
abbrev pub rows_at : (width count : ℕ) → List ℕ → List Row
rows_at width zero bytes = []
rows_at width (suc n) bytes = row_at width 0 bytes ∷ rows_at width n (drop (4 * width) bytes)

-- a first body was taken, and no more than it says
pub record HasHead (bytes : List ℕ) : Type 0 where
  pub long : HEAD_BYTES ≤ length bytes
  pub secret : secret_count bytes ≤ 16
  pub text : text_count bytes ≤ 240
  pub columns : column_count bytes ≤ 4
  pub reader_secret : reader_secret_count bytes ≤ 16
  pub order : first_said bytes ≤ next_said bytes
  pub few : next_said bytes ≤ first_said bytes + CAPACITY
  pub within : length bytes ≤ whole_length bytes

-- the bodies of a version taken so far, joined, as they are on the medium
pub record Taken : Type 0 where
  pub version : Version
  pub bytes : List ℕ

-- ---- ring pages

-- the bytes of all bodies in the present layout, and the places of the ring pages taken so far, one page after another
pub record Filled : Type 0 where
  pub bytes : List ℕ
  pub ring : List ℕ

-- the first ring page that the bodies name, if they name any, and the page that is not filled
abbrev pub first_page : List ℕ → ℕ
first_page bytes = first_said bytes / RING_ROWS

abbrev pub open_page : List ℕ → ℕ
open_page bytes = next_said bytes / RING_ROWS

-- the bytes of a ring page's places
abbrev pub page_length : List ℕ → ℕ
page_length columns = row_width columns * RING_ROWS

-- the page that is taken next, where any is
abbrev pub awaited_page : Filled → ℕ
awaited_page filled = first_page filled.bytes + length filled.ring / page_length
    (columns_said filled.bytes)

-- In the places of rows whose numbers begin with `from`, each from the first number on holds a row of these columns.
abbrev pub RowsFit : (columns : List ℕ) (first from : ℕ) → List ℕ → Type 0
RowsFit columns first from places = (i : ℕ) → first ≤ from + i
    → row_width columns * (i + 1) ≤ length places
    → IsRowOf columns (row_at (length columns) (row_width columns * i) places)

-- these are places of the k-th ring page: 30 of them, with clocks in range if one of the columns is the clock
pub record ArePlaces (columns : List ℕ) (first k : ℕ) (places : List ℕ) : Type 0 where
  pub long : length places ≡ page_length columns
  pub rows : RowsFit columns first (RING_ROWS * k) places

-- the places of the k-th page among those taken
abbrev pub page_taken : Filled → ℕ → List ℕ
page_taken filled k = take (page_length (columns_said filled.bytes))
    (drop (page_length (columns_said filled.bytes) * (k - first_page filled.bytes)) filled.ring)

-- The bodies and the ring pages taken spell this state.
pub record IsFilledBy (s : StateValue) (filled : Filled) : Type 0 where
  pub bodies : IsCheckpointOf Columns s filled.bytes
  pub ring : (k : ℕ) → first_page filled.bytes ≤ k → k < open_page filled.bytes
      → HoldsRows s.columns s.rows (RING_ROWS * k) RING_ROWS (page_taken filled k)

-- all bodies were taken, and they are the bytes of some state
pub record IsWhole (bytes : List ℕ) : Type 0 where
  pub head : HasHead bytes
  pub all : length bytes ≡ whole_length bytes
  pub spelled : (s : StateValue) × IsCheckpointOf Columns s bytes

-- Bodies of some state, and ring pages that they name: whole pages, no more of them than are named, with rows of the columns.
pub record IsFilling (filled : Filled) : Type 0 where
  pub bodies : IsWhole filled.bytes
  pub pages : length filled.ring % page_length (columns_said filled.bytes) ≡ 0
  pub few : length filled.ring ≤ page_length
      (columns_said filled.bytes) * (open_page filled.bytes - first_page filled.bytes)
  pub rows : RowsFit (columns_said filled.bytes) (first_said filled.bytes)
      (RING_ROWS * first_page filled.bytes) filled.ring

-- ---- the state, row by row

-- The part restored of bodies in the present layout and of the ring pages that they name: the page that is taken next, and the
-- state, if there was memory for its rows.
pub record Refilled : Type 0 where
  pub bytes : List ℕ
  pub page : ℕ
  pub state : Option StateValue

-- the number of rows in the ring pages before this one
abbrev pub rows_before : List ℕ → (page : ℕ) → ℕ
rows_before bytes page = RING_ROWS * page - first_said bytes

-- the state of a head, with the first rows of places that begin with those of the first ring page
abbrev pub state_with : List ℕ → (count : ℕ) → (places : List ℕ) → StateValue
state_with bytes count places = record (parts_at bytes 0) {
  rows = record {
    items = rows_at (length (columns_said bytes)) count
        (drop (row_width (columns_said bytes) * (first_said bytes % RING_ROWS)) places);
    next = first_said bytes + count;
  };
}

-- This part is restored if these are the places of the ring pages taken so far, one page after another.
pub record IsRefilled (r : Refilled) (ring : List ℕ) : Type 0 where
  pub filling : IsFilling (record { bytes = r.bytes; ring = ring })
  pub octets : All (λ byte. byte < 2 ^ 8) ring
  pub page : r.page ≡ awaited_page (record { bytes = r.bytes; ring = ring })
  pub rows : IfSome r.state (λ s. s ≡ state_with r.bytes (rows_before r.bytes r.page) ring)

-- After the skipped ones of these places come rows that a state may take.
pub record MayTake (s : StateValue) (places : List ℕ) (skipped count : ℕ) : Type 0 where
  pub within : row_width s.columns * (skipped + count) ≤ length places
  pub near : skipped ≤ RING_ROWS
  pub room : length s.rows.items + count ≤ CAPACITY
  pub numbers : s.rows.next + count ≤ 2 ^ 64
  pub rows : (i : ℕ) → i < count
      → IsRowOf s.columns (row_at (length s.columns) (row_width s.columns * i)
      (drop (row_width s.columns * skipped) places))

-- the state with these rows, too
abbrev pub with_rows : StateValue → (places : List ℕ) → (skipped count : ℕ) → StateValue
with_rows s places skipped count = record s {
  rows = record {
    items = s.rows.items ++ rows_at (length s.columns) count
        (drop (row_width s.columns * skipped) places);
    next = s.rows.next + count;
  };
}

-- the state, if there is one, with the rows of a page's places after the skipped ones
abbrev pub with_places : Option StateValue → (places : List ℕ) → (skipped : ℕ) → Option StateValue
with_places None places skipped = None
with_places (Some s) places skipped = Some (with_rows s places skipped (RING_ROWS - skipped))

-- the next page taken: places before the first row are not looked at
abbrev pub with_page : Refilled → (places : List ℕ) → Refilled
with_page r places = record {
  bytes = r.bytes;
  page = r.page + 1;
  state = with_places r.state places (first_said r.bytes - RING_ROWS * r.page);
}
