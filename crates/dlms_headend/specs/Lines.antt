-- The text of a readings file: a line for each row, its clock and its three registers in plain decimal, parted by commas
-- and ended by a line feed.
use Rattle.std.specs.Prelude.{◌≡◌, ◌≢◌, ℕ, ◌+◌, ◌<◌, List, [], ◌∷◌, ◌++◌, length, slice_index, All, Bool, false, not, ◌==◌, ◌&&◌}
use Rattle.std.specs.Fmt.{decimal}
use Rattle.dlms_headend.specs.declared.row.Row.{Row}
use Rattle.dlms_headend.specs.Rows.{IsReading}
use Rattle.dlms_headend.specs.declared.readings_fault.ReadingsFault.{ReadingsFault}
use Rattle.dlms_headend.specs.declared.readings_fault.ReadingsFault.TheVariants.{Line, Memory}

-- there is no sign at the front (a plus is 0x2B), and no leading zero (0x30)
abbrev pub is_plain : List ℕ → Bool
is_plain [] = false
is_plain (first ∷ []) = not (first == 0x2B)
is_plain (first ∷ next ∷ rest) = not (first == 0x2B) && not (first == 0x30)

-- none of the bytes is the separator
abbrev pub Lacks : ℕ → List ℕ → Type 0
Lacks separator [] = Unit {0}
Lacks separator (byte ∷ bytes) = (byte ≢ separator) × Lacks separator bytes

-- a number, what ends it, and what follows
abbrev pub field : ℕ → ℕ → List ℕ → List ℕ
field number separator rest = decimal number ++ separator ∷ rest

-- a row's line, and what follows it; the comma is 0x2C and the line feed 0x0A
abbrev pub line : Row → List ℕ → List ℕ
line row rest =
    field row.clock 0x2C (field (slice_index row.registers 0) 0x2C
    (field (slice_index row.registers 1) 0x2C
    (field (slice_index row.registers 2) 0x0A rest)))

-- the lines of the rows, in their order, and what follows them
abbrev pub lines : List Row → List ℕ → List ℕ
lines [] rest = rest
lines (row ∷ rows) rest = line row (lines rows rest)

abbrev pub text_of : List Row → List ℕ
text_of rows = lines rows []

-- the text is that of these rows
pub record IsFile (text : List ℕ) (rows : List Row) : Type 0 where
  pub spelled : text ≡ text_of rows
  pub readings : All IsReading rows

-- the text begins with the line of this row
pub record BeginsWith (text : List ℕ) (row : Row) (rest : List ℕ) : Type 0 where
  pub spelled : text ≡ line row rest
  pub reading : IsReading row

-- after the lines of some rows comes text that does not begin with a line: the first such line has this number
pub record IsFirstFault (text : List ℕ) (number : ℕ) : Type 0 where
  pub rows : List Row
  pub rest : List ℕ
  pub spelled : text ≡ lines rows rest
  pub readings : All IsReading rows
  pub counted : number ≡ length rows + 1
  pub more : 0 < length rest
  pub no_line : (row : Row) (behind : List ℕ) → BeginsWith rest row behind → ⊥

-- reading stopped at the first line of another form, or for want of memory in a text that has octets
abbrev pub StopsIn : List ℕ → ReadingsFault → Type 0
StopsIn text (Line number) = IsFirstFault text number
StopsIn text Memory = 0 < length text

-- what a refusal says of the text; memory is wanting only for a file that has rows
abbrev pub Refuses : List ℕ → ReadingsFault → Type 0
Refuses text (Line number) = IsFirstFault text number
Refuses text Memory = (rows : List Row) × IsFile text rows × (0 < length rows)
