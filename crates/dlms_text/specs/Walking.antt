-- Encodings (A-XDR, IEC 61334-6), read value by value.
use Rattle.std.specs.Prelude.{◌≡◌, ◌⊎◌, ℕ, List, ◌∷◌, Result, Ok, Err, IsErr, IsOkAnd}
use Rattle.dlms_axdr.specs.Reading.{Fault, length_at}
use Rattle.dlms_axdr.specs.declared.fault.DataFault.{DataFault}
use Rattle.dlms_axdr.specs.declared.fault.DataFault.TheVariants as unread
use Rattle.dlms_text.specs.declared.fault.ValueFault.{ValueFault}
use Rattle.dlms_text.specs.declared.fault.ValueFault.TheVariants.{Form, Memory}
use Rattle.dlms_text.specs.declared.walk.Front.{Front}
use Rattle.dlms_text.specs.declared.walk.Front.TheVariants.{Array, Structure, Plain}

-- a tag and the number of values, followed by the rest
abbrev pub IsHead : ℕ → List ℕ → ℕ → List ℕ → Type 0
IsHead tag bytes count rest = (after : List ℕ) × (bytes ≡ tag ∷ after)
    × (length_at after ≡ Ok (count, rest))

-- the bytes begin with the head of an array (tag 1), of a structure (tag 2), or of neither
abbrev pub IsFront : List ℕ → Front → List ℕ → Type 0
IsFront bytes (Array count) rest = IsHead 1 bytes count rest
IsFront bytes (Structure count) rest = IsHead 2 bytes count rest
IsFront bytes Plain rest = (rest ≡ bytes)
    × ((count : ℕ) (after : List ℕ) → IsHead 1 bytes count after ⊎ IsHead 2 bytes count after → ⊥)

-- Why nothing is returned: `Form` means that nothing can be read, `Memory` that what can be read needs memory.
abbrev pub IsUnread : {Y : Type 0} → (Y → Type 0) → ValueFault → Result Y Fault → Type 0
IsUnread needs Form read = IsErr read
IsUnread needs Memory read = IsOkAnd read needs

-- The value read is returned, seen by `view`; or the reason why not.
abbrev pub Reads : {X Y : Type 0} → (X → Y) → (Y → Type 0) → Result X ValueFault → Result Y Fault
    → Type 0
Reads view needs (Ok x) read = read ≡ Ok (view x)
Reads view needs (Err fault) read = IsUnread needs fault read

-- the fault of bytes that could not be read: only a failed allocation is `Memory`
abbrev pub fault_of : DataFault → ValueFault
fault_of unread.Memory = Memory
fault_of unread.Short = Form
fault_of unread.Tag = Form
fault_of unread.Length = Form
fault_of unread.Depth = Form
