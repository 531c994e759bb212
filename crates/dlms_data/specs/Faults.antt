-- Where each fault occurs: what precedes it, and what is wrong there.
use Rattle.std.specs.Prelude.{◌≡◌, ◌↔◌, ℕ, zero, suc, ◌<◌, ◌≤◌, ◌-◌, ◌⊎◌, List, [], ◌∷◌, ◌++◌, length, Option, Some, None, Err}
use Rattle.dlms_data.specs.declared.tag.Tag.{Tag}
use Rattle.dlms_data.specs.declared.tag.Tag.TheVariants as tag
use Rattle.dlms_data.specs.declared.tag.Plain.{Plain}
use Rattle.dlms_data.specs.declared.tag.Plain.TheVariants as plain
use Rattle.dlms_data.specs.Value.{Values, count, values_depth}
use Rattle.dlms_data.specs.Bits.{bytes_for}
use Rattle.dlms_data.specs.Spelling.{IsLength, SpellAll}
use Rattle.dlms_axdr.specs.Reading.{Fault, short, no_type, no_length, too_deep}
use Rattle.dlms_data.specs.Reading.{type_of, data_at}

-- what is wrong at a length: it is cut, or no length begins so
abbrev pub LengthFault : Fault → List ℕ → Type 0
LengthFault short bytes = (bytes ≡ [])
    ⊎ ((b : ℕ) × (rest : List ℕ) × (bytes ≡ b ∷ rest) × (0x80 < b) × (b ≤ 0x84)
    × (length rest < b - 0x80))
LengthFault no_length bytes = (b : ℕ) × (rest : List ℕ) × (bytes ≡ b ∷ rest)
    × ((b ≡ 0x80) ⊎ (0x84 < b))
LengthFault no_type bytes = ⊥
LengthFault too_deep bytes = ⊥

-- the content after the tag of a type that contains no other values: a fixed number of bytes, or a length n and as many bytes as it
-- needs
pub data Content : Type 0 where
  fixed : ℕ → Content
  counted : (ℕ → ℕ) → Content

abbrev pub content_of : Plain → Content
content_of plain.Null = fixed 0
content_of plain.Boolean = fixed 1
content_of plain.BitString = counted bytes_for
content_of plain.DoubleLong = fixed 4
content_of plain.DoubleLongUnsigned = fixed 4
content_of plain.OctetString = counted (λ n. n)
content_of plain.VisibleString = counted (λ n. n)
content_of plain.Utf8String = counted (λ n. n)
content_of plain.Bcd = fixed 1
content_of plain.Integer = fixed 1
content_of plain.Long = fixed 2
content_of plain.Unsigned = fixed 1
content_of plain.LongUnsigned = fixed 2
content_of plain.Long64 = fixed 8
content_of plain.Long64Unsigned = fixed 8
content_of plain.Enum = fixed 1
content_of plain.DateTime = fixed 12
content_of plain.Date = fixed 5
content_of plain.Time = fixed 4

-- what is wrong there: it is cut, or its length is wrong
abbrev pub ContentFault : Fault → Content → List ℕ → Type 0
ContentFault f (fixed k) bytes = (f ≡ short) × (length bytes < k)
ContentFault f (counted needs) bytes =
    LengthFault f bytes ⊎ ((f ≡ short)
    × ((len rest : List ℕ) × (n : ℕ) × (bytes ≡ len ++ rest) × IsLength len n
    × (length rest < needs n)))

-- what is wrong at a value: no byte is there, no type has its tag, or its content is wrong
abbrev pub TypeFault : (List ℕ → Type 0) → Fault → Option Tag → List ℕ → Type 0
TypeFault inside f None bytes = f ≡ no_type
TypeFault inside f (Some tag.Array) bytes = inside bytes
TypeFault inside f (Some tag.Structure) bytes = inside bytes
TypeFault inside f (Some (tag.Plain p)) bytes = ContentFault f (content_of p) bytes

abbrev pub ValueFault : (List ℕ → Type 0) → Fault → List ℕ → Type 0
ValueFault inside f [] = f ≡ short
ValueFault inside f (b ∷ bytes) = TypeFault inside f (type_of b) bytes

-- what is wrong inside an array or a structure, with this many levels left: there is none left, its count is wrong, or something is
-- wrong at the value after fewer whole values than its count
abbrev pub Inside : ℕ → Fault → List ℕ → Type 0
Inside zero f bytes = f ≡ too_deep
Inside (suc levels) f bytes =
    LengthFault f bytes
    ⊎ ((len front rest : List ℕ) × (n : ℕ) × (vs : Values) × (bytes ≡ len ++ (front ++ rest))
    × IsLength len n × SpellAll front vs × (values_depth vs ≤ levels) × (count vs < n)
    × ValueFault (Inside levels f) f rest)

-- the law: a fault is reported exactly if it occurs so, with eight levels
abbrev pub TellsFaults : Type 0
TellsFaults = (bytes : List ℕ) (f : Fault) → (data_at 8 bytes ≡ Err f)
    ↔ ValueFault (Inside 8 f) f bytes
