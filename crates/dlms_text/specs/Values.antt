-- The values that a text writes (of the types of IEC 62056-6-2, Blue Book 4.1.5).
use Rattle.std.specs.Prelude.{◌≡◌, ◌⊎◌, ◌^◌, ◌<◌, ℕ, ℤ, List, Ok, length, true, false, codes}
use Rattle.hex.specs.Hex.{decode_of}
use Rattle.dlms_data.specs.Value.{Value, null, boolean, double_long, double_long_unsigned, octet_string, visible_string, utf8_string, integer, long, unsigned, long_unsigned, long64, long64_unsigned, enumerated}
use Rattle.dlms_data.specs.Spelling.{IsSpelling}
use Rattle.dlms_data.specs.Building.{IsTime}
use Rattle.dlms_text.specs.Kinds.{word_of}
use Rattle.dlms_text.specs.Texts.{IsBelow, IsSigned, before, behind, has}
use Rattle.dlms_text.specs.declared.fault.ValueFault.{ValueFault}
use Rattle.dlms_text.specs.declared.fault.ValueFault.TheVariants.{Form, Memory}
use Rattle.dlms_text.specs.declared.kind.Kind.{Kind}
use Rattle.dlms_text.specs.declared.kind.Kind.TheVariants.{Unsigned, LongUnsigned, DoubleLongUnsigned, Long64Unsigned, Integer, Long, DoubleLong, Long64, Enum, Bool, Text, Visible, Utf8, Hex, Raw}

-- an unsigned number of this many bits, and a signed one within this bound
abbrev pub IsPlain : ℕ → List ℕ → (ℕ → Value) → Value → Type 0
IsPlain bits text made v = (n : ℕ) × IsBelow (2 ^ bits) text n × (v ≡ made n)

abbrev pub IsWithSign : ℕ → List ℕ → (ℤ → Value) → Value → Type 0
IsWithSign bound text made v = (z : ℤ) × IsSigned bound text z × (v ≡ made z)

-- the unsigned numbers, and the signed ones
abbrev pub WritesPlain : Kind → List ℕ → Value → Type 0
WritesPlain Unsigned text v = IsPlain 8 text unsigned v
WritesPlain LongUnsigned text v = IsPlain 16 text long_unsigned v
WritesPlain DoubleLongUnsigned text v = IsPlain 32 text double_long_unsigned v
WritesPlain Long64Unsigned text v = IsPlain 64 text long64_unsigned v
WritesPlain Enum text v = IsPlain 8 text enumerated v
WritesPlain kind text v = ⊥

abbrev pub WritesSigned : Kind → List ℕ → Value → Type 0
WritesSigned Integer text v = IsWithSign (2 ^ 7) text integer v
WritesSigned Long text v = IsWithSign (2 ^ 15) text long v
WritesSigned DoubleLong text v = IsWithSign (2 ^ 31) text double_long v
WritesSigned Long64 text v = IsWithSign (2 ^ 63) text long64 v
WritesSigned kind text v = ⊥

-- what follows the word of a kind and its colon writes this value
abbrev pub Writes : Kind → List ℕ → Value → Type 0
Writes Bool text v = ((text ≡ codes "true") × (v ≡ boolean true))
    ⊎ ((text ≡ codes "false") × (v ≡ boolean false))
Writes Text text v = v ≡ octet_string text
Writes Visible text v = v ≡ visible_string text
Writes Utf8 text v = v ≡ utf8_string text
Writes Hex text v = (bytes : List ℕ) × (decode_of text ≡ Ok bytes) × (v ≡ octet_string bytes)
Writes Raw text v = (bytes : List ℕ) × (decode_of text ≡ Ok bytes) × IsSpelling bytes v
Writes kind text v = WritesPlain kind text v ⊎ WritesSigned kind text v

-- the word of a kind, a colon, and what writes the value
pub record IsWorded (text : List ℕ) (v : Value) : Type 0 where
  pub kind : Kind
  pub parted : has 58 text ≡ true
  pub word : before 58 text ≡ word_of kind
  pub writes : Writes kind (behind 58 text) v

-- null-data is `null`, the date-time of this second is `now`, and every other value is written after a word
pub data IsWritten (now : ℕ) (text : List ℕ) (v : Value) : Type 0 where
  is_null : text ≡ codes "null" → v ≡ null → IsWritten now text v
  is_now : text ≡ codes "now" → IsTime now v → IsWritten now text v
  is_worded : IsWorded text v → IsWritten now text v

-- Text and octets need memory, if there are any. The digits of octets are read before they are looked at as a value.
abbrev pub AreOctets : List ℕ → Type 0
AreOctets text = (bytes : List ℕ) × (decode_of text ≡ Ok bytes)

abbrev pub NeedsMemory : Kind → List ℕ → Type 0
NeedsMemory Text text = 0 < length text
NeedsMemory Visible text = 0 < length text
NeedsMemory Utf8 text = 0 < length text
NeedsMemory Hex text = AreOctets text
NeedsMemory Raw text = AreOctets text
NeedsMemory kind text = ⊥

-- the date-time of `now`, or what a word and a colon precede
pub record WordNeedsMemory (text : List ℕ) : Type 0 where
  pub kind : Kind
  pub parted : has 58 text ≡ true
  pub word : before 58 text ≡ word_of kind
  pub needs : NeedsMemory kind (behind 58 text)

abbrev pub TextNeedsMemory : List ℕ → Type 0
TextNeedsMemory text = (text ≡ codes "now") ⊎ WordNeedsMemory text

-- why a text writes no value: `Form` if it is not the text of any, `Memory` only if it needs memory
abbrev pub Fails : (Value → Type 0) → Type 0 → ValueFault → Type 0
Fails writes needs Form = (v : Value) → writes v → ⊥
Fails writes needs Memory = needs
