-- What values show of the octets that they borrow.
use Rattle.std.specs.Prelude.{◌≡◌, List, Bool, take, Option, Some, None}
use Rattle.dlms_data.specs.Bits.{bits_of}
use Rattle.dlms_values.specs.declared.bits.Bits.{Bits as BorrowedBits}
use Rattle.dlms_values.specs.declared.items.Items.{Items}
use Rattle.dlms_values.specs.declared.value.Value.{Value as Borrowed}
use Rattle.dlms_values.specs.declared.value.Value.TheVariants.{Null, DontCare, Boolean, BitString, Float32, Float64, Signed, Unsigned, Octets, CompactArray, Array, Structure}
use Rattle.dlms_values.specs.Value.{Value, Values, null, dont_care, boolean, bit_string, float32, float64, signed, unsigned, octets, compact_array, array, structure, none, cons}
use Rattle.dlms_values.specs.Reading.{values_at, values_read}

abbrev pub bits_in : BorrowedBits → List Bool
bits_in b = take b.count (bits_of b.bytes.now)

abbrev pub values_in : Items → Values
values_in i = values_read (values_at i.levels i.count i.bytes.now)

abbrev pub value_of : Borrowed → Value
value_of Null = null
value_of DontCare = dont_care
value_of (Boolean b) = boolean b
value_of (BitString b) = bit_string (bits_in b)
value_of (Float32 n) = float32 n
value_of (Float64 n) = float64 n
value_of (Signed k z) = signed k z
value_of (Unsigned k n) = unsigned k n
value_of (Octets k b) = octets k b.now
value_of (CompactArray c) = compact_array c.is_structure c.tags.now c.contents.now
value_of (Array i) = array (values_in i)
value_of (Structure i) = structure (values_in i)

-- the first of the values is returned and the others are left, or there is none
abbrev pub IsNext : Values → Option Borrowed → Values → Type 0
IsNext none None after = after ≡ none
IsNext (cons v vs) (Some w) after = (value_of w ≡ v) × (after ≡ vs)
IsNext _ _ after = ⊥
