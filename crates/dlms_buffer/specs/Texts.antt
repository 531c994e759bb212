-- Values as text.
use Rattle.std.specs.Prelude.{◌≡◌, ℕ, ℤ, pos, negsuc, suc, Bool, true, false, nat_le, ◌&&◌, List, [], ◌++◌, codes, decimal, IsTrue, IsFalse, Some, from_bits, if◌then◌else◌}
use Rattle.std.specs.List.{list_all}
use Rattle.std.specs.Float.{Float, Format, float_is_finite, binary32, binary64}
use Rattle.ryu.specs.Parse.{parse_float}
use Rattle.dlms_data.specs.Bits.{HoldsBits}
use Rattle.dlms_text.specs.Decimals.{scaled}
use Rattle.dlms_text.specs.Json.{pairs_of}
use Rattle.dlms_values.specs.Value.{Value, null, dont_care, boolean, bit_string, float32, float64, signed, unsigned, octets, compact_array, array, structure, count}

-- a character of printable ASCII
abbrev pub is_printable : ℕ → Bool
is_printable octet = nat_le 32 octet && nat_le octet 126

-- octets as they are if each is printable, else in hexadecimal digits
abbrev pub text_of_octets : List ℕ → List ℕ
text_of_octets b = if list_all is_printable b then b else pairs_of b

abbrev pub word_of : Bool → List ℕ
word_of true = codes "true"
word_of false = codes "false"

-- a number with a sign times a power of ten
abbrev pub scaled_signed : ℤ → ℤ → List ℕ
scaled_signed (pos n) scaler = scaled false n scaler
scaled_signed (negsuc n) scaler = scaled true (suc n) scaler

-- a float as digits that read as it again, unless it is infinite or no number
abbrev pub IsFloatText : Format → Float → List ℕ → Type 0
IsFloatText format x text =
    (IsTrue (float_is_finite x) → parse_float format text ≡ Some x)
    × (IsFalse (float_is_finite x) → text ≡ codes "NaN")

-- The text of a value. A scaler is a power of ten, by which integers are multiplied. A value in which others are is its number of
-- values, and a compact array its octets.
abbrev pub IsTextOf : ℤ → Value → List ℕ → Type 0
IsTextOf scaler null text = text ≡ []
IsTextOf scaler dont_care text = text ≡ []
IsTextOf scaler (boolean b) text = text ≡ word_of b
IsTextOf scaler (bit_string bits) text = (bytes : List ℕ) × HoldsBits bytes bits
    × (text ≡ pairs_of bytes)
IsTextOf scaler (float32 n) text = IsFloatText binary32 (from_bits binary32 n) text
IsTextOf scaler (float64 n) text = IsFloatText binary64 (from_bits binary64 n) text
IsTextOf scaler (signed k z) text = text ≡ scaled_signed z scaler
IsTextOf scaler (unsigned k n) text = text ≡ scaled false n scaler
IsTextOf scaler (octets k b) text = text ≡ text_of_octets b
IsTextOf scaler (compact_array s tags contents) text = text ≡ pairs_of contents
IsTextOf scaler (array vs) text = text ≡ decimal (count vs) ++ codes " values"
IsTextOf scaler (structure vs) text = text ≡ decimal (count vs) ++ codes " values"

-- the text has grown by one of which this is true
abbrev pub GrewBy : (List ℕ → Type 0) → List ℕ → List ℕ → Type 0
GrewBy P old new = (more : List ℕ) × P more × (new ≡ old ++ more)
