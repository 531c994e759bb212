-- Reading from left to right, with the first fault that is met.
use Rattle.std.specs.Prelude.{◌≡◌, ℕ, ℤ, zero, suc, ◌-◌, List, [], ◌∷◌, length, take, drop, Result, Ok, Err, nat_lt, ◌==◌, Option, Some, None, Bool, true, false, ◌||◌, if◌then◌else◌}
use Rattle.std.specs.List.{list_all}
use Rattle.byteorder.specs.Endian.{big_number}
use Rattle.dlms_data.specs.Bits.{bits_of, bytes_for}
use Rattle.dlms_values.specs.declared.fault.ValueFault.{ValueFault}
use Rattle.dlms_values.specs.declared.fault.ValueFault.TheVariants.{Short, Tag as NoTag, Length, Depth, Nested}
use Rattle.dlms_values.specs.declared.types.Tag.{Tag}
use Rattle.dlms_values.specs.declared.types.Tag.TheVariants as tag
use Rattle.dlms_values.specs.declared.types.Plain.{Plain}
use Rattle.dlms_values.specs.declared.types.Plain.TheVariants as plain
use Rattle.dlms_values.specs.declared.types.SignedKind.{SignedKind}
use Rattle.dlms_values.specs.Types.{type_of, is_plain_tag, signed_size, signed_value, unsigned_size, octets_size}
use Rattle.dlms_values.specs.Value.{Value, Values, null, dont_care, boolean, bit_string, float32, float64, signed, unsigned, octets, compact_array, array, structure, none, cons}

infixl 10 ◌>>=◌
abbrev pub ◌>>=◌ : {A B : Type 0} → Result A ValueFault → (A → Result B ValueFault)
    → Result B ValueFault
(Ok x) >>= f = f x
(Err e) >>= f = Err e

-- What a function returned, seen by view, is what reading returns.
abbrev pub Tells : {X Y : Type 0} → (X → Y) → Result X ValueFault → Result Y ValueFault → Type 0
Tells view (Ok x) read = read ≡ Ok (view x)
Tells view (Err e) read = read ≡ Err e

-- the octets after what was read
abbrev pub behind : {Y : Type 0} → Result (Y × List ℕ) ValueFault → Result (List ℕ) ValueFault
behind (Ok x) = Ok x.1
behind (Err e) = Err e

-- The result of reading, and the octets after it.
unfoldable pub taken_at : ℕ → List ℕ → Result (List ℕ × List ℕ) ValueFault
taken_at n bytes = if nat_lt (length bytes) n then Err Short else Ok (take n bytes, drop n bytes)

unfoldable pub number_at : ℕ → List ℕ → Result (ℕ × List ℕ) ValueFault
number_at n bytes = taken_at n bytes >>= λ t. Ok (big_number n t.0, t.1)

-- an octet below 128, or the number of octets after it that are the length: 81 to 84 for 1 to 4
unfoldable pub length_at : List ℕ → Result (ℕ × List ℕ) ValueFault
length_at [] = Err Short
length_at (b ∷ rest) =
    if nat_lt b 0x80 then Ok (b, rest)
    else (if nat_lt b 0x81 || nat_lt 0x84 b then Err Length
    else number_at (b - 0x80) rest)

unfoldable pub counted_at : List ℕ → Result (List ℕ × List ℕ) ValueFault
counted_at bytes = length_at bytes >>= λ n. taken_at n.0 n.1

unfoldable pub bits_at : List ℕ → Result (List Bool × List ℕ) ValueFault
bits_at bytes = length_at bytes >>= λ n. taken_at (bytes_for n.0) n.1 >>= λ t. Ok
    (take n.0 (bits_of t.0), t.1)

-- an integer with a sign
abbrev pub signed_at : SignedKind → List ℕ → Result (ℤ × List ℕ) ValueFault
signed_at k bytes = number_at (signed_size k) bytes >>= λ x. Ok (signed_value k x.0, x.1)

abbrev pub octets_at : Option ℕ → List ℕ → Result (List ℕ × List ℕ) ValueFault
octets_at None bytes = counted_at bytes
octets_at (Some n) bytes = taken_at n bytes

-- after the tag of a type that contains no other values
unfoldable pub plain_at : Plain → List ℕ → Result (Value × List ℕ) ValueFault
plain_at plain.Null bytes = Ok (null, bytes)
plain_at plain.DontCare bytes = Ok (dont_care, bytes)
plain_at plain.Boolean bytes = number_at 1 bytes >>= λ x. Ok (boolean (nat_lt 0 x.0), x.1)
plain_at plain.BitString bytes = bits_at bytes >>= λ x. Ok (bit_string x.0, x.1)
plain_at plain.Float32 bytes = number_at 4 bytes >>= λ x. Ok (float32 x.0, x.1)
plain_at plain.Float64 bytes = number_at 8 bytes >>= λ x. Ok (float64 x.0, x.1)
plain_at (plain.Signed k) bytes = signed_at k bytes >>= λ x. Ok (signed k x.0, x.1)
plain_at (plain.Unsigned k) bytes =
    number_at (unsigned_size k) bytes >>= λ x. Ok (unsigned k x.0, x.1)
plain_at (plain.Octets k) bytes = octets_at (octets_size k) bytes >>= λ x. Ok (octets k x.0, x.1)

-- tags of types that contain no other values
unfoldable pub plain_tags_at : ℕ → List ℕ → Result (List ℕ × List ℕ) ValueFault
plain_tags_at n bytes =
    taken_at n bytes >>= λ t. (if list_all is_plain_tag t.0 then Ok t else Err Nested)

-- whether the elements of a compact array are structures, and the tags of their types
unfoldable pub types_at : List ℕ → Result ((Bool × List ℕ) × List ℕ) ValueFault
types_at [] = Err Short
types_at (b ∷ rest) =
    if b == 2 then (length_at rest >>= λ n. plain_tags_at n.0 n.1 >>= λ t. Ok ((true, t.0), t.1))
    else (plain_tags_at 1 (b ∷ rest) >>= λ t. Ok ((false, t.0), t.1))

unfoldable pub compact_at : List ℕ → Result (Value × List ℕ) ValueFault
compact_at bytes =
    types_at bytes >>= λ t. counted_at t.1 >>= λ c. Ok (compact_array t.0.0 t.0.1 c.0, c.1)

-- after any tag, with a reader of what nests
unfoldable pub content_at : (List ℕ → Result (Values × List ℕ) ValueFault) → Tag → List ℕ
    → Result (Value × List ℕ) ValueFault
content_at items tag.Array bytes = items bytes >>= λ x. Ok (array x.0, x.1)
content_at items tag.Structure bytes = items bytes >>= λ x. Ok (structure x.0, x.1)
content_at items tag.CompactArray bytes = compact_at bytes
content_at items (tag.Plain p) bytes = plain_at p bytes

abbrev pub tagged_at : (List ℕ → Result (Values × List ℕ) ValueFault) → Option Tag → List ℕ
    → Result (Value × List ℕ) ValueFault
tagged_at items None bytes = Err NoTag
tagged_at items (Some t) bytes = content_at items t bytes

abbrev pub value_by : (List ℕ → Result (Values × List ℕ) ValueFault) → List ℕ
    → Result (Value × List ℕ) ValueFault
value_by items [] = Err Short
value_by items (b ∷ bytes) = tagged_at items (type_of b) bytes

-- as many values as the number says
unfoldable pub values_by : (List ℕ → Result (Value × List ℕ) ValueFault) → ℕ → List ℕ
    → Result (Values × List ℕ) ValueFault
values_by item zero bytes = Ok (none, bytes)
values_by item (suc n) bytes =
    item bytes >>= λ v. values_by item n v.1 >>= λ vs. Ok (cons v.0 vs.0, vs.1)

-- the count and the values, with room for this many levels
unfoldable pub nested : ℕ → List ℕ → Result (Values × List ℕ) ValueFault
nested zero bytes = Err Depth
nested (suc room) bytes = length_at bytes >>= λ n. values_by (value_by (nested room)) n.0 n.1

abbrev pub value_at : ℕ → List ℕ → Result (Value × List ℕ) ValueFault
value_at room bytes = value_by (nested room) bytes

abbrev pub values_at : ℕ → ℕ → List ℕ → Result (Values × List ℕ) ValueFault
values_at room n bytes = values_by (value_by (nested room)) n bytes

-- what was read, or nothing
abbrev pub values_read : Result (Values × List ℕ) ValueFault → Values
values_read (Ok x) = x.0
values_read (Err e) = none

abbrev pub is_read : Result (Values × List ℕ) ValueFault → Bool
is_read (Ok x) = true
is_read (Err e) = false
