-- The types of Data, their tags, and the size of their content (A-XDR, IEC 61334-6; the tags are those of the Blue Book's common
-- data types, IEC 62056-6-2, clause 4.1.5).
use Rattle.std.specs.Prelude.{ℕ, ℤ, ◌==◌, Bool, true, false, Option, Some, None, if◌then◌else◌}
use Rattle.std.specs.Int.{cast_signed, w8, w16, w32, w64}
use Rattle.dlms_values.specs.declared.types.SignedKind.{SignedKind}
use Rattle.dlms_values.specs.declared.types.SignedKind.TheVariants.{Integer, Long, DoubleLong, Long64, DeltaInteger, DeltaLong, DeltaDoubleLong}
use Rattle.dlms_values.specs.declared.types.UnsignedKind.{UnsignedKind}
use Rattle.dlms_values.specs.declared.types.UnsignedKind.TheVariants.{Bcd, Enum, Unsigned, LongUnsigned, DoubleLongUnsigned, Long64Unsigned, DeltaUnsigned, DeltaLongUnsigned, DeltaDoubleLongUnsigned}
use Rattle.dlms_values.specs.declared.types.OctetsKind.{OctetsKind}
use Rattle.dlms_values.specs.declared.types.OctetsKind.TheVariants.{OctetString, VisibleString, Utf8String, DateTime, Date, Time}
use Rattle.dlms_values.specs.declared.types.Plain.{Plain}
use Rattle.dlms_values.specs.declared.types.Plain.TheVariants.{Null, DontCare, Boolean, BitString, Float32, Float64, Signed, Unsigned as UnsignedType, Octets}
use Rattle.dlms_values.specs.declared.types.Tag.{Tag}
use Rattle.dlms_values.specs.declared.types.Tag.TheVariants.{Array, Structure, CompactArray, Plain as PlainType}

-- the tags of the integers with a sign, and how many octets each has
abbrev pub signed_tag : SignedKind → ℕ
signed_tag Integer = 15
signed_tag Long = 16
signed_tag DoubleLong = 5
signed_tag Long64 = 20
signed_tag DeltaInteger = 28
signed_tag DeltaLong = 29
signed_tag DeltaDoubleLong = 30

abbrev pub signed_size : SignedKind → ℕ
signed_size Integer = 1
signed_size Long = 2
signed_size DoubleLong = 4
signed_size Long64 = 8
signed_size DeltaInteger = 1
signed_size DeltaLong = 2
signed_size DeltaDoubleLong = 4

-- the number that its octets are in two's complement
abbrev pub signed_value : SignedKind → ℕ → ℤ
signed_value Integer n = cast_signed w8 n
signed_value Long n = cast_signed w16 n
signed_value DoubleLong n = cast_signed w32 n
signed_value Long64 n = cast_signed w64 n
signed_value DeltaInteger n = cast_signed w8 n
signed_value DeltaLong n = cast_signed w16 n
signed_value DeltaDoubleLong n = cast_signed w32 n

-- the same of those without a sign
abbrev pub unsigned_tag : UnsignedKind → ℕ
unsigned_tag DoubleLongUnsigned = 6
unsigned_tag Bcd = 13
unsigned_tag Unsigned = 17
unsigned_tag LongUnsigned = 18
unsigned_tag Long64Unsigned = 21
unsigned_tag Enum = 22
unsigned_tag DeltaUnsigned = 31
unsigned_tag DeltaLongUnsigned = 32
unsigned_tag DeltaDoubleLongUnsigned = 33

abbrev pub unsigned_size : UnsignedKind → ℕ
unsigned_size DoubleLongUnsigned = 4
unsigned_size Bcd = 1
unsigned_size Unsigned = 1
unsigned_size LongUnsigned = 2
unsigned_size Long64Unsigned = 8
unsigned_size Enum = 1
unsigned_size DeltaUnsigned = 1
unsigned_size DeltaLongUnsigned = 2
unsigned_size DeltaDoubleLongUnsigned = 4

-- the same of octets; a string's length precedes it
abbrev pub octets_tag : OctetsKind → ℕ
octets_tag OctetString = 9
octets_tag VisibleString = 10
octets_tag Utf8String = 12
octets_tag DateTime = 25
octets_tag Date = 26
octets_tag Time = 27

abbrev pub octets_size : OctetsKind → Option ℕ
octets_size OctetString = None
octets_size VisibleString = None
octets_size Utf8String = None
octets_size DateTime = Some 12
octets_size Date = Some 5
octets_size Time = Some 4

abbrev pub plain_tag : Plain → ℕ
plain_tag Null = 0
plain_tag DontCare = 255
plain_tag Boolean = 3
plain_tag BitString = 4
plain_tag Float32 = 23
plain_tag Float64 = 24
plain_tag (Signed k) = signed_tag k
plain_tag (UnsignedType k) = unsigned_tag k
plain_tag (Octets k) = octets_tag k

abbrev pub tag_of : Tag → ℕ
tag_of Array = 1
tag_of Structure = 2
tag_of CompactArray = 19
tag_of (PlainType p) = plain_tag p

-- the type of a tag
abbrev pub type_of : ℕ → Option Tag
type_of b =
    if b == 0 then Some (PlainType Null)
    else if b == 1 then Some Array
    else if b == 2 then Some Structure
    else if b == 3 then Some (PlainType Boolean)
    else if b == 4 then Some (PlainType BitString)
    else if b == 5 then Some (PlainType (Signed DoubleLong))
    else if b == 6 then Some (PlainType (UnsignedType DoubleLongUnsigned))
    else if b == 9 then Some (PlainType (Octets OctetString))
    else if b == 10 then Some (PlainType (Octets VisibleString))
    else if b == 12 then Some (PlainType (Octets Utf8String))
    else if b == 13 then Some (PlainType (UnsignedType Bcd))
    else if b == 15 then Some (PlainType (Signed Integer))
    else if b == 16 then Some (PlainType (Signed Long))
    else if b == 17 then Some (PlainType (UnsignedType Unsigned))
    else if b == 18 then Some (PlainType (UnsignedType LongUnsigned))
    else if b == 19 then Some CompactArray
    else if b == 20 then Some (PlainType (Signed Long64))
    else if b == 21 then Some (PlainType (UnsignedType Long64Unsigned))
    else if b == 22 then Some (PlainType (UnsignedType Enum))
    else if b == 23 then Some (PlainType Float32)
    else if b == 24 then Some (PlainType Float64)
    else if b == 25 then Some (PlainType (Octets DateTime))
    else if b == 26 then Some (PlainType (Octets Date))
    else if b == 27 then Some (PlainType (Octets Time))
    else if b == 28 then Some (PlainType (Signed DeltaInteger))
    else if b == 29 then Some (PlainType (Signed DeltaLong))
    else if b == 30 then Some (PlainType (Signed DeltaDoubleLong))
    else if b == 31 then Some (PlainType (UnsignedType DeltaUnsigned))
    else if b == 32 then Some (PlainType (UnsignedType DeltaLongUnsigned))
    else if b == 33 then Some (PlainType (UnsignedType DeltaDoubleLongUnsigned))
    else if b == 255 then Some (PlainType DontCare)
    else None

-- whether it is the tag of a type that contains no other values
abbrev pub is_plain_type : Option Tag → Bool
is_plain_type (Some (PlainType p)) = true
is_plain_type _ = false

abbrev pub is_plain_tag : ℕ → Bool
is_plain_tag b = is_plain_type (type_of b)
