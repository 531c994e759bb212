-- Capture objects (Blue Book 4.3.6, capture_objects): a structure of the class, the logical name, the attribute and the data index.
use Rattle.std.specs.Prelude.{◌≡◌, ℕ, ◌<◌, ◌^◌, length}
use Rattle.dlms_values.specs.declared.types.SignedKind.TheVariants.{Integer}
use Rattle.dlms_values.specs.declared.types.UnsignedKind.TheVariants.{LongUnsigned}
use Rattle.dlms_values.specs.declared.types.OctetsKind.TheVariants.{OctetString}
use Rattle.dlms_values.specs.Value.{Value, signed, unsigned, octets, structure, none, cons}
use Rattle.std.specs.Prelude.{FitsSigned}
use Rattle.std.specs.Int.{w8}
use Rattle.dlms_buffer.specs.declared.column.Column.{Column}

-- the value of a capture object
abbrev pub object_of : Column → Value
object_of c =
    structure (cons (unsigned LongUnsigned c.class) (cons (octets OctetString c.name)
    (cons (signed Integer c.attribute) (cons (unsigned LongUnsigned c.index) none))))

-- the numbers are in the range of their types, and the name has six octets
abbrev pub IsInRange : Column → Type 0
IsInRange c = (c.class < 2 ^ 16) × (length c.name ≡ 6) × FitsSigned w8 c.attribute
    × (c.index < 2 ^ 16)
