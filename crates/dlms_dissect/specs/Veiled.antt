-- The report of a value that may be a secret, or contain one.
use Rattle.std.specs.Prelude.{◌≡◌, length}
use Rattle.dlms_data.specs.Value.{count}
use Rattle.dlms_data.specs.declared.data.Data.{Data}
use Rattle.dlms_data.specs.declared.data.Data.TheVariants.{Array, Structure, BitString, OctetString, VisibleString, Utf8String}
use Rattle.dlms_dissect.specs.declared.veiled.Part.{Part}
use Rattle.dlms_dissect.specs.declared.veiled.Part.TheVariants as part

-- as it is
abbrev pub IsPlain : {A : Type 0} → Data A → Part A → Type 0
IsPlain value (part.Plain shown) = shown.now ≡ value
IsPlain value _ = ⊥

-- of a string of any type its length alone, of an array and a structure how many values it has, of any other value all
abbrev pub IsPart : {A : Type 0} → Data A → Part A → Type 0
IsPart (OctetString octets) told = told ≡ part.OctetString (length octets)
IsPart (VisibleString octets) told = told ≡ part.VisibleString (length octets)
IsPart (Utf8String octets) told = told ≡ part.Utf8String (length octets)
IsPart (BitString bits) told = told ≡ part.BitString (length bits)
IsPart (Array values) told = told ≡ part.Array (count values)
IsPart (Structure values) told = told ≡ part.Structure (count values)
IsPart value told = IsPlain value told
