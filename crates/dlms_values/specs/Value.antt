-- The values of Data, without their place in memory. The types and their names are those of the Blue Book's common data types (IEC
-- 62056-6-2, clause 4.1.5).
use Rattle.std.specs.Prelude.{ℕ, suc, max, List, Bool, ℤ}
use Rattle.dlms_values.specs.declared.types.SignedKind.{SignedKind}
use Rattle.dlms_values.specs.declared.types.UnsignedKind.{UnsignedKind}
use Rattle.dlms_values.specs.declared.types.OctetsKind.{OctetsKind}

-- A float is the number whose octets are those of IEEE 754. A compact array is whether its elements are structures, the tags of
-- the types of one element, and the octets of all of them.
mutual
  pub data Value : Type 0 where
    null : Value
    dont_care : Value
    boolean : Bool → Value
    bit_string : List Bool → Value
    float32 : ℕ → Value
    float64 : ℕ → Value
    signed : SignedKind → ℤ → Value
    unsigned : UnsignedKind → ℕ → Value
    octets : OctetsKind → List ℕ → Value
    compact_array : Bool → List ℕ → List ℕ → Value
    array : Values → Value
    structure : Values → Value

  pub data Values : Type 0 where
    none : Values
    cons : Value → Values → Values

-- how many values
abbrev pub count : Values → ℕ
count none = 0
count (cons v vs) = suc (count vs)

-- how many levels of arrays and structures nest
abbrev mutual
  pub depth : Value → ℕ
  depth (array vs) = suc (values_depth vs)
  depth (structure vs) = suc (values_depth vs)
  depth _ = 0

  pub values_depth : Values → ℕ
  values_depth none = 0
  values_depth (cons v vs) = max (depth v) (values_depth vs)
