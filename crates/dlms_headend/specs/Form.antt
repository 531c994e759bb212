-- The part of the buffer's encoding that can be judged without memory.
use Rattle.std.specs.Prelude.{◌≡◌, ℕ, ◌≤◌, ◌-◌, ◌==◌, Bool, false, nat_lt, if◌then◌else◌, List, [], ◌∷◌, drop, Some}
use Rattle.dlms_data.specs.Value.{Value, Values, cons, values_depth}
use Rattle.dlms_data.specs.Spelling.{IsSpelling, SpellAll}
use Rattle.dlms_headend.specs.Rows.{four_in}

-- the tag of a value
abbrev pub begins : ℕ → List ℕ → Bool
begins tag [] = false
begins tag (b ∷ rest) = b == tag

-- the content after a tag and a length
abbrev pub body_of : List ℕ → List ℕ
body_of (tag ∷ first ∷ rest) = if nat_lt first 0x80 then rest else drop (first - 0x80) rest
body_of _ = []

-- the bytes are the spellings of these values, one after another
pub record StandIn (bytes : List ℕ) (vs : Values) : Type 0 where
  pub spelled : SpellAll bytes vs
  pub shallow : values_depth vs ≤ 7

-- the bytes of the first of them, and those of the others
pub record IsFirst (vs : Values) (front rest : List ℕ) : Type 0 where
  pub first : Value
  pub others : Values
  pub are : vs ≡ cons first others
  pub spelled : IsSpelling front first
  pub behind : StandIn rest others

-- the bytes of the four values of a structure
pub record IsFour (v : Value) (a b c d : List ℕ) : Type 0 where
  pub first : Value
  pub second : Value
  pub third : Value
  pub fourth : Value
  pub are : four_in v ≡ Some (first, second, third, fourth)
  pub first_spelled : IsSpelling a first
  pub second_spelled : IsSpelling b second
  pub third_spelled : IsSpelling c third
  pub fourth_spelled : IsSpelling d fourth
