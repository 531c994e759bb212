-- The octets of an APDU that may be shown beside its report: those of its first fields, up to the one that is reported by its
-- length or not at all (specs/Items.antt).
use Rattle.std.specs.Prelude.{◌≡◌, ◌⊎◌, ℕ, ◌==◌, ◌||◌, not, Bool, true, false, List, [], ◌∷◌, length, Option, Some, None}
use Rattle.dlms_dissect.specs.Acse.{field_at, is_counted}
use Rattle.dlms_dissect.specs.Items.{has_block, is_string, tag_of}
use Rattle.dlms_dissect.specs.Walk.{IsRead, SpellsNothing, Told, is_field, is_list, next_of}
use Rattle.dlms_dissect.specs.declared.fields.Field.TheVariants as field
use Rattle.dlms_dissect.specs.declared.secrecy.Secrecy.{Secrecy}
use Rattle.dlms_dissect.specs.declared.secrecy.Secrecy.TheVariants.{Open, Unknown, Secret}
use Rattle.dlms_dissect.specs.declared.walk.Step.{Step}

-- of a secret no value, and no string of what may be one
abbrev pub is_open_value : Secrecy → List ℕ → Bool
is_open_value Open octets = true
is_open_value Unknown octets = not (is_string (tag_of octets))
is_open_value Secret octets = false

-- the field is shown as it is
abbrev pub is_open : Secrecy → Told → Bool
is_open known (is_list f count) = true
is_open known (is_field field.Value octets) = is_open_value known octets
is_open known (is_field field.Block octets) = false
is_open known (is_field field.BlockResult octets) = not (has_block octets)
is_open known (is_field field.Octets octets) = false
is_open known (is_field field.Key octets) = false
is_open known (is_field field.ShortData octets) = not (tag_of octets == 2)
is_open known (is_field field.Ciphered octets) = false
is_open known (is_field f octets) = true

abbrev pub AreOpen : Secrecy → List Told → Type 0
AreOpen known [] = Unit {0}
AreOpen known (t ∷ ts) = (is_open known t ≡ true) × AreOpen known ts

-- these fields are read first, and are shown as they are
abbrev pub IsOpened : Secrecy → List Step → List ℕ → List Step → List ℕ → Type 0
IsOpened known steps octets behind rest = (ts : List Told)
    × (IsRead steps octets ts behind rest × AreOpen known ts)

-- the next one is not, or there is none
abbrev pub IsClosed : Secrecy → Option (Told × List Step × List ℕ) → Type 0
IsClosed known None = ⊥
IsClosed known (Some next) = is_open known next.0 ≡ false

abbrev pub Stops : Secrecy → List Step → List ℕ → Type 0
Stops known behind rest = (behind ≡ [])
    ⊎ (SpellsNothing behind rest ⊎ IsClosed known (next_of behind rest))

-- this many octets are left after them
abbrev pub Leaves : Secrecy → List Step → List ℕ → ℕ → Type 0
Leaves known steps octets count =
    (behind : List Step) × (rest : List ℕ)
    × (IsOpened known steps octets behind rest × Stops known behind rest
    × (count ≡ length rest))

-- ---- the fields of an association (IEC 62056-5-3, 9.4.2): versions, names, titles, results, requirements and reasons. An
-- authentication value and the user information, which may be ciphered, are not told as they are.

abbrev pub is_open_tag : ℕ → Bool
is_open_tag tag =
    (tag == 0x80) || ((tag == 0x88) || ((tag == 0x89)
    || ((tag == 0x8a) || ((tag == 0x8b) || ((tag == 0xa1) || ((tag == 0xa2) || ((tag == 0xa3)
    || ((tag == 0xa4) || ((tag == 0xa5) || ((tag == 0xa6)
    || ((tag == 0xa7) || ((tag == 0xa8) || (tag == 0xa9)))))))))))))

-- these fields come first, and are shown as they are
abbrev pub StandOpen : List ℕ → List (ℕ × List ℕ) → List ℕ → Type 0
StandOpen octets [] rest = octets ≡ rest
StandOpen octets (f ∷ fs) rest = (next : List ℕ)
    × ((field_at octets ≡ Some (f.0, f.1, next)) × (is_open_tag f.0 ≡ true)
    × StandOpen next fs rest)

abbrev pub IsClosedField : Option (ℕ × List ℕ × List ℕ) → Type 0
IsClosedField None = Unit {0}
IsClosedField (Some f) = is_open_tag f.0 ≡ false

abbrev pub LeavesFields : List ℕ → ℕ → Type 0
LeavesFields fields count = (fs : List (ℕ × List ℕ)) × (rest : List ℕ)
    × (StandOpen fields fs rest × IsClosedField (field_at rest) × (count ≡ length rest))

-- everything is left of bytes that are no such APDU as a whole
abbrev pub LeavesIn : Bool → List ℕ → Option (ℕ × List ℕ × List ℕ) → ℕ → Type 0
LeavesIn true bytes (Some f) count = LeavesFields f.1 count
LeavesIn _ bytes _ count = count ≡ length bytes

abbrev pub LeavesOfAcse : List ℕ → ℕ → Type 0
LeavesOfAcse bytes count = LeavesIn (is_counted bytes) bytes (field_at bytes) count
