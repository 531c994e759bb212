-- Which octets spell an APDU's fields, one after another.
use Rattle.std.specs.Prelude.{◌≡◌, ℕ, ◌&&◌, nat_le, nat_lt, if◌then◌else◌, List, [], ◌∷◌, ◌++◌, length, take, drop, replicate, Option, Some, None}
use Rattle.dlms_dissect.specs.Fields.{front_at}
use Rattle.dlms_dissect.specs.Nodes.{length_at}
use Rattle.dlms_dissect.specs.declared.fields.Field.{Field}
use Rattle.dlms_dissect.specs.declared.fields.Field.TheVariants.{Value}
use Rattle.dlms_dissect.specs.declared.nodes.Front.{Front}
use Rattle.dlms_dissect.specs.declared.nodes.Length.{Length}
use Rattle.dlms_dissect.specs.declared.walk.Event.{Event}
use Rattle.dlms_dissect.specs.declared.walk.Event.TheVariants as event
use Rattle.dlms_dissect.specs.declared.walk.Step.{Step}
use Rattle.dlms_dissect.specs.declared.walk.Step.TheVariants.{One, Many}
use Rattle.dlms_dissect.specs.declared.walk.Walk.{Walk}

-- an element: a field with its octets, or the number of fields of a list
pub data Told : Type 0 where
  is_field : Field → List ℕ → Told
  is_list : Field → ℕ → Told

abbrev pub told_of : Event → Told
told_of (event.Field field octets) = is_field field octets.now
told_of (event.List field count) = is_list field count

-- A field at the front: it has octets, all of which are there. The values in it stand next.
abbrev pub with_field : Field → List Step → List ℕ → Option Front
    → Option (Told × List Step × List ℕ)
with_field field steps octets None = None
with_field field steps octets (Some front) =
    if nat_lt 0 front.own && nat_le front.own (length octets)
    then Some (
      is_field field (take front.own octets),
      replicate front.values (One Value)
          ++ steps,
      drop front.own octets,
    )
    else None

-- a list: how many fields, and then these
abbrev pub with_list : Field → List Step → List ℕ → Option Length
    → Option (Told × List Step × List ℕ)
with_list field steps octets None = None
with_list field steps octets (Some l) =
    if nat_lt 0 l.octets && nat_le l.octets (length octets)
    then Some (
      is_list field l.number,
      replicate l.number (One field)
          ++ steps,
      drop l.octets octets,
    )
    else None

-- the first of the steps: its element, the steps after it, and the octets after it
abbrev pub next_of : List Step → List ℕ → Option (Told × List Step × List ℕ)
next_of [] octets = None
next_of (One field ∷ steps) octets = with_field field steps octets (front_at field octets)
next_of (Many field ∷ steps) octets = with_list field steps octets (length_at octets)

-- these steps read these elements, and these steps and octets are left
abbrev pub IsRead : List Step → List ℕ → List Told → List Step → List ℕ → Type 0
IsRead steps octets [] behind rest = (steps ≡ behind) × (octets ≡ rest)
IsRead steps octets (t ∷ ts) behind rest =
    (next : List Step) × (left : List ℕ)
    × ((next_of steps octets ≡ Some (t, next, left)) × IsRead next left ts behind rest)

-- The octets spell these fields: nothing is left of the steps, and nothing of the octets.
abbrev pub Spells : List Step → List ℕ → List Told → Type 0
Spells steps octets ts = IsRead steps octets ts [] []

abbrev pub SpellsNothing : List Step → List ℕ → Type 0
SpellsNothing steps octets = (ts : List Told) → Spells steps octets ts → ⊥

-- ---- what is left of a walk

abbrev pub pending_of : Walk → List Step
pending_of w = replicate w.values (One Value) ++ (replicate w.items (One w.item) ++ w.steps.now)

abbrev pub IsNext : List Step → List ℕ → Option (Event × Walk) → Type 0
IsNext steps octets None = SpellsNothing steps octets
IsNext steps octets (Some r) =
    next_of steps octets ≡ Some (told_of r.0, pending_of r.1, r.1.rest.now)
