-- The reported content of a field: of a secret that it is one, and of a string that may be one, of a block and of ciphered content
-- the length.
use Rattle.std.specs.Prelude.{◌≡◌, ℕ, ◌+◌, ◌*◌, ◌==◌, ◌||◌, not, min, if◌then◌else◌, Bool, true, false, List, [], ◌∷◌, length, drop, Option, Some, None}
use Rattle.dlms_dissect.specs.Nodes.{length_at}
use Rattle.dlms_dissect.specs.declared.fields.Field.{Field}
use Rattle.dlms_dissect.specs.declared.fields.Field.TheVariants as field
use Rattle.dlms_dissect.specs.declared.items.Item.{Item}
use Rattle.dlms_dissect.specs.declared.items.Item.TheVariants as item
use Rattle.dlms_dissect.specs.declared.items.Shown.{Shown}
use Rattle.dlms_dissect.specs.declared.items.Shown.TheVariants as shown
use Rattle.dlms_dissect.specs.declared.nodes.Length.{Length}
use Rattle.dlms_dissect.specs.declared.secrecy.Secrecy.{Secrecy}
use Rattle.dlms_dissect.specs.declared.secrecy.Secrecy.TheVariants.{Open, Unknown, Secret}
use Rattle.dlms_dissect.specs.declared.walk.Event.{Event}
use Rattle.dlms_dissect.specs.declared.walk.Event.TheVariants as event

abbrev pub tag_of : List ℕ → ℕ
tag_of [] = 0
tag_of (tag ∷ rest) = tag

-- bit-string, octet-string, visible-string, utf8-string, compact-array
abbrev pub is_string : ℕ → Bool
is_string tag = (tag == 4) || ((tag == 9) || ((tag == 10) || ((tag == 12) || (tag == 19))))

abbrev pub number_or : Option Length → ℕ
number_or None = 0
number_or (Some l) = l.number

-- the number of the length after this many octets
abbrev pub number_behind : ℕ → List ℕ → ℕ
number_behind before octets = number_or (length_at (drop before octets))

-- ---- values

abbrev pub IsOpen : List ℕ → Shown → Type 0
IsOpen octets (shown.Open told) = told.now ≡ octets
IsOpen octets _ = ⊥

abbrev pub IsVeiled : Bool → List ℕ → Shown → Type 0
IsVeiled true octets told = told ≡ shown.Veiled (tag_of octets) (number_behind 1 octets)
IsVeiled false octets told = IsOpen octets told

-- of a secret that it is one; of a string that may be one its type and its length; of another value its octets
abbrev pub IsShown : Secrecy → List ℕ → Shown → Type 0
IsShown Secret octets told = told ≡ shown.Secret
IsShown Unknown octets told = IsVeiled (is_string (tag_of octets)) octets told
IsShown Open octets told = IsOpen octets told

abbrev pub ShowsValue : Secrecy → List ℕ → Item → Type 0
ShowsValue known octets (item.Value told) = IsShown known octets told
ShowsValue known octets _ = ⊥

-- ---- other fields

abbrev pub of_four : ℕ → ℕ → ℕ → ℕ → ℕ
of_four a b c d = ((a * 256 + b) * 256 + c) * 256 + d

-- a block whose octets come after this many others
abbrev pub block_of : List ℕ → ℕ → Item
block_of (last ∷ a ∷ b ∷ c ∷ d ∷ rest) before =
    item.Block (not (last == 0)) (of_four a b c d)
    (number_behind before (last ∷ a ∷ b ∷ c ∷ d ∷ rest))
block_of octets before = item.Length field.Block 0

abbrev pub octets_or : Option Length → ℕ
octets_or None = 0
octets_or (Some l) = l.octets

-- after a security header of five octets (IEC 62056-5-3, 9.2.7.2.4.1): the security control and the invocation counter
abbrev pub with_header : List ℕ → ℕ → Item
with_header (control ∷ a ∷ b ∷ c ∷ d ∷ text) len =
    item.Ciphered control (of_four a b c d) (length text)
with_header _ len = item.Length field.Ciphered len

abbrev pub Ciphers : List ℕ → Item → Type 0
Ciphers octets told = told ≡ with_header
    (drop (min (octets_or (length_at octets)) (length octets)) octets) (number_behind 0 octets)

abbrev pub has_block : List ℕ → Bool
has_block (last ∷ a ∷ b ∷ c ∷ d ∷ choice ∷ rest) = choice == 0
has_block _ = false

abbrev pub IsPlain : Field → List ℕ → Item → Type 0
IsPlain f octets (item.Plain g told) = (g ≡ f) × (told.now ≡ octets)
IsPlain f octets _ = ⊥

abbrev pub IsBlockOr : Bool → List ℕ → Item → Type 0
IsBlockOr true octets told = told ≡ block_of octets 6
IsBlockOr false octets told = IsPlain field.BlockResult octets told

abbrev pub IsShortOr : Bool → List ℕ → Item → Type 0
IsShortOr true octets told = told ≡ item.Length field.ShortData (number_behind 4 octets)
IsShortOr false octets told = IsPlain field.ShortData octets told

abbrev pub IsFieldItem : Secrecy → Field → List ℕ → Item → Type 0
IsFieldItem known field.Value octets told = ShowsValue known octets told
IsFieldItem known field.Block octets told = told ≡ block_of octets 5
IsFieldItem known field.BlockResult octets told = IsBlockOr (has_block octets) octets told
IsFieldItem known field.Octets octets told =
    told ≡ item.Length field.Octets (number_behind 0 octets)
IsFieldItem known field.Key octets told = told ≡ item.Length field.Key (number_behind 3 octets)
IsFieldItem known field.ShortData octets told = IsShortOr (tag_of octets == 2) octets told
IsFieldItem known field.Ciphered octets told = Ciphers octets told
IsFieldItem known f octets told = IsPlain f octets told

-- the reported content of a field, given this secrecy of the values of its APDU
abbrev pub IsItem : Secrecy → Event → Item → Type 0
IsItem known (event.List f count) told = told ≡ item.List f count
IsItem known (event.Field f octets) told = IsFieldItem known f octets.now told
