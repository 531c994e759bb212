-- The text in the encoding of a value.
use Rattle.std.specs.Prelude.{◌≡◌, ℕ, List, Option, Some, None, IfSome}
use Rattle.dlms_data.specs.Value.{Value, octet_string, visible_string, utf8_string}
use Rattle.dlms_data.specs.Spelling.{IsSpelling}

-- the octets of a string (Blue Book, common data types: octet-string, visible-string, utf8-string)
abbrev pub text_of : Value → Option (List ℕ)
text_of (octet_string octets) = Some octets
text_of (visible_string octets) = Some octets
text_of (utf8_string octets) = Some octets
text_of _ = None

-- A value that the octets spell has this text, or none; and if there is a text, they spell a value.
abbrev pub IsText : List ℕ → Option (List ℕ) → Type 0
IsText octets text = ((v : Value) → IsSpelling octets v → text_of v ≡ text)
    × IfSome text (λ _. (v : Value) × IsSpelling octets v)

-- the octets spell a string with this text
abbrev pub SpellsText : List ℕ → List ℕ → Type 0
SpellsText octets text = (v : Value) × IsSpelling octets v × (text_of v ≡ Some text)
