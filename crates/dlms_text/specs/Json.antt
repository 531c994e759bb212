-- Strings of JSON (RFC 8259), and texts that grow.
use Rattle.std.specs.Prelude.{◌≡◌, ℕ, ◌/◌, ◌%◌, ◌==◌, ◌||◌, nat_lt, List, [], ◌∷◌, ◌++◌, codes, slice_index, if◌then◌else◌, Result, Ok, Err}
use Rattle.std.specs.List.{flat_map}

-- an octet as two lower case hexadecimal digits, the high four bits first
abbrev pub pair_of : ℕ → List ℕ
pair_of octet = slice_index (codes "0123456789abcdef") (octet / 16)
    ∷ slice_index (codes "0123456789abcdef") (octet % 16) ∷ []

-- each octet as two digits, in order
abbrev pub pairs_of : List ℕ → List ℕ
pairs_of octets = flat_map pair_of octets

-- a text between double quotes
abbrev pub quoted : List ℕ → List ℕ
quoted text = 34 ∷ text ++ 34 ∷ []

-- An octet of a text in UTF-8. A double quote and a backslash follow a backslash. A control character is escaped: \u00 and two
-- digits.
abbrev pub letter_of : ℕ → List ℕ
letter_of octet =
    if octet == 34 || octet == 92 then 92 ∷ octet ∷ []
    else (if nat_lt octet 32 then codes "\\u00" ++ pair_of octet
    else octet ∷ [])

abbrev pub letters_of : List ℕ → List ℕ
letters_of octets = flat_map letter_of octets

-- one list is the beginning of another
abbrev pub Begins : List ℕ → List ℕ → Type 0
Begins front whole = (rest : List ℕ) × (whole ≡ front ++ rest)

-- The new text begins with the old one, and is itself the beginning of the whole text that was to be written.
pub record IsPartly (old new whole : List ℕ) : Type 0 where
  pub kept : Begins old new
  pub part : Begins new whole

-- All of `more` was appended; or, if memory ran out, a part of it, from its beginning on.
abbrev pub Grows : {X E : Type 0} → Result X E → List ℕ → List ℕ → List ℕ → Type 0
Grows (Ok x) old new more = new ≡ old ++ more
Grows (Err fault) old new more = IsPartly old new (old ++ more)
