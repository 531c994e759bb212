-- The content of a line of a log. How octets are written in it is this project's own choice.
use Rattle.std.specs.Prelude.{◌≡◌, ℕ, ◌+◌, ◌-◌, ◌*◌, ◌==◌, ◌&&◌, ◌||◌, ◌≢◌, ◌++◌, codes, drop, nat_le, if◌then◌else◌, Bool, true, false, List, [], ◌∷◌, Option, Some, None, option_map}
use Rattle.std.specs.Char.{to_ascii_lowercase}
use Rattle.dlms_dissect.specs.declared.lines.Line.{Line}
use Rattle.dlms_dissect.specs.declared.lines.Line.TheVariants.{Pairs, NoPairs, Logged, Silence, Stop, Other}
use Rattle.dlms_dissect.specs.declared.parties.Side.{Side}
use Rattle.dlms_dissect.specs.declared.parties.Side.TheVariants.{Client, Meter}

-- ---- pairs of hexadecimal digits

-- 0 to 9, a to f, A to F
abbrev pub digit_of : ℕ → Option ℕ
digit_of byte =
    if nat_le 0x30 byte && nat_le byte 0x39 then Some (byte - 0x30)
    else if nat_le 0x61 byte && nat_le byte 0x66 then Some (byte - 0x61 + 10)
    else if nat_le 0x41 byte && nat_le byte 0x46 then Some (byte - 0x41 + 10)
    else None

-- what may stand between two pairs: a blank, a tab, a carriage return, a colon
abbrev pub is_parting : ℕ → Bool
is_parting byte = (byte == 0x20) || (byte == 0x09) || (byte == 0x0D) || (byte == 0x3A)

-- the octet that two digits spell
abbrev pub octet_of : Option ℕ → Option ℕ → Option ℕ
octet_of None low = None
octet_of (Some high) None = None
octet_of (Some high) (Some low) = Some (high * 16 + low)

-- the octet of the first two bytes, if they are digits, with the bytes after them
abbrev pub pair_of : List ℕ → Option ℕ
pair_of (high ∷ low ∷ rest) = octet_of (digit_of high) (digit_of low)
pair_of _ = None

abbrev pub pair_with_rest : List ℕ → Option (ℕ × List ℕ)
pair_with_rest (high ∷ low ∷ rest) =
    option_map (λ octet. (octet, rest)) (octet_of (digit_of high) (digit_of low))
pair_with_rest _ = None

-- the rest after everything that may precede a pair
abbrev pub from_pair : List ℕ → List ℕ
from_pair [] = []
from_pair (byte ∷ rest) = if is_parting byte then from_pair rest else byte ∷ rest

-- the octet of the first pair, and the rest after that pair
abbrev pub first_pair : List ℕ → Option (ℕ × List ℕ)
first_pair digits = pair_with_rest (from_pair digits)

-- ---- pairs, one behind another

abbrev pub with_octet : Option ℕ → Option (List ℕ) → Option (List ℕ)
with_octet None octets = None
with_octet (Some octet) octets = option_map (λ octets. octet ∷ octets) octets

-- the octets of all the pairs, after a first digit of a pair or after none; none if there is anything else
abbrev pub octets_of : Option ℕ → List ℕ → Option (List ℕ)
octets_of None [] = Some []
octets_of (Some high) [] = None
octets_of None (byte ∷ rest) = if is_parting byte then octets_of None rest
    else octets_of (Some byte) rest
octets_of (Some high) (byte ∷ rest) =
    with_octet (octet_of (digit_of high) (digit_of byte)) (octets_of None rest)

abbrev pub are_some : Option (List ℕ) → Bool
are_some None = false
are_some (Some []) = false
are_some (Some (octet ∷ octets)) = true

-- there are pairs, at least one, and nothing else but what may stand between them
abbrev pub are_pairs : List ℕ → Bool
are_pairs digits = are_some (octets_of None digits)

-- ---- lines

-- `>` is followed by the client's bytes, `<` by the meter's
abbrev pub mark_of : Side → ℕ
mark_of Client = 0x3E
mark_of Meter = 0x3C

-- the content after the mark of a side: pairs, or something else
abbrev pub IsHeldBehind : Side → List ℕ → Line → Type 0
IsHeldBehind side behind (Pairs said digits) = (said ≡ Some side) × (digits.now ≡ behind)
    × (are_pairs behind ≡ true)
IsHeldBehind side behind NoPairs = are_pairs behind ≡ false
IsHeldBehind side behind _ = ⊥

-- there is no mark at the front
abbrev pub IsUnmarked : List ℕ → Type 0
IsUnmarked line = (side : Side) (digits : List ℕ) → line ≡ mark_of side ∷ digits → ⊥

-- ---- lines of a log, with words of its own before a mark

-- a word is at the front, in letters of either case
abbrev pub begins_with : List ℕ → List ℕ → Bool
begins_with words [] = true
begins_with [] (letter ∷ word) = false
begins_with (byte ∷ words) (letter ∷ word) =
    (to_ascii_lowercase byte == letter) && begins_with words word

-- whose octets follow, by the word in front, and how many letters that has
abbrev pub mark_of_log : List ℕ → Option (Side × ℕ)
mark_of_log words =
    if begins_with words (codes ">") then Some (Client, 1)
    else if begins_with words (codes "tx") then Some (Client, 2)
    else if begins_with words (codes "send") then Some (Client, 4)
    else if begins_with words (codes "<-") then Some (Meter, 2)
    else if begins_with words (codes "<") then Some (Meter, 1)
    else if begins_with words (codes "rx") then Some (Meter, 2)
    else if begins_with words (codes "recv") then Some (Meter, 4)
    else None

-- such a word is at the front, followed by pairs
abbrev pub has_pairs_behind : List ℕ → Option (Side × ℕ) → Bool
has_pairs_behind words None = false
has_pairs_behind words (Some mark) = are_pairs (drop mark.1 words)

abbrev pub is_marked : List ℕ → Bool
is_marked words = has_pairs_behind words (mark_of_log words)

-- the sender of these pairs, which follow such a word at the front
abbrev pub IsMarked : List ℕ → Side → List ℕ → Type 0
IsMarked words side digits = (len : ℕ)
    × ((mark_of_log words ≡ Some (side, len)) × (digits ≡ drop len words)
    × (are_pairs digits ≡ true))

-- from some place on the line consists of such a word with pairs after it
abbrev pub is_logged : List ℕ → Bool
is_logged [] = false
is_logged (byte ∷ rest) = is_marked (byte ∷ rest) || is_logged rest

-- these words come before it
abbrev pub IsLogged : List ℕ → List ℕ → Side → List ℕ → Type 0
IsLogged line words side digits = (behind : List ℕ)
    × ((line ≡ words ++ behind) × IsMarked behind side digits)

abbrev pub IsWorded : List ℕ → Line → Type 0
IsWorded line (Logged words side digits) = IsLogged line words.now side digits.now
IsWorded line Other = is_logged line ≡ false
IsWorded line _ = ⊥

-- neither `I` nor `O` nor pairs, and no mark in front
abbrev pub IsNoneOfThese : List ℕ → Type 0
IsNoneOfThese line = (line ≢ 0x49 ∷ []) × (line ≢ 0x4F ∷ []) × IsUnmarked line
    × (are_pairs line ≡ false)

-- It is `I` or `O`, or pairs after a mark or without one; or a mark with something else after it; or otherwise a log's words with
-- pairs after a mark; or none of these.
abbrev pub IsHeld : List ℕ → Line → Type 0
IsHeld line (Pairs (Some side) digits) = (line ≡ mark_of side ∷ digits.now)
    × (are_pairs digits.now ≡ true)
IsHeld line (Pairs None digits) = (digits.now ≡ line) × (are_pairs line ≡ true)
IsHeld line NoPairs = (side : Side)
    × ((digits : List ℕ) × ((line ≡ mark_of side ∷ digits) × (are_pairs digits ≡ false)))
IsHeld line (Logged words side digits) = IsNoneOfThese line
    × IsLogged line words.now side digits.now
IsHeld line Silence = line ≡ 0x49 ∷ []
IsHeld line Stop = line ≡ 0x4F ∷ []
IsHeld line Other = IsNoneOfThese line × (is_logged line ≡ false)
