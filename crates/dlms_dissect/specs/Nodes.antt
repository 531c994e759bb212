-- The element at the front of octets: a length, a value (A-XDR, IEC 61334-6, and the CHOICE Data of IEC 62056-5-3).
use Rattle.std.specs.Prelude.{ℕ, ◌+◌, ◌*◌, ◌/◌, ◌==◌, ◌&&◌, ◌||◌, nat_le, nat_lt, if◌then◌else◌, Bool, true, false, List, [], ◌∷◌, length, take, drop, Option, Some, None, option_map, option_and_then}
use Rattle.std.specs.List.{list_all}
use Rattle.dlms_dissect.specs.declared.nodes.Front.{Front}
use Rattle.dlms_dissect.specs.declared.nodes.Length.{Length}

-- 0x81 to 0x84 is followed by that many octets with the number, the highest first
abbrev pub spells : ℕ → ℕ → Option Length
spells number octets = Some (record { number = number; octets = octets })

abbrev pub of_one : List ℕ → Option Length
of_one (a ∷ rest) = spells a 2
of_one _ = None

abbrev pub of_two : List ℕ → Option Length
of_two (a ∷ b ∷ rest) = spells (a * 256 + b) 3
of_two _ = None

abbrev pub of_three : List ℕ → Option Length
of_three (a ∷ b ∷ c ∷ rest) = spells ((a * 256 + b) * 256 + c) 4
of_three _ = None

abbrev pub of_four : List ℕ → Option Length
of_four (a ∷ b ∷ c ∷ d ∷ rest) = spells (((a * 256 + b) * 256 + c) * 256 + d) 5
of_four _ = None

abbrev pub long_length : ℕ → List ℕ → Option Length
long_length first bytes =
    if first == 0x81 then of_one bytes
    else if first == 0x82 then of_two bytes
    else if first == 0x83 then of_three bytes
    else if first == 0x84 then of_four bytes
    else None

-- a length: an octet below 0x80 is one by itself
abbrev pub length_at : List ℕ → Option Length
length_at [] = None
length_at (first ∷ rest) = if nat_lt first 0x80 then spells first 1 else long_length first rest

-- octets of its own, and no values in it
abbrev pub alone : ℕ → Front
alone own = record { own = own; values = 0 }

-- a text after this many octets: a length, and that many octets
abbrev pub text_behind : ℕ → List ℕ → Option Front
text_behind before bytes = option_map (λ l. alone (before + l.octets + l.number))
    (length_at (drop before bytes))

-- ---- the types of Data

-- the number of octets after the tag: null-data 0, dont-care 255; boolean, bcd, integer, unsigned, enum, delta-integer,
-- delta-unsigned; long, long-unsigned, delta-long, delta-long-unsigned; double-long, double-long-unsigned, float32, time,
-- delta-double-long, delta-double-long-unsigned; date; long64, long64-unsigned, float64; date-time
abbrev pub fixed_of : ℕ → Option ℕ
fixed_of tag =
    if (tag == 0) || (tag == 255) then Some 0
    else if (tag == 3) || ((tag == 13) || ((tag == 15)
    || ((tag == 17) || ((tag == 22) || ((tag == 28) || (tag == 31))))))
    then Some 1
    else if (tag == 16) || ((tag == 18) || ((tag == 29) || (tag == 32))) then Some 2
    else if (tag == 5) || ((tag == 6) || ((tag == 23)
    || ((tag == 27) || ((tag == 30) || (tag == 33)))))
    then Some 4
    else if tag == 26 then Some 5
    else if (tag == 20) || ((tag == 21) || (tag == 24)) then Some 8
    else if tag == 25 then Some 12
    else None

abbrev pub is_there : Option ℕ → Bool
is_there None = false
is_there (Some n) = true

-- a type that its tag alone describes: these, and bit-string, octet-string, visible-string, utf8-string
abbrev pub is_simple : ℕ → Bool
is_simple tag =
    is_there (fixed_of tag) || ((tag == 4) || ((tag == 9) || ((tag == 10) || (tag == 12))))

abbrev pub are_simple : ℕ → List ℕ → Bool
are_simple count bytes = nat_le count (length bytes) && list_all is_simple (take count bytes)

-- a structure of such types, after its tag
abbrev pub structure_type : List ℕ → Option ℕ
structure_type bytes = option_and_then (λ l. if are_simple l.number (drop l.octets bytes)
    then Some (1 + l.octets + l.number) else None) (length_at bytes)

abbrev pub flat_type : List ℕ → Option ℕ
flat_type [] = None
flat_type (tag ∷ rest) = if tag == 2 then structure_type rest else if is_simple tag then Some 1
    else None

-- an array: its tag, how many values in two octets, and their type
abbrev pub type_at : List ℕ → Option ℕ
type_at (tag ∷ a ∷ b ∷ rest) = if tag == 1 then option_map (λ n. 3 + n) (flat_type rest)
    else flat_type (tag ∷ a ∷ b ∷ rest)
type_at bytes = flat_type bytes

-- a compact-array after its tag: its type, and a text of its contents
abbrev pub compact : List ℕ → Option Front
compact bytes = option_and_then
    (λ described. option_map (λ l. alone (1 + described + l.octets + l.number))
    (length_at (drop described bytes))) (type_at bytes)

-- the length counts the values of an array and a structure, the bits of a bit-string, and the octets of a string
abbrev pub counted : ℕ → Length → Front
counted tag l =
    if (tag == 1) || (tag == 2) then record { own = 1 + l.octets; values = l.number }
    else if tag == 4 then alone (1 + l.octets + (l.number + 7) / 8)
    else alone (1 + l.octets + l.number)

abbrev pub is_counted : ℕ → Bool
is_counted tag =
    (tag == 1) || ((tag == 2) || ((tag == 4) || ((tag == 9) || ((tag == 10) || (tag == 12)))))

-- a value: its tag with its own octets
abbrev pub node_at : List ℕ → Option Front
node_at [] = None
node_at (tag ∷ rest) =
    if is_counted tag then option_map (counted tag) (length_at rest)
    else if tag == 19 then compact rest
    else option_map (λ n. alone (1 + n)) (fixed_of tag)
