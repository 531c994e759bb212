-- The fields of an association's APDUs (BER, ISO/IEC 8825-1, with tags of one octet and definite lengths).
use Rattle.std.specs.Prelude.{◌≡◌, ◌≢◌, ℕ, ◌==◌, ◌&&◌, nat_lt, nat_le, if◌then◌else◌, Bool, true, false, List, [], ◌∷◌, length, take, drop, Option, Some, None, option_map, option_and_then}
use Rattle.dlms_dissect.specs.Nodes.{length_at}
use Rattle.dlms_dissect.specs.declared.nodes.Length.{Length}

-- the content of a length, and the bytes after that
abbrev pub counted_by : List ℕ → Length → Option (List ℕ × List ℕ)
counted_by bytes l =
    if nat_lt 0 l.octets && (nat_le l.octets (length bytes) && nat_le l.number
    (length (drop l.octets bytes)))
    then Some (take l.number (drop l.octets bytes), drop l.number (drop l.octets bytes))
    else None

abbrev pub counted_at : List ℕ → Option (List ℕ × List ℕ)
counted_at bytes = option_and_then (counted_by bytes) (length_at bytes)

-- the field at the front: its tag, the content of its length, and the bytes after it
abbrev pub field_at : List ℕ → Option (ℕ × List ℕ × List ℕ)
field_at [] = None
field_at (tag ∷ rest) = option_map (λ r. (tag, r.0, r.1)) (counted_at rest)

-- fields with other tags come first, and these bytes follow them
abbrev pub StandsBehind : ℕ → List ℕ → List (ℕ × List ℕ) → List ℕ → Type 0
StandsBehind tag octets [] rest = octets ≡ rest
StandsBehind tag octets (f ∷ fs) rest = (next : List ℕ)
    × ((field_at octets ≡ Some (f.0, f.1, next)) × (f.0 ≢ tag) × StandsBehind tag next fs rest)

-- The value of the first field with this tag: after others it comes first; or there is none, and none follows others.
abbrev pub IsFound : ℕ → List ℕ → Option (List ℕ) → Type 0
IsFound tag octets (Some value) =
    (fs : List (ℕ × List ℕ)) × (rest next : List ℕ)
    × (StandsBehind tag octets fs rest × (field_at rest ≡ Some (tag, value, next)))
IsFound tag octets None = (fs : List (ℕ × List ℕ)) × (rest : List ℕ)
    × (StandsBehind tag octets fs rest × (field_at rest ≡ None))

abbrev pub is_end : Option (ℕ × List ℕ × List ℕ) → Bool
is_end None = false
is_end (Some f) = length f.2 == 0

-- all of the APDU is one field
abbrev pub is_counted : List ℕ → Bool
is_counted bytes = is_end (field_at bytes)

-- 2.16.756.5.8, the names of DLMS UA: kind 1 application contexts, kind 2 mechanisms
abbrev pub object_number : List ℕ → ℕ → Option ℕ
object_number (a ∷ b ∷ c ∷ d ∷ e ∷ found ∷ number ∷ []) kind =
    if (a == 0x60) && ((b == 0x85) && ((c == 0x74)
    && ((d == 0x05) && ((e == 0x08) && (found == kind)))))
    then Some number else None
object_number _ kind = None

abbrev pub title_in : List ℕ → Option (List ℕ)
title_in (tag ∷ len ∷ title) = if (tag == 0x04) && (len == length title) then Some title else None
title_in _ = None

-- a bit-string of one bit, followed by seven unused ones
abbrev pub requires_authentication : List ℕ → Option Bool
requires_authentication (unused ∷ bits ∷ []) =
    if (unused == 7) && (bits == 0x80) then Some true
    else if (unused == 7) && (bits == 0x00) then Some false
    else None
requires_authentication _ = None

-- the user information among these fields, an octet-string, which is an initiate request or response
abbrev pub HasInitiate : List ℕ → Option (List ℕ) → Type 0
HasInitiate fields octets =
    (user : Option (List ℕ)) × (IsFound 0xbe fields user × (octets ≡ option_and_then title_in user))

-- the same, in the fields of an APDU that is one field
abbrev pub InitiateIn : Option (ℕ × List ℕ × List ℕ) → Option (List ℕ) → Type 0
InitiateIn None octets = octets ≡ None
InitiateIn (Some f) octets = HasInitiate f.1 octets
