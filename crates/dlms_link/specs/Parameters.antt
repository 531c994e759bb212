-- The parameters of a link, which SNRM proposes and UA answers (IEC 62056-46, 6.4.4.4.3.2, HDLC parameter negotiation
-- during the connection phase).
use Rattle.std.specs.Prelude.{◌≡◌, ℕ, ◌+◌, ◌*◌, ◌/◌, ◌%◌, ◌≤◌, ◌⊎◌, ◌==◌, ◌&&◌, ◌||◌, if◌then◌else◌, Bool, true, List, [], ◌∷◌, ◌++◌, length, fold, IsTrue, All, take, drop, Option, None, Some, unwrap_or, nat_le, min, zero, suc}
use Rattle.std.specs.List.{flat_map, filter_map, last_or}
use Rattle.dlms_link.specs.declared.parameters.TheConstants.{MOST_RECEIVED}
use Rattle.dlms_link.specs.declared.segments.TheConstants.{MOST_BYTES}

-- one parameter: its identifier, and the octets of its value
pub record Parameter : Type 0 where
  pub id : ℕ
  pub value : List ℕ

-- 05 the greatest information sent, 06 received; 07 the window sent, 08 received
abbrev pub is_known : ℕ → Bool
is_known id = nat_le 5 id && nat_le id 8

-- a known parameter has 1, 2 or 4 octets; any other is skipped, however long it is
abbrev pub has_lawful_length : ℕ → ℕ → Bool
has_lawful_length id len = if is_known id then (len == 1) || (len == 2) || (len == 4) else true

abbrev pub IsParameter : Parameter → Type 0
IsParameter p = IsTrue (has_lawful_length p.id (length p.value))

-- the identifier, the length, the value
abbrev pub parameter_bytes : Parameter → List ℕ
parameter_bytes p = p.id ∷ length p.value ∷ p.value

abbrev pub group_of : List Parameter → List ℕ
group_of ps = flat_map parameter_bytes ps

-- format 81, group 80, the group's length, the parameters one after another
abbrev pub information_of : List Parameter → List ℕ
information_of ps = 0x81 ∷ 0x80 ∷ length (group_of ps) ∷ group_of ps

-- An SNRM's information: either empty, which leaves every parameter as it is, or a group of parameters and nothing after it.
abbrev pub IsInformation : List ℕ → List Parameter → Type 0
IsInformation info ps = ((info ≡ []) × (ps ≡ []))
    ⊎ ((info ≡ information_of ps) × All IsParameter ps)

-- the number of these octets, the highest first
abbrev pub number_of : List ℕ → ℕ
number_of octets = fold (λ number octet. 256 * number + octet) 0 octets

-- the value of an 06
abbrev pub received_by : Parameter → Option ℕ
received_by p = if p.id == 6 then Some (number_of p.value) else None

-- The greatest information that the sender of these parameters receives in a frame: the last 06 says it, and without one it is 128.
abbrev pub greatest_received : List Parameter → ℕ
greatest_received ps = unwrap_or (last_or None (filter_map received_by ps)) MOST_BYTES

-- The same by reading from left to right. The first number bounds how many parameters are read, the second is the greatest
-- information so far.
abbrev pub read_group : ℕ → ℕ → List ℕ → Option ℕ
read_group n received [] = Some received
read_group n received (id ∷ []) = None
read_group zero received (id ∷ len ∷ rest) = None
read_group (suc n) received (id ∷ len ∷ rest) =
    if has_lawful_length id len && nat_le len (length rest)
    then read_group n (if id == 6 then number_of (take len rest) else received) (drop len rest)
    else None

-- A valid parameter is at the front, followed by these octets.
pub record IsFirst (id : ℕ) (value behind octets : List ℕ) : Type 0 where
  pub lawful : IsTrue (has_lawful_length id (length value))
  pub text : octets ≡ id ∷ length value ∷ (value ++ behind)

-- the most information of a frame that the meter then sends: at most 128, and a link with less than 32 isn't made
abbrev pub capped_size : ℕ → Option ℕ
capped_size received = if nat_le 32 received then Some (min received MOST_BYTES) else None

abbrev pub size_read : Option ℕ → Option ℕ
size_read None = None
size_read (Some received) = capped_size received

unfoldable pub size_of : List ℕ → Option ℕ
size_of [] = Some MOST_BYTES
size_of (format ∷ group ∷ len ∷ rest) =
    if (format == 0x81) && (group == 0x80) && (len == length rest)
    then size_read (read_group (length rest) MOST_BYTES rest) else None
size_of _ = None

-- both windows are 1
abbrev pub windows : List Parameter
windows =
    record { id = 7; value = 0 ∷ 0 ∷ 0 ∷ 1 ∷ [] } ∷ record { id = 8; value = 0 ∷ 0 ∷ 0 ∷ 1 ∷ [] }
    ∷ []

-- the meter's own: it sends this much, receives 128, and its windows are 1
abbrev pub own_parameters : ℕ → List Parameter
own_parameters size =
    record { id = 5; value = size ∷ [] } ∷ record { id = 6; value = MOST_BYTES ∷ [] } ∷ windows

-- a client may propose to receive 128 to 2,030 octets of information in a frame
pub record IsProposable (size : ℕ) : Type 0 where
  pub least : MOST_BYTES ≤ size
  pub most : size ≤ MOST_RECEIVED

-- a size in one octet if it fits, otherwise in two, the higher first
abbrev pub size_octets : ℕ → List ℕ
size_octets size = if nat_le size 255 then size ∷ [] else size / 256 ∷ size % 256 ∷ []

-- a client's proposal: it sends 128 at most, receives this much, and its windows are 1
abbrev pub proposed_parameters : ℕ → List Parameter
proposed_parameters size =
    record { id = 5; value = MOST_BYTES ∷ [] } ∷ record { id = 6; value = size_octets size }
    ∷ windows

-- the information of an SNRM: empty, or the proposal
abbrev pub proposed_information : Option ℕ → List ℕ
proposed_information None = []
proposed_information (Some size) = information_of (proposed_parameters size)

-- The most information of the client's frames, by the UA: what the meter receives, and at most 128.
-- Information that cannot be read, or names less than 32, leaves 128. A client that proposed nothing
-- doesn't look at it.
abbrev pub agreed_size : (proposal : Option ℕ) (ua : List ℕ) → ℕ
agreed_size None ua = MOST_BYTES
agreed_size (Some size) ua = unwrap_or (size_of ua) MOST_BYTES
