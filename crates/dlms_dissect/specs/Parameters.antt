-- The parameters of a link (IEC 62056-46, 6.4.4.4.3.2, HDLC parameter negotiation).
use Rattle.std.specs.Prelude.{◌≡◌, ℕ, ◌+◌, ◌-◌, ◌*◌, ◌==◌, ◌&&◌, ◌||◌, not, min, nat_le, if◌then◌else◌, Bool, true, List, [], ◌∷◌, ◌++◌, length, take, Option, Some, None}
use Rattle.dlms_dissect.specs.declared.parameters.Parameters.{Parameters}

-- a parameter: its identifier and the octets of its value
pub record Parameter : Type 0 where
  pub id : ℕ
  pub value : List ℕ

-- The four that are reported have values of one, two or four octets.
abbrev pub has_lawful_length : ℕ → ℕ → Bool
has_lawful_length id len =
    if nat_le 5 id && nat_le id 8 then (len == 1) || (len == 2) || (len == 4)
    else true

-- the octets of a parameter: its identifier, the length of its value, and the value
abbrev pub parameter_octets : Parameter → List ℕ
parameter_octets p = p.id ∷ length p.value ∷ p.value

-- the octets are these parameters, one after another, and these octets after them
abbrev pub AreParameters : List ℕ → List Parameter → List ℕ → Type 0
AreParameters octets [] rest = octets ≡ rest
AreParameters octets (p ∷ ps) rest = (next : List ℕ)
    × ((octets ≡ parameter_octets p ++ next) × AreParameters next ps rest)

-- there is no parameter at the front
abbrev pub BeginsNone : List ℕ → Type 0
BeginsNone octets = (p : Parameter) (next : List ℕ) → octets ≡ parameter_octets p ++ next → ⊥

-- the number of one, two or four octets, the highest first
abbrev pub number_of : List ℕ → ℕ
number_of (a ∷ []) = a
number_of (a ∷ b ∷ []) = a * 256 + b
number_of (a ∷ b ∷ c ∷ d ∷ []) = ((a * 256 + b) * 256 + c) * 256 + d
number_of _ = 0

-- 5 is the most octets of information that the sender sends in a frame, 6 the most that it receives; 7 is the number of frames that
-- it sends before it waits, 8 the number that it receives. Others are skipped. Of a value with a wrong length only its parameter is
-- reported.
abbrev pub with_number : Parameters → ℕ → List ℕ → Parameters
with_number told id value =
    if not (has_lawful_length id (length value)) then record told { wrong = Some id }
    else if id == 5 then record told { sent = Some (number_of value) }
    else if id == 6 then record told { received = Some (number_of value) }
    else if id == 7 then record told { window_sent = Some (number_of value) }
    else if id == 8 then record told { window_received = Some (number_of value) }
    else told

abbrev pub nothing : Parameters
nothing = record {
  sent = None;
  received = None;
  window_sent = None;
  window_received = None;
  wrong = None;
  behind = 0;
}

-- what they say, one after another: of one that stands twice, the last
abbrev pub told_of : Parameters → List Parameter → Parameters
told_of told [] = told
told_of told (p ∷ ps) = told_of (with_number told p.id p.value) ps

-- octets are counted up to 2^64 - 1
abbrev pub counted : ℕ → ℕ
counted n = min n 18446744073709551615

-- The report of a group's octets, which this many others follow: its parameters, up to octets that begin none.
abbrev pub AreTold : List ℕ → ℕ → Parameters → Type 0
AreTold octets surplus told =
    (ps : List Parameter) × (rest : List ℕ)
    × (AreParameters octets ps rest × BeginsNone rest
    × (told ≡ record (told_of nothing ps) { behind = counted (length rest + surplus) }))

-- the octets of a group, after the format 0x81, the group's identifier 0x80 and its length, and the number of octets after the
-- group
abbrev pub group_in : List ℕ → Option (List ℕ × ℕ)
group_in (format ∷ id ∷ len ∷ octets) =
    if (format == 0x81) && (id == 0x80)
    then Some (take (min len (length octets)) octets, length octets - min len (length octets))
    else None
group_in _ = None

abbrev pub IsToldOfGroup : Option (List ℕ × ℕ) → Option Parameters → Type 0
IsToldOfGroup None told = told ≡ None
IsToldOfGroup (Some group) None = ⊥
IsToldOfGroup (Some group) (Some told) = AreTold group.0 group.1 told

-- The report of the information of an SNRM or a UA: nothing if there is none, otherwise the parameters of the group, if there is
-- one.
abbrev pub IsTold : List ℕ → Option Parameters → Type 0
IsTold [] told = told ≡ Some nothing
IsTold (x ∷ xs) told = IsToldOfGroup (group_in (x ∷ xs)) told
