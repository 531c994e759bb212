-- Who tries secrets: from when on an address may try again whose association requests were refused. All of this is the project's own.
use Rattle.std.specs.Prelude.{◌≡◌, ◌⊎◌, ◌+◌, ◌*◌, ◌-◌, ◌^◌, ◌<◌, ◌≤◌, ◌==◌, ◌&&◌, ◌||◌, ℕ, Bool, true, false, not, nat_le, min, List, [], ◌∷◌, ◌++◌, length, take, drop, filter, find, Option, Some, None, option_map, unwrap_or, Result, is_ok, if◌then◌else◌}
use Rattle.std.specs.List.{list_any}
use Rattle.std.specs.Net.Addr.{IsIpv4Mapped, ipv4_bits, ipv4_octets, ipv6_segments, low_octets}
use Rattle.std.specs.declared.net.ip_addr.IpAddr.{IpAddr}
use Rattle.std.specs.declared.net.ip_addr.IpAddr.TheVariants.{V4, V6}
use Rattle.std.specs.declared.net.ipv4_addr.Ipv4Addr.{Ipv4Addr}
use Rattle.dlms_serving.specs.declared.guesses.Guesses.{Guesses}
use Rattle.dlms_serving.specs.declared.guesses.Mark.{Mark}
use Rattle.dlms_serving.specs.declared.guesses.Proof.{Proof}
use Rattle.dlms_serving.specs.declared.guesses.Origin.{Origin}
use Rattle.dlms_serving.specs.declared.guesses.Origin.TheVariants.{Four, Six, Line}
use Rattle.dlms_serving.specs.declared.guesses.TheConstants.{FIRST_WAIT, LONGEST_WAIT, FORGOTTEN_AFTER, KNOWN_WAIT, KNOWN_FOR, MOST_MARKS, MOST_PROOFS}

-- both are the same
abbrev pub same_origin : Origin → Origin → Bool
same_origin (Four a) (Four b) = a == b
same_origin (Six a b c d) (Six e f g h) = (a == e) && (b == f) && (c == g) && (d == h)
same_origin Line Line = true
same_origin _ _ = false

-- the origin of an address: an address of IPv4, also one that is mapped to IPv6, is alone; an address of IPv6 belongs with all that
-- have the same first half
abbrev pub IsOriginOf : IpAddr → Origin → Type 0
IsOriginOf (V4 four) origin = origin ≡ Four (ipv4_bits four)
IsOriginOf (V6 six) origin =
    (IsIpv4Mapped (ipv6_segments six)
    → (four : Ipv4Addr) × (ipv4_octets four ≡ low_octets six)
    × (origin ≡ Four (ipv4_bits four)))
    × ((IsIpv4Mapped (ipv6_segments six) → ⊥)
    → (a b c d : ℕ) × (take 4 (ipv6_segments six) ≡ a ∷ b ∷ c ∷ d ∷ [])
    × (origin ≡ Six a b c d))

-- this many seconds have passed since then
abbrev pub have_passed : (seconds since now : ℕ) → Bool
have_passed seconds since now = nat_le (since + seconds) now

-- The seconds that an address with this mark waits after a refusal at this second: twice as long as before, up to the longest wait;
-- and as after a first refusal if none came for long enough.
abbrev pub next_wait : Mark → ℕ → ℕ
next_wait mark now = if have_passed FORGOTTEN_AFTER mark.last now then FIRST_WAIT
    else min (2 * mark.wait) LONGEST_WAIT

-- one that has proved a secret, and one of several connections that has been patient, wait no longer than so
abbrev pub most_wait : (is_known is_patient : Bool) → ℕ
most_wait is_known is_patient = if is_known then KNOWN_WAIT
    else (if is_patient then FIRST_WAIT else LONGEST_WAIT)

-- an address has proved a secret, not too long before this second
abbrev pub is_known : List Proof → Origin → ℕ → Bool
is_known proofs origin now = list_any
    (λ proof. same_origin proof.origin origin && not (have_passed KNOWN_FOR proof.last now)) proofs

-- an address still waits at this second, if it waits for this many seconds at most
abbrev pub waits : List Mark → Origin → ℕ → ℕ → Bool
waits marks origin most now =
    list_any (λ mark. same_origin mark.origin origin && not
    (have_passed (min mark.wait most) mark.last now)) marks

-- none that had proved no secret was refused in this second
abbrev pub is_open : Option ℕ → ℕ → Bool
is_open None now = true
is_open (Some last) now = have_passed 1 last now

-- An address is served at this second: its wait is over, and it has proved a secret, or nobody was refused in this second who had not.
abbrev pub may_try : Guesses → Origin → Bool → ℕ → Bool
may_try guesses origin is_patient now =
    (is_known guesses.proofs.items origin now || is_open guesses.last now)
    && not (waits guesses.marks.items origin
    (most_wait (is_known guesses.proofs.items origin now) is_patient) now)

-- the seconds that an address waits after a refusal at this second
abbrev pub wait_behind : List Mark → Origin → ℕ → ℕ
wait_behind marks origin now =
    unwrap_or (option_map (λ (mark : Mark). next_wait mark now)
    (find (λ mark. same_origin mark.origin origin) marks)) FIRST_WAIT

-- the others, without the first one if there are this many
abbrev pub with_room : {X : Type 0} → ℕ → List X → List X
with_room most others = if nat_le most (length others) then drop 1 others else others

-- one more is kept after the others; without memory it is not
abbrev pub Keeps : {X E : Type 0} → ℕ → List X → X → Result (Unit {0}) E → List X → Type 0
Keeps most others item outcome kept = kept ≡ (if is_ok outcome
    then (with_room most others ++ item ∷ []) else with_room most others)

-- those of the other addresses
abbrev pub marks_without : Origin → List Mark → List Mark
marks_without origin marks = filter (λ mark. not (same_origin mark.origin origin)) marks

abbrev pub proofs_without : Origin → List Proof → List Proof
proofs_without origin proofs = filter (λ proof. not (same_origin proof.origin origin)) proofs

-- An association request from an address was refused at this second: that is kept for the address, with its wait, and for all
-- together if it has proved no secret.
pub record Refuses {E : Type 0} (old : Guesses) (origin : Origin) (now : ℕ)
    (outcome : Result (Unit {0}) E) (new : Guesses) : Type 0 where
  pub marks : Keeps MOST_MARKS (marks_without origin old.marks.items) (record {
    origin = origin;
    last = now;
    wait = wait_behind old.marks.items origin now;
  }) outcome new.marks.items
  pub last : new.last ≡ (if is_known old.proofs.items origin now then old.last else Some now)
  pub proofs : new.proofs ≡ old.proofs

-- An address has proved a secret at this second.
pub record Proves {E : Type 0} (old : Guesses) (origin : Origin) (now : ℕ)
    (outcome : Result (Unit {0}) E) (new : Guesses) : Type 0 where
  pub proofs : Keeps MOST_PROOFS (proofs_without origin old.proofs.items) (record {
    origin = origin;
    last = now;
  }) outcome new.proofs.items
  pub last : new.last ≡ old.last
  pub marks : new.marks ≡ old.marks
