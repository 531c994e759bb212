-- Which of the connections that wait is served next, and which gives way where too many do. All of this is the project's own.
use Rattle.std.specs.Prelude.{◌≡◌, ◌⊎◌, ◌+◌, ◌<◌, ◌≤◌, ◌&&◌, ℕ, Bool, true, false, not, nat_lt, IsTrue, List, [], map, count_by, slice_get, Option, Some, None, if◌then◌else◌}
use Rattle.dlms_serving.specs.Guesses.{have_passed, is_known, may_try, same_origin}
use Rattle.dlms_serving.specs.declared.guesses.Guesses.{Guesses}
use Rattle.dlms_serving.specs.declared.guesses.Origin.{Origin}
use Rattle.dlms_serving.specs.declared.guesses.TheConstants.{PATIENCE}
use Rattle.dlms_serving.specs.declared.queue.Found.{Found}
use Rattle.dlms_serving.specs.declared.queue.Place.{Place}

-- how many connections wait from there
abbrev pub crowd_of : List Place → Origin → ℕ
crowd_of places origin = count_by (λ place. same_origin place.origin origin) places

-- one of several connections from there has waited for long
abbrev pub is_patient : List Place → ℕ → Place → Bool
is_patient places now place =
    have_passed PATIENCE place.since now && nat_lt 1 (crowd_of places place.origin)

-- a connection is served at this second; where addresses that have proved a secret go before, it is of one of these
abbrev pub is_ready : List Place → Guesses → Bool → ℕ → Place → Bool
is_ready places guesses only_known now place = (if only_known
    then is_known guesses.proofs.items place.origin now
    else true) && may_try guesses place.origin (is_patient places now place) now

-- the round of a connection that may be served
abbrev pub rank_of : List Place → Guesses → Bool → ℕ → Place → Option ℕ
rank_of places guesses only_known now place = if is_ready places guesses only_known now place
    then Some place.round else None

-- the lesser of the least number so far and one after it, which may have no number
abbrev pub lesser : Option Found → ℕ → Option ℕ → Option Found
lesser least index None = least
lesser None index (Some number) = Some (record { index = index; number = number })
lesser (Some found) index (Some number) = if nat_lt number found.number
    then Some (record { index = index; number = number }) else Some found

-- the greater of the greatest number so far and one after it
abbrev pub greater : Option Found → ℕ → ℕ → Option Found
greater None index number = Some (record { index = index; number = number })
greater (Some found) index number = if nat_lt number found.number then Some found
    else Some (record { index = index; number = number })

-- this is the first of the least ranks, or there is none
abbrev pub IsLeast : List (Option ℕ) → Option ℕ → Type 0
IsLeast ranks None = (k rank : ℕ) → slice_get ranks k ≡ Some (Some rank) → ⊥
IsLeast ranks (Some index) = (least : ℕ) × (slice_get ranks index ≡ Some (Some least))
    × ((k rank : ℕ) → slice_get ranks k ≡ Some (Some rank)
    → (least ≤ rank) × (k < index → least < rank))

-- this is the last of the greatest numbers, or there is none
abbrev pub IsMost : List ℕ → Option Found → Type 0
IsMost numbers None = numbers ≡ []
IsMost numbers (Some found) = (slice_get numbers found.index ≡ Some found.number)
    × ((k number : ℕ) → slice_get numbers k ≡ Some number
    → (number ≤ found.number) × (found.index < k → number < found.number))

-- this is the last that passes, or none does
abbrev pub IsLastOf : {X : Type 0} → (X → Bool) → List X → Option ℕ → Type 0
IsLastOf {X} passes xs None = (k : ℕ) (x : X) → slice_get xs k ≡ Some x → IsTrue (passes x) → ⊥
IsLastOf {X} passes xs (Some index) = (last : X) × (slice_get xs index ≡ Some last)
    × IsTrue (passes last) × ((k : ℕ) (x : X) → slice_get xs k ≡ Some x → IsTrue (passes x)
    → k ≤ index)

abbrev pub rounds_of : List Place → List ℕ
rounds_of places = map (λ (place : Place). place.round) places

-- the last connection of an address that has proved no secret, if there is one
abbrev pub IsLastUnknown : List Place → Guesses → ℕ → Option ℕ → Type 0
IsLastUnknown places guesses now found =
    IsLastOf (λ (place : Place). not (is_known guesses.proofs.items place.origin now)) places found

-- Which connection gives way if there is no room for a new one, of this address and round: the one that would be served last, if
-- that is at least two rounds later; otherwise, if the address of the new one has proved a secret, the last one of an address that
-- has not.
pub data GivesWay (places : List Place) (origin : Origin) (round : ℕ) (guesses : Guesses)
    (now : ℕ) : Option ℕ → Type 0 where
  NobodyWaits : places ≡ [] → GivesWay places origin round guesses now None
  ServedLast : (found : Found) → IsMost (rounds_of places) (Some found) → round + 2 ≤ found.number
      → GivesWay places origin round guesses now (Some found.index)
  OfUnknown : (found : Found) (unknown : Option ℕ) → IsMost (rounds_of places) (Some found)
      → found.number < round + 2 → is_known guesses.proofs.items origin now ≡ true
      → IsLastUnknown places guesses now unknown
      → GivesWay places origin round guesses now unknown
  NotTaken : (found : Found) → IsMost (rounds_of places) (Some found) → found.number < round + 2
      → is_known guesses.proofs.items origin now ≡ false
      → GivesWay places origin round guesses now None
