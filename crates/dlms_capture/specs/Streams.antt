-- The octets of one direction of a connection, by their places. Each has a number, which goes on from 2^32 - 1 with 0
-- (RFC 9293, 3.4). Places are counted from 2^32 on, so that there are places in front of the first octet that is seen.
use Rattle.std.specs.Prelude.{◌≡◌, ℕ, ◌+◌, ◌-◌, ◌%◌, ◌≤◌, ◌<◌, ◌++◌, ◌==◌, ◌&&◌, min, max, List, [], ◌∷◌, All, Bool, false, Option, Some, None, option_map, is_some, length, drop, remove, nat_lt, nat_le, slice_get, map, if◌then◌else◌}
use Rattle.std.specs.List.{range_with_len}
use Rattle.dlms_capture.specs.declared.interface.Stamp.{Stamp}
use Rattle.dlms_capture.specs.declared.order.Early.{Early}
use Rattle.dlms_capture.specs.declared.order.Order.{Order}

-- ---- places and numbers

-- how far the octet with this number is ahead of the one with that, counted in numbers
abbrev pub ahead_of : ℕ → ℕ → ℕ
ahead_of next number = (number + 4294967296 - next) % 4294967296

-- the place nearest to this one, whose octet has the number `next`, at which the octet has the other number
abbrev pub place_by : ℕ → ℕ → ℕ → ℕ
place_by next place number =
    if nat_lt (ahead_of next number) 2147483648
    then min (place + ahead_of next number) 18446744073709551615
    else place - ahead_of number next

-- the number of the octet that is this many places after the one with this number, or before it
abbrev pub number_behind : ℕ → ℕ → ℕ
number_behind count number = (number + count % 4294967296) % 4294967296

abbrev pub number_before : ℕ → ℕ → ℕ
number_before count number = (number + 4294967296 - count % 4294967296) % 4294967296

-- the place of the octet with this number, if the next octet's place is this one; while no number is known it is the next one
abbrev pub place_behind : Option ℕ → ℕ → ℕ → ℕ
place_behind None given number = given
place_behind (Some next) given number = place_by next given number

abbrev pub place_in : {A : Type 0} → Order A → ℕ → ℕ
place_in order number = place_behind order.next order.given number

-- whether this is the place
abbrev pub is_place : ℕ → Option ℕ → Bool
is_place place None = false
is_place place (Some p) = place == p

-- the number of the next octet once a segment with this number has come: the first that comes tells it
abbrev pub known_next : Option ℕ → ℕ → Option ℕ
known_next None number = Some number
known_next (Some next) number = Some next

-- ---- segments

-- the octets of a segment at this place that come after the place up to which octets were given
abbrev pub behind : ℕ → ℕ → List ℕ → List ℕ
behind given place octets = drop (given - place) octets

-- so many more octets were given
abbrev pub given_more : ℕ → ℕ → ℕ
given_more given count = min (given + count) 18446744073709551615

abbrev pub next_more : Option ℕ → ℕ → Option ℕ
next_more next count = option_map (number_behind count) next

-- the number of the octet at another place, if that of the one at this place is known
abbrev pub next_at : Option ℕ → ℕ → ℕ → Option ℕ
next_at next given place = option_map (if nat_lt place given then number_before (given - place)
    else number_behind (place - given)) next

-- all of these segments come after octets that were not given
abbrev pub AreEarly : {A : Type 0} → ℕ → List (Early A) → Type 0
AreEarly given segments = All (λ e. given < e.place) segments

-- the first place of these segments; of none the last place that there is
abbrev pub first_place : {A : Type 0} → List (Early A) → ℕ
first_place [] = 18446744073709551615
first_place (e ∷ es) = min e.place (first_place es)

-- a segment with this number is given at once: octets of this direction may be given, and all in front of it were
abbrev pub is_due : {A : Type 0} → Order A → ℕ → Bool
is_due order number = is_some order.start && nat_le (place_in order number) order.given

-- what a segment with this number adds to the output, if it is due
abbrev pub added_by : {A : Type 0} → Order A → ℕ → List ℕ → List ℕ
added_by order number octets = behind order.given (place_in order number) octets

-- the place at which a direction goes on if the octets in front of the first segment that waits do not come
abbrev pub resumed_at : {A : Type 0} → Option ℕ → ℕ → List (Early A) → ℕ
resumed_at start given [] = given
resumed_at None given (e ∷ es) = first_place (e ∷ es)
resumed_at (Some start) given (e ∷ es) = max given (first_place (e ∷ es))

-- the first place of the direction then: the place at which it goes on, if none was known
abbrev pub resumed_start : {A : Type 0} → Option ℕ → ℕ → List (Early A) → Option ℕ
resumed_start start given [] = start
resumed_start None given (e ∷ es) = Some given
resumed_start (Some start) given (e ∷ es) = Some start

-- how many octets are missing then; in front of the first octets of a direction none are counted
abbrev pub missing_at : {A : Type 0} → Option ℕ → ℕ → List (Early A) → ℕ
missing_at None given segments = 0
missing_at (Some start) given [] = 0
missing_at (Some start) given (e ∷ es) = first_place (e ∷ es) - given

-- how many of this many octets from this place on come before the first octets of a direction
abbrev pub late_of : Option ℕ → ℕ → ℕ → ℕ
late_of None place count = 0
late_of (Some start) place count = min (start - place) count

-- A segment that waited, and was due, was given: its octets after the previous ones, and nothing else; the others wait on.
pub record GivesDue {A : Type 0} (old new : Order A) (before after : List ℕ) (stamp : Option Stamp)
    : Type 0 where
  pub at : ℕ
  pub segment : Early A
  pub waited : slice_get old.early.items at ≡ Some segment
  pub due : segment.place ≤ old.given
  pub came : stamp ≡ segment.stamp
  pub octets : after ≡ before ++ behind old.given segment.place segment.octets.items
  pub given : new.given ≡ given_more old.given
      (length (behind old.given segment.place segment.octets.items))
  pub next : new.next ≡ next_more old.next
      (length (behind old.given segment.place segment.octets.items))
  pub start : new.start ≡ old.start
  pub others : new.early.items ≡ remove old.early.items at

-- A segment that waited, and was due, was lost for want of memory: nothing was given, and the others wait on.
pub record LosesDue {A : Type 0} (old new : Order A) (before after : List ℕ) : Type 0 where
  pub at : ℕ
  pub segment : Early A
  pub waited : slice_get old.early.items at ≡ Some segment
  pub due : segment.place ≤ old.given
  pub octets : after ≡ before
  pub given : new.given ≡ old.given
  pub next : new.next ≡ old.next
  pub start : new.start ≡ old.start
  pub others : new.early.items ≡ remove old.early.items at

-- A segment at this place, which came at this time, waits after the previous ones.
pub record Waits {A : Type 0} (old new : List (Early A)) (place : ℕ) (stamp : Option Stamp)
    (octets : List ℕ) : Type 0 where
  pub segment : Early A
  pub last : new ≡ old ++ segment ∷ []
  pub place_is : segment.place ≡ place
  pub stamp_is : segment.stamp ≡ stamp
  pub octets_are : segment.octets.items ≡ octets

-- ---- a stream of octets

-- n octets of a stream from this place on
abbrev pub stretch : (ℕ → ℕ) → ℕ → ℕ → List ℕ
stretch stream from n = map stream (range_with_len from n)
