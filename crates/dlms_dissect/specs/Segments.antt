-- The information frames of one end, from one to the next (IEC 62056-46, 6.4.3, numbers modulo 8, 6.4.4, segmentation, and
-- section 5, the LLC). What is done where frames are missing is this project's own.
use Rattle.std.specs.Prelude.{◌≡◌, ◌<◌, ◌≤◌, ℕ, ◌+◌, ◌%◌, ◌==◌, ◌&&◌, ◌||◌, not, nat_le, min, is_some, if◌then◌else◌, Bool, true, false, List, [], ◌∷◌, ◌++◌, length, Option, Some, None}
use Rattle.dlms_dissect.specs.declared.parties.Side.{Side}
use Rattle.dlms_dissect.specs.declared.parties.Side.TheVariants.{Client, Meter}
use Rattle.dlms_dissect.specs.declared.segments.Progress.{Progress}
use Rattle.dlms_dissect.specs.declared.segments.Progress.TheVariants as progress
use Rattle.dlms_dissect.specs.declared.segments.Came.{Came}
use Rattle.dlms_dissect.specs.declared.segments.Came.TheVariants as came
use Rattle.dlms_dissect.specs.declared.segments.TheConstants.{MOST_APDU}
use Rattle.dlms_dissect.specs.Following.{Following}

-- ---- the LLC: E6 E6 00 from the client, E6 E7 00 from the meter

abbrev pub is_from : Option Side → ℕ → Bool
is_from (Some Client) octet = octet == 0xe6
is_from (Some Meter) octet = octet == 0xe7
is_from None octet = (octet == 0xe6) || (octet == 0xe7)

-- the octets after it
abbrev pub behind_llc : Option Side → List ℕ → Option (List ℕ)
behind_llc side (x ∷ y ∷ z ∷ apdu) = if (x == 0xe6) && (is_from side y && (z == 0)) then Some apdu
    else None
behind_llc side _ = None

-- ---- the numbers

abbrev pub after : ℕ → ℕ
after number = (number % 8 + 1) % 8

-- the next frame has this number: for certain, and so far as is known
abbrev pub is_known : Option ℕ → ℕ → Bool
is_known None number = false
is_known (Some next) number = number == next

abbrev pub is_next : Option ℕ → ℕ → Bool
is_next None number = true
is_next (Some next) number = number == next

-- the frame before had this number
abbrev pub is_again : Option ℕ → ℕ → Bool
is_again None number = false
is_again (Some next) number = after number == next

-- ---- what is known

-- nothing is under way
abbrev pub begun : Option ℕ → Following
begun next = record { next = next; progress = progress.Fresh; count = 0; apdu = [] }

-- the link is up
abbrev pub opened : Following → Following
opened f = if is_some f.next then f else begun (Some 0)

-- the other end awaits this number
abbrev pub expected : Following → ℕ → Following
expected f number = if is_known f.next number then f else begun (Some number)

-- what is unsent stays so
abbrev pub without_rest : Following → Following
without_rest f = record f { progress = progress.Fresh; count = 0 }

-- ---- segments

-- an APDU has at most 65,535 octets
abbrev pub with_octets : Following → List ℕ → Following
with_octets f octets =
    if nat_le (length f.apdu + length octets) MOST_APDU
    then record f { progress = progress.Good; apdu = f.apdu ++ octets }
    else record f { progress = progress.TooLong; apdu = [] }

abbrev pub from_start : Following → Option (List ℕ) → Following
from_start f (Some octets) = with_octets (record f { apdu = [] }) octets
from_start f None = record f { progress = progress.BadStart; apdu = [] }

-- a first segment begins with the LLC, and a further one goes on
abbrev pub with_segment : Progress → Option Side → Following → List ℕ → Following
with_segment progress.Fresh side f info = from_start f (behind_llc side info)
with_segment progress.Good side f info = with_octets f info
with_segment progress.TooLong side f info = f
with_segment progress.BadStart side f info = f

-- octets are joined to those of the APDU: there are some, and not too many
abbrev pub Joins : Following → List ℕ → Type 0
Joins f octets = (0 < length octets) × (length f.apdu + length octets ≤ MOST_APDU)

abbrev pub JoinsFromStart : Following → Option (List ℕ) → Type 0
JoinsFromStart f (Some octets) = Joins (record f { apdu = [] }) octets
JoinsFromStart f None = ⊥

abbrev pub JoinsSegment : Progress → Option Side → Following → List ℕ → Type 0
JoinsSegment progress.Fresh side f info = JoinsFromStart f (behind_llc side info)
JoinsSegment progress.Good side f info = Joins f info
JoinsSegment progress.TooLong side f info = ⊥
JoinsSegment progress.BadStart side f info = ⊥

-- the outcome after the last segment
abbrev pub told : Progress → ℕ → Came
told progress.Good count = came.Whole count
told progress.TooLong count = came.TooLong
told progress.Fresh count = came.NoLlc
told progress.BadStart count = came.NoLlc

-- segments are counted up to 2^32 - 1
abbrev pub counted : Following → ℕ
counted f = min (f.count + 1) 4294967295

abbrev pub came_of : Following → Bool → Came
came_of f true = came.Segment (counted f)
came_of f false = told f.progress (counted f)

abbrev pub another : Following → ℕ → Bool → Following
another f number true = record f { next = Some (after number); count = counted f }
another f number false = record f {
  next = Some (after number);
  progress = progress.Fresh;
  count = 0;
}

-- what a frame is that is not taken
abbrev pub passed : Option ℕ → Option Side → ℕ → Bool → List ℕ → Came
passed next side number follows info =
    if is_again next number then came.Again
    else if not follows && is_some (behind_llc side info) then came.Apart
    else came.OutOfTurn

-- a frame is taken
abbrev pub taken_on : Following → Option Side → ℕ → Bool → List ℕ → Came × Following
taken_on f side number follows info =
    let kept = with_segment f.progress side f info in
    (came_of kept follows, another kept number follows)

-- A frame that arrives: one that came before is not taken again, and the next one is taken; another one starts over if it begins an
-- APDU.
abbrev pub taken : Following → Option Side → ℕ → Bool → List ℕ → Came × Following
taken f side number follows info =
    if is_again f.next number then (came.Again, f)
    else if is_next f.next number then taken_on f side number follows info
    else if is_some (behind_llc side info) then taken_on (begun None) side number follows info
    else (came.OutOfTurn, f)

-- The frame is taken, and its octets are joined: to those before it, or to none if it is out of turn.
abbrev pub goes_on : Following → ℕ → Following
goes_on f number = if is_next f.next number then f else begun None

abbrev pub JoinsFrame : Following → Option Side → ℕ → List ℕ → Type 0
JoinsFrame f side number info = (is_again f.next number ≡ false)
    × JoinsSegment (goes_on f number).progress side (goes_on f number) info
