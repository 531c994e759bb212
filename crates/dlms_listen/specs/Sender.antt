-- The invocation counters of senders (Green Book 9.2.3.6, replay).
use Rattle.std.specs.Prelude.{◌≡◌, ◌≢◌, ◌<◌, ◌≤◌, ◌+◌, if◌then◌else◌, ℕ, List, [], ◌∷◌, length, slice_get, Option, Some, None}
use Rattle.std.specs.Str.{bytes_eq}
use Rattle.dlms_listen.specs.declared.counters.Sender.{Sender}
use Rattle.dlms_listen.specs.declared.counters.Unaccepted.{Unaccepted}
use Rattle.dlms_listen.specs.declared.counters.Unaccepted.TheVariants.{Replay, Full}
use Rattle.dlms_listen.specs.declared.counters.TheConstants.{MOST_SENDERS}

-- the last counter that was accepted from the sender at a place
abbrev pub last_of : Option Sender → Option ℕ
last_of None = None
last_of (Some sender) = sender.last

-- a counter is fresh if it is above the last one that was accepted, or if none was
abbrev pub IsFresh : Option ℕ → ℕ → Type 0
IsFresh None counter = Unit {0}
IsFresh (Some last) counter = last < counter

-- the place of the first sender with a title, which is the end if no sender has it
abbrev pub place_in : List ℕ → List Sender → ℕ
place_in title [] = 0
place_in title (s ∷ ss) = if bytes_eq s.title title then 0 else place_in title ss + 1

-- the last counter that was accepted from the sender with a title
abbrev pub last_from : List ℕ → List Sender → Option ℕ
last_from title senders = last_of (slice_get senders (place_in title senders))

-- a counter of the sender with this title is above its last one, which it then is; the other senders keep theirs
pub record Accepts (title : List ℕ) (counter : ℕ) (old new : List Sender) : Type 0 where
  pub fresh : IsFresh (last_from title old) counter
  pub here : slice_get new (place_in title old) ≡ Some
      (record { title = title; last = Some counter })
  pub others : (i : ℕ) → i ≢ place_in title old → slice_get new i ≡ slice_get old i

-- a counter of the sender with this title is not above the last one that was accepted
pub record IsReplay (title : List ℕ) (counter last : ℕ) (senders : List Sender) : Type 0 where
  pub known : last_from title senders ≡ Some last
  pub below : counter ≤ last

-- why a counter is not accepted
abbrev pub IsUnaccepted : List ℕ → ℕ → List Sender → Unaccepted → Type 0
IsUnaccepted title counter senders (Replay last) = IsReplay title counter last senders
IsUnaccepted title counter senders Full =
    (place_in title senders ≡ length senders) × (length senders ≡ MOST_SENDERS)
