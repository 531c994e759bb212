-- Reading records from left to right. No public clause but the items of an iterator speaks of it.
use Rattle.std.specs.Prelude.{ℕ, zero, suc, ◌==◌, nat_lt, nat_le, if◌then◌else◌, List, [], ◌∷◌, length, take, drop, Option, Some, None}
use Rattle.std.specs.Int.{cast_signed, w16}
use Rattle.byteorder.specs.Endian.{big_number}
use Rattle.dlms_state.specs.declared.event.Event.{Event}
use Rattle.dlms_state.specs.declared.event.Event.TheVariants.{Pulses, Moment, SetTime, Shift, AdjustMinute, SetPeriod, SetText, SetSecret, ResetRegister, ResetProfile, Capture, SetColumns}
use Rattle.dlms_state.specs.declared.event.SecretOf.TheVariants.{Management, Reader}

abbrev pub on_some : {A B : Type 0} → Option A → (A → Option B) → Option B
on_some None f = None
on_some (Some x) f = f x

-- n bytes, and those after them
unfoldable pub taken_at : ℕ → List ℕ → Option (List ℕ × List ℕ)
taken_at n bytes = if nat_lt (length bytes) n then None else Some (take n bytes, drop n bytes)

-- a number of n bytes
unfoldable pub number_at : ℕ → List ℕ → Option (ℕ × List ℕ)
number_at n bytes = on_some (taken_at n bytes) (λ t. Some (big_number n t.0, t.1))

-- a count up to the limit, and that many bytes
unfoldable pub counted_at : ℕ → List ℕ → Option (List ℕ × List ℕ)
counted_at most [] = None
counted_at most (count ∷ rest) = if nat_le count most then taken_at count rest else None

-- what is read, as an event
abbrev pub as_event : {A : Type 0} → (A → Event) → A × List ℕ → Option (Event × List ℕ)
as_event event x = Some (event x.0, x.1)

unfoldable pub pulses_at : List ℕ → Option (Event × List ℕ)
pulses_at [] = None
pulses_at (channel ∷ rest) = on_some (number_at 4 rest) (as_event (Pulses channel))

unfoldable pub secret_at : List ℕ → Option (Event × List ℕ)
secret_at [] = None
secret_at (whose ∷ rest) =
    if whose == 1 then on_some (counted_at 16 rest)
    (as_event (λ bytes. SetSecret Management (record { items = bytes })))
    else if whose == 2 then on_some (counted_at 16 rest)
    (as_event (λ bytes. SetSecret Reader (record { items = bytes })))
    else None

unfoldable pub register_at : List ℕ → Option (Event × List ℕ)
register_at [] = None
register_at (channel ∷ rest) = Some (ResetRegister channel, rest)

-- the event at the front, and the bytes after it
unfoldable pub event_at : List ℕ → Option (Event × List ℕ)
event_at [] = None
event_at (kind ∷ rest) =
    if kind == 1 then pulses_at rest
    else if kind == 2 then on_some (number_at 4 rest) (as_event Moment)
    else if kind == 3 then on_some (number_at 4 rest) (as_event SetTime)
    else if kind == 4 then on_some (number_at 2 rest) (as_event (λ n. Shift (cast_signed w16 n)))
    else if kind == 5 then Some (AdjustMinute, rest)
    else if kind == 6 then on_some (number_at 4 rest) (as_event SetPeriod)
    else if kind == 7 then on_some (counted_at 240 rest)
    (as_event (λ bytes. SetText (record { items = bytes })))
    else if kind == 8 then secret_at rest
    else if kind == 9 then register_at rest
    else if kind == 10 then Some (ResetProfile, rest)
    else if kind == 11 then Some (Capture, rest)
    else if kind == 12 then on_some (counted_at 4 rest)
    (as_event (λ ids. SetColumns (record { items = ids })))
    else None

-- the events at the front, up to the limit
abbrev pub events_behind : (List ℕ → List Event) → Option (Event × List ℕ) → List Event
events_behind further None = []
events_behind further (Some x) = x.0 ∷ further x.1

abbrev pub events_from : ℕ → List ℕ → List Event
events_from zero bytes = []
events_from (suc n) bytes = events_behind (events_from n) (event_at bytes)

-- the events at the front; each takes a byte at least
unfoldable pub events_in : List ℕ → List Event
events_in bytes = events_from (length bytes) bytes
