-- The record of an event on the meter's medium.
use Rattle.std.specs.Prelude.{◌≡◌, ℕ, List, [], ◌∷◌, length, All}
use Rattle.std.specs.List.{flat_map}
use Rattle.std.specs.Int.{cast_unsigned, w16}
use Rattle.byteorder.specs.Endian.{big_bytes}
use Rattle.dlms_state.specs.declared.event.Event.{Event}
use Rattle.dlms_state.specs.declared.event.Event.TheVariants.{Pulses, Moment, SetTime, Shift, AdjustMinute, SetPeriod, SetText, SetSecret, ResetRegister, ResetProfile, Capture, SetColumns}
use Rattle.dlms_state.specs.declared.event.SecretOf.{SecretOf}
use Rattle.dlms_state.specs.declared.event.SecretOf.TheVariants.{Management, Reader}
use Rattle.dlms_state.specs.Types.{FitsType}

-- whose secret a record carries
abbrev pub owner_number : SecretOf → ℕ
owner_number Management = 1
owner_number Reader = 2

-- A record: a number for the kind of event, in the order of the table of events, and the event's content. Numbers have their
-- highest byte first, a shift is in two's complement; bytes and ids of columns follow their count, and a secret also follows the
-- number of its client.
abbrev pub record_of : Event → List ℕ
record_of (Pulses channel count) = 1 ∷ channel ∷ big_bytes 4 count
record_of (Moment second) = 2 ∷ big_bytes 4 second
record_of (SetTime second) = 3 ∷ big_bytes 4 second
record_of (Shift by) = 4 ∷ big_bytes 2 (cast_unsigned w16 by)
record_of AdjustMinute = 5 ∷ []
record_of (SetPeriod seconds) = 6 ∷ big_bytes 4 seconds
record_of (SetText text) = 7 ∷ length text.items ∷ text.items
record_of (SetSecret of secret) = 8 ∷ owner_number of ∷ length secret.items ∷ secret.items
record_of (ResetRegister channel) = 9 ∷ channel ∷ []
record_of ResetProfile = 10 ∷ []
record_of Capture = 11 ∷ []
record_of (SetColumns ids) = 12 ∷ length ids.items ∷ ids.items

-- these events, each as its type admits, stand here one after another, and nothing else does
pub record Holds (bytes : List ℕ) (events : List Event) : Type 0 where
  pub text : bytes ≡ flat_map record_of events
  pub fit : All FitsType events
