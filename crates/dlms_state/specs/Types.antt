-- The values that the types of the events allow: numbers of 8, 16 and 32 bits, a text of at most 240 bytes, a secret of at most 16,
-- at most four columns.
use Rattle.std.specs.Prelude.{ℕ, ◌<◌, ◌≤◌, ◌^◌, pos, negsuc, ◌≤ℤ◌, List, All, length, ⊤}
use Rattle.dlms_state.specs.declared.event.Event.{Event}
use Rattle.dlms_state.specs.declared.event.Event.TheVariants.{Pulses, Moment, SetTime, Shift, AdjustMinute, SetPeriod, SetText, SetSecret, ResetRegister, ResetProfile, Capture, SetColumns}
use Rattle.dlms_state.specs.declared.event.TheConstants.{MOST_COLUMNS, MOST_SECRET, MOST_TEXT}

-- bytes, at most this many
pub record AreBytes (longest : ℕ) (bytes : List ℕ) : Type 0 where
  pub count : length bytes ≤ longest
  pub each : All (λ byte. byte < 2 ^ 8) bytes

abbrev pub FitsType : Event → Type 0
FitsType (Pulses c n) = (c < 2 ^ 8) × (n < 2 ^ 32)
FitsType (Moment t) = t < 2 ^ 32
FitsType (SetTime s) = s < 2 ^ 32
FitsType (Shift s) = (negsuc 32767 ≤ℤ s) × (s ≤ℤ pos 32767)
FitsType AdjustMinute = ⊤
FitsType (SetPeriod p) = p < 2 ^ 32
FitsType (SetText b) = AreBytes MOST_TEXT b.items
FitsType (SetSecret of b) = AreBytes MOST_SECRET b.items
FitsType (ResetRegister c) = c < 2 ^ 8
FitsType ResetProfile = ⊤
FitsType Capture = ⊤
FitsType (SetColumns ids) = AreBytes MOST_COLUMNS ids.items
