-- Cells as text.
use Rattle.std.specs.Prelude.{◌≡◌, ◌⊎◌, ℕ, ℤ, ◌+◌, ◌-◌, ◌*◌, ◌^◌, ◌<◌, min, List}
use Rattle.dlms_data.specs.declared.date_time.TheConstants.{LAST_SECOND}
use Rattle.dlms_values.specs.Value.{Value, octets}
use Rattle.dlms_buffer.specs.Clock.{IsClock, IsClockText}
use Rattle.dlms_buffer.specs.Texts.{text_of_octets, IsTextOf}
use Rattle.dlms_buffer.specs.View.{Shown}

-- a date-time as the clock after it has moved on by this many seconds; as octets if it is no date-time, or if that clock is after the year 2099
abbrev pub IsOctetsText : ℕ → List ℕ → List ℕ → Type 0
IsOctetsText later b text =
    IsClockText b later text
    ⊎ (((second : ℕ) → IsClock b second → LAST_SECOND < second + later) × (text ≡ text_of_octets b))

abbrev pub IsShownText : ℕ → ℤ → Value → ℕ → List ℕ → Type 0
IsShownText period scaler (octets k b) age text = IsOctetsText (min (age * period)
    (2 ^ 64 - 1)) b text
IsShownText period scaler value age text = IsTextOf scaler value text

-- the text of a value that was given this many rows before, in a column whose clock moves on by this many seconds with each row
abbrev pub IsCellText : ℕ → ℤ → Shown → List ℕ → Type 0
IsCellText period scaler cell text = IsShownText period scaler cell.0 cell.1 text
