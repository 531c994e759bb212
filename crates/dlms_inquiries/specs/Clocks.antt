-- A meter's clock beside the system's, and what corrects it (Blue Book, IEC 62056-6-2: date and time formats, shift_time of the class Clock).
use Rattle.std.specs.Prelude.{◌≡◌, ◌⊎◌, ◌<◌, ◌≤◌, ◌+◌, ◌*◌, ℕ, ℤ, pos, negsuc, neg_ℤ, ◌+ℤ◌, ◌-ℤ◌, ◌*ℤ◌, min, unsigned_abs, nat_le, nat_lt, Bool, true, if◌then◌else◌, List, ◌∷◌, length, Option, Some, None, option_map, bit_and, slice_index, slice_set}
use Rattle.std.specs.Int.{cast_signed, w16}
use Rattle.dlms_data.specs.DateTime.{IsPlainlyWritten, NamesSecond}
use Rattle.dlms_inquiries.specs.declared.clock.Comparison.{Comparison}
use Rattle.dlms_inquiries.specs.declared.clock.TheConstants.{BEGINNING}
use Rattle.dlms_data.specs.declared.date_time.TheConstants.{LAST_SECOND}

-- ---- the second that a clock shows

abbrev pub signed_deviation : List ℕ → ℤ
signed_deviation clock = cast_signed w16 (256 * slice_index clock 9 + slice_index clock 10)

-- the deviation of a date-time: UTC less its time, in minutes; 0 if it is left open, or more than twelve hours
abbrev pub deviation_of : List ℕ → ℤ
deviation_of clock = if nat_le (unsigned_abs (signed_deviation clock)) 720
    then signed_deviation clock else pos 0

-- the same without its deviation
abbrev pub without_deviation : List ℕ → List ℕ
without_deviation clock = slice_set (slice_set clock 9 0) 10 0

-- the date-time names this second of UTC, counted from 2000-01-01 00:00:00
pub record NamesMoment (clock : List ℕ) (moment : ℤ) : Type 0 where
  pub second : ℕ
  pub local : NamesSecond (without_deviation clock) second
  pub value : moment ≡ pos second +ℤ deviation_of clock *ℤ pos 60

-- the second of UTC that a clock shows, if it shows one
abbrev pub IsMoment : Option (List ℕ) → Option ℤ → Type 0
IsMoment None moment = moment ≡ None
IsMoment (Some clock) (Some moment) = NamesMoment clock moment
IsMoment (Some clock) None = (moment : ℤ) → NamesMoment clock moment → ⊥

-- an encoding spells these twelve octets of a date-time: as a date-time, or as an octet-string
abbrev pub SpellsClock : List ℕ → List ℕ → Type 0
SpellsClock encoding clock = (length clock ≡ 12)
    × ((encoding ≡ 25 ∷ clock) ⊎ (encoding ≡ 9 ∷ 12 ∷ clock))

-- what the encoding of a clock's time shows
abbrev pub IsShown : List ℕ → Option (List ℕ) → Type 0
IsShown encoding (Some clock) = SpellsClock encoding clock
IsShown encoding None = (clock : List ℕ) → SpellsClock encoding clock → ⊥

-- ---- beside the system's clock

-- the second of a meter's clock at this second of the system's, counted from 1970 on; 0 if no meter's clock can show it
abbrev pub IsSystem : ℕ → ℕ → Type 0
IsSystem second system = ((system ≤ LAST_SECOND) × (BEGINNING + system ≡ second))
    ⊎ ((system ≡ 0) × ((second < BEGINNING) ⊎ (BEGINNING + LAST_SECOND < second)))

-- By how many seconds the meter's clock is ahead: it shows the moment this many seconds after the system's. None if it shows no time.
abbrev pub IsAhead : Comparison → Option ℤ → Type 0
IsAhead found ahead =
    IsMoment found.shown (option_map (λ seconds. seconds +ℤ pos found.system) ahead)

-- ---- what corrects it

-- whether a clock is off by more than this many seconds, or shows no time
abbrev pub is_off : ℕ → Option ℤ → Bool
is_off threshold None = true
is_off threshold (Some ahead) = nat_lt threshold (unsigned_abs ahead)

-- The shift that corrects a clock: as many seconds back as it is ahead. None if it shows no time, or is off by more than a quarter of an
-- hour, the most that a clock can be shifted.
abbrev pub shift_for : Option ℤ → Option ℤ
shift_for None = None
shift_for (Some ahead) = if nat_le (unsigned_abs ahead) 900 then Some (neg_ℤ ahead) else None

-- the nearest second that a clock can show
abbrev pub nearest : ℤ → ℕ
nearest (pos second) = min second LAST_SECOND
nearest (negsuc n) = 0

-- a date-time with the deviation of this clock, and with its daylight saving as the only status
abbrev pub in_zone_of : List ℕ → List ℕ → List ℕ
in_zone_of clock time = slice_set (slice_set (slice_set time 9 (slice_index clock 9)) 10
    (slice_index clock 10)) 11 (bit_and (slice_index clock 11) 0x80)

-- the date-time is that of a second of the clock, in UTC
abbrev pub IsPlain : ℕ → List ℕ → Type 0
IsPlain second time = NamesSecond time second × IsPlainlyWritten time

-- The date-time that a clock which shows this is set to at this second of UTC: in its own zone, or in UTC if it shows none.
abbrev pub IsTimeToSet : Option (List ℕ) → ℤ → List ℕ → Type 0
IsTimeToSet None moment time = IsPlain (nearest moment) time
IsTimeToSet (Some clock) moment time = (plain : List ℕ)
    × IsPlain (nearest (moment -ℤ deviation_of clock *ℤ pos 60)) plain
    × (time ≡ in_zone_of clock plain)

-- the second of the system's clock by a clock that shows this moment and is ahead so; this second if either is missing
abbrev pub system_now : ℕ → Option ℤ → Option ℤ → ℤ
system_now second (Some moment) (Some ahead) = moment -ℤ ahead
system_now second (Some moment) None = pos second
system_now second None ahead = pos second

-- the same of a clock that was found so before, and shows this now
pub record IsSystemNow (found : Comparison) (shown : Option (List ℕ)) (second : ℕ) (now : ℤ)
    : Type 0 where
  pub moment : Option ℤ
  pub shows : IsMoment shown moment
  pub ahead : Option ℤ
  pub was : IsAhead found ahead
  pub value : now ≡ system_now second moment ahead

-- The date-time that a clock is set to which was found so before, and has this encoding now: it shows the time, but for the seconds by
-- which it was ahead.
pub record IsTimeNow (found : Comparison) (encoding : List ℕ) (second : ℕ) (time : List ℕ)
    : Type 0 where
  pub shown : Option (List ℕ)
  pub spells : IsShown encoding shown
  pub now : ℤ
  pub system : IsSystemNow found shown second now
  pub set : IsTimeToSet shown now time

-- ---- the laws of a correction

-- A clock that is shifted so is neither ahead then nor behind.
abbrev pub ShiftsRight : Type 0
ShiftsRight = (ahead seconds : ℤ) → shift_for (Some ahead) ≡ Some seconds
    → ahead +ℤ seconds ≡ pos 0

-- A clock that is set so names this second of UTC, if a clock of its zone can show it.
abbrev pub SetsRight : Type 0
SetsRight = (clock : List ℕ) (moment : ℤ) (local : ℕ) (time : List ℕ)
    → IsTimeToSet (Some clock) moment time → local ≤ LAST_SECOND
    → pos local +ℤ deviation_of clock *ℤ pos 60 ≡ moment → NamesMoment time moment
