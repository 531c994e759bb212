-- Which second a date-time of twelve octets names (the form is that of the Blue Book, IEC 62056-6-2,
-- clause 4.1.6; the days are those of the Gregorian calendar).
use Rattle.std.specs.Prelude.{◌≡◌, ◌⊎◌, ◌<◌, ◌≤◌, ◌+◌, ◌*◌, ℕ, List, length, slice_index, pos, ◌+ℤ◌, ◌-ℤ◌, ◌*ℤ◌, ℤ}
use Rattle.jiff_core.specs.Calendar.{IsCivilDate, days_from_civil, weekday_number}
use Rattle.dlms_data.specs.declared.date_time.TheConstants.{LAST_SECOND}

abbrev pub year_of : List ℕ → ℕ
year_of octets = 256 * slice_index octets 0 + slice_index octets 1

abbrev pub month_of : List ℕ → ℕ
month_of octets = slice_index octets 2

abbrev pub day_of : List ℕ → ℕ
day_of octets = slice_index octets 3

abbrev pub weekday_of : List ℕ → ℕ
weekday_of octets = slice_index octets 4

-- the day number of the date, on the Gregorian calendar
abbrev pub day_number : List ℕ → ℤ
day_number octets = days_from_civil (pos (year_of octets)) (month_of octets) (day_of octets)

-- the second at that second of that day, counted from 2000-01-01
abbrev pub second_at : ℤ → ℕ → ℤ
second_at day time = (day -ℤ days_from_civil (pos 2000) 1 1) *ℤ pos 86400 +ℤ pos time

-- the second of the day
abbrev pub time_of_day : List ℕ → ℕ
time_of_day octets = 3600 * slice_index octets 5 + 60 * slice_index octets 6 + slice_index octets 7

-- the calendar has the date
abbrev pub HasDate : List ℕ → Type 0
HasDate octets = IsCivilDate (pos (year_of octets)) (month_of octets) (day_of octets)

-- the clock has the time
abbrev pub HasTime : List ℕ → Type 0
HasTime octets = (slice_index octets 5 < 24) × (slice_index octets 6 < 60)
    × (slice_index octets 7 < 60)

-- the deviation is 0 or left open
abbrev pub IsDeviation : ℕ → ℕ → Type 0
IsDeviation high low = ((high ≡ 0) ⊎ (high ≡ 0x80)) × (low ≡ 0)

-- the octets are a date-time of that second of the clock
pub record NamesSecond (octets : List ℕ) (second : ℕ) : Type 0 where
  pub size : length octets ≡ 12
  pub date : HasDate octets
  pub time : HasTime octets
  pub deviation : IsDeviation (slice_index octets 9) (slice_index octets 10)
  pub range : second ≤ LAST_SECOND
  pub value : pos second ≡ second_at (day_number octets) (time_of_day octets)

-- what is written beside the date and the time: the day of the week, from 1 for Monday, and zeros
abbrev pub IsPlainlyWritten : List ℕ → Type 0
IsPlainlyWritten octets = (weekday_of octets ≡ weekday_number (day_number octets) + 1)
    × (slice_index octets 8 ≡ 0) × (slice_index octets 9 ≡ 0) × (slice_index octets 11 ≡ 0)
