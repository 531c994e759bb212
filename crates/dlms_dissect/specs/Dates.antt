-- Octets that are a date-time (IEC 62056-6-2, 4.1.6.1, date and time notations).
use Rattle.std.specs.Prelude.{ℕ, ◌+◌, ◌*◌, ◌==◌, ◌&&◌, ◌||◌, nat_le, Bool, false, List, [], ◌∷◌}

-- a number within these bounds, or what names none, from this on: 0xFF is a part that is left open
abbrev pub is_within : ℕ → ℕ → ℕ → ℕ → Bool
is_within least most names field = (nat_le least field && nat_le field most) || nat_le names field

-- minutes from UTC in two's complement: 0 to 840, 0x8000 which leaves them open, -720 to -1
abbrev pub is_deviation : ℕ → ℕ → Bool
is_deviation high low = nat_le
    (high * 256 + low) 840 || ((high * 256 + low == 0x8000) || nat_le 64816 (high * 256 + low))

abbrev pub is_day : ℕ → ℕ → ℕ → Bool
is_day month day weekday =
    is_within 1 12 0xfd month && (is_within 1 31 0xfd day && is_within 1 7 0xff weekday)

abbrev pub is_hour : ℕ → ℕ → ℕ → ℕ → Bool
is_hour hour minute second hundredths =
    is_within 0 23 0xff hour && (is_within 0 59 0xff minute
    && (is_within 0 59 0xff second && is_within 0 99 0xff hundredths))

-- The year is any number. In the month 0xFE begins and 0xFD ends daylight saving, in the day 0xFE is the last one of the month
-- and 0xFD the one before it. Every status is one.
abbrev pub is_date_time : List ℕ → Bool
is_date_time (y ∷ z ∷ month ∷ day ∷ weekday ∷ hour ∷ minute ∷ second ∷ hundredths ∷ high ∷ low
    ∷ status ∷ []) =
    is_day month day weekday && (is_hour hour minute second hundredths && is_deviation high low)
is_date_time _ = false
