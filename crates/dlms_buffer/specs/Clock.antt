-- A clock as text (ISO 8601), from a date-time of twelve octets (Blue Book 4.1.6): year, month, day, day of the week, hour, minute,
-- second, hundredths, deviation, status.
use Rattle.std.specs.Prelude.{◌≡◌, ℕ, ◌+◌, ◌-◌, ◌*◌, ◌/◌, ◌%◌, ◌^◌, ◌<◌, List, [], ◌∷◌, ◌++◌, length, slice_index, nat_lt, ◌==◌, if◌then◌else◌}
use Rattle.dlms_data.specs.DateTime.{NamesSecond, year_of, month_of, day_of}

-- a number below 100 as two digits
unfoldable pub two_digits : ℕ → List ℕ
two_digits n = (48 + n / 10 % 10) ∷ (48 + n % 10) ∷ []

-- a number below 100 as two digits, and a separator after them
abbrev pub digits_and : ℕ → ℕ → List ℕ
digits_and n separator = two_digits n ++ separator ∷ []

-- the date and the time: 2024-01-31T23:59:00
unfoldable pub iso_of : List ℕ → List ℕ
iso_of o =
    two_digits (year_of o / 100) ++ digits_and (year_of o % 100) 45 ++ digits_and (month_of o) 45
    ++ digits_and (day_of o) 84 ++ digits_and (slice_index o 5) 58
    ++ digits_and (slice_index o 6) 58
    ++ two_digits (slice_index o 7)

-- an offset from UTC after its sign: hours and minutes
abbrev pub hours_of : ℕ → List ℕ
hours_of minutes = digits_and (minutes / 60) 58 ++ two_digits (minutes % 60)

-- The deviation is UTC minus local time, in minutes from -720 to 720, as a long. ISO 8601 has local time minus UTC. Nothing is
-- written if the deviation is left open (8000) or out of this range.
abbrev pub offset_of : ℕ → List ℕ
offset_of deviation =
    if deviation == 0 then 43 ∷ hours_of 0
    else if nat_lt deviation 721 then 45 ∷ hours_of deviation
    else if nat_lt 64815 deviation then 43 ∷ hours_of (65536 - deviation)
    else []

abbrev pub deviation_of : List ℕ → ℕ
deviation_of o = 256 * slice_index o 9 + slice_index o 10

-- the date-time with its deviation left open: the time on the wall
abbrev pub local : List ℕ → List ℕ
local o =
    slice_index o 0 ∷ slice_index o 1 ∷ slice_index o 2 ∷ slice_index o 3 ∷ slice_index o 4
    ∷ slice_index o 5 ∷ slice_index o 6 ∷ slice_index o 7 ∷ slice_index o 8 ∷ 0x80 ∷ 0
    ∷ slice_index o 11 ∷ []

-- the octets are a date-time whose time on the wall is this second, counted from 2000-01-01
abbrev pub IsClock : List ℕ → ℕ → Type 0
IsClock octets second = (length octets ≡ 12) × NamesSecond (local octets) second

-- the text of the clock after it has moved on by this many seconds
abbrev pub IsClockText : List ℕ → ℕ → List ℕ → Type 0
IsClockText octets later text =
    (second : ℕ) × (shown : List ℕ) × IsClock octets second × NamesSecond shown (second + later)
    × (text ≡ iso_of shown ++ offset_of (deviation_of octets))
