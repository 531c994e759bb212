-- Places along a length.
use Rattle.std.specs.Prelude.{ℕ, ◌+◌, ◌-◌, ◌*◌, ◌/◌, ◌==◌, if◌then◌else◌, min}

-- The value's share of the whole, as a part of the length, rounded down; all of it for more than the whole; none of it if the whole
-- is nothing.
abbrev pub place_of : (value whole length : ℕ) → ℕ
place_of value whole length = if whole == 0 then 0 else min (value * length / whole) length

-- the same, rounded up
abbrev pub place_above_of : (value whole length : ℕ) → ℕ
place_above_of value whole length = if whole == 0 then 0
    else min ((value * length + (whole - 1)) / whole) length
