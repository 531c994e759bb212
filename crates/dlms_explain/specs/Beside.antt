-- The octets of a frame that may be shown beside its explanation.
use Rattle.std.specs.Prelude.{ℕ, ◌+◌, ◌-◌, if◌then◌else◌, nat_le, List, length, take}

-- All of them, if all octets of its information may be; otherwise its head with as many as may. The information is followed by its
-- check, of two octets, and a flag.
abbrev pub beside : List ℕ → ℕ → ℕ → List ℕ
beside octets info shown = if nat_le info shown then octets
    else take (length octets - info - 3 + shown) octets
