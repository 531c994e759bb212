-- The pulses of a load.
use Rattle.std.specs.Prelude.{ℕ, ◌*◌, ◌/◌}

-- the pulses of a load in this many seconds: one for each watt-hour, with 3600 seconds in an hour
abbrev pub pulses_after : (watts seconds : ℕ) → ℕ
pulses_after watts seconds = watts * seconds / 3600
