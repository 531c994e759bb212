-- A steady clock, what it says, and the time between two of its moments.
use Rattle.std.specs.Prelude.{◌≡◌, ◌-◌, ◌/◌, ℕ, Option, Some, Result, Ok, Err}
use Rattle.std.specs.Time.{instant_nanos}
use Rattle.std.specs.declared.io.Error.{Error}
use Rattle.std.specs.declared.time.Instant.{Instant}

-- the whole seconds between two moments
abbrev pub seconds_between : (earlier later : Instant) → ℕ
seconds_between earlier later = (instant_nanos later - instant_nanos earlier) / 1_000_000_000

-- the seconds since a beginning, by this look at the clock
abbrev pub IsSince : Instant → Result Instant Error → Result ℕ Error → Type 0
IsSince start (Ok now) result = result ≡ Ok (seconds_between start now)
IsSince start (Err e) result = result ≡ Err e

-- the clock begins anew at this look; if it fails, it does not
abbrev pub Begins : Option Instant → Result Instant Error → Result (Unit {0}) Error → Option Instant
    → Type 0
Begins start (Ok now) result start' = (result ≡ Ok tt) × (start' ≡ Some now)
Begins start (Err e) result start' = (result ≡ Err e) × (start' ≡ start)
