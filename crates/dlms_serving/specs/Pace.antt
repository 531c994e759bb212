-- The pace at which a meter gets the seconds of a clock.
use Rattle.std.specs.Prelude.{◌≡◌, ◌+◌, ◌*◌, ◌<◌, ◌≤◌, ℕ}

-- of the seconds that have passed these are due: those of whole steps of this many, the next of which is not over yet
pub record AreDue (step elapsed due : ℕ) : Type 0 where
  pub steps : ℕ
  pub whole : due ≡ steps * step
  pub gone : due ≤ elapsed
  pub next : elapsed < due + step
