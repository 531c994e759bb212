-- The steps of the clock between captures, and the usual one.
use Rattle.std.specs.Prelude.{◌≡◌, ℕ, ◌≤◌, ◌<◌, ◌-◌, ◌==◌, List, Option, Some, None, if◌then◌else◌, nat_lt, drop, count_by}
use Rattle.std.specs.List.{filter_map, zip}
use Rattle.dlms_plot.specs.declared.captures.Sample.{Sample}

-- each element with the next one
abbrev pub neighbors : {X : Type 0} → List X → List (X × X)
neighbors xs = zip xs (drop 1 xs)

-- how far the clock advanced from one capture to the next one, if it did
abbrev pub step_of : Sample × Sample → Option ℕ
step_of (before, after) = if nat_lt before.clock after.clock then Some (after.clock - before.clock)
    else None

abbrev pub steps_of : List Sample → List ℕ
steps_of samples = filter_map step_of (neighbors samples)

-- how often a step stands among them
abbrev pub times : ℕ → List ℕ → ℕ
times step steps = count_by (λ s. s == step) steps

-- it stands among them, no other more often, and none as often that is less
pub record IsUsual (steps : List ℕ) (step : ℕ) : Type 0 where
  pub among : 0 < times step steps
  pub most : (other : ℕ) → times other steps ≤ times step steps
  pub least : (other : ℕ) → times other steps ≡ times step steps → step ≤ other
