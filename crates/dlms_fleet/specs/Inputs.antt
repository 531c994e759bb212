-- The inputs of a job.
use Rattle.std.specs.Prelude.{ℕ, List}

-- The line is connected and was quiet; these bytes arrived; no byte arrived for as long as an answer may take.
pub data Input : Type 0 where
  Begins : Input
  Reads : (bytes : List ℕ) → Input
  TimesOut : Input
