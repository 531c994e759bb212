-- The state of the information frames of one end.
use Rattle.std.specs.Prelude.{ℕ, List, Option}
use Rattle.dlms_dissect.specs.declared.segments.Progress.{Progress}

-- the number of the next frame, if it is known; the progress of the current APDU, its segments, and its octets
pub record Following : Type 0 where
  pub next : Option ℕ
  pub progress : Progress
  pub count : ℕ
  pub apdu : List ℕ
