use Rattle.std.proofs.Common.{◌≡◌, ℕ, ◌≤◌, length}
use Rattle.dlms_acse.specs.Reading.{find_at}
use Rattle.dlms_secured.proofs.fields.value_in.Given as goal

-- what is left has what the whole has
abbrev pub invariant-loop-first : goal.invariant-loop-first
invariant-loop-first l = (n : ℕ) × (length l.rest ≤ n) × (find_at (length l.fields) l.tag l.fields ≡ find_at n l.tag l.rest)

abbrev pub decreases-loop-first : goal.decreases-loop-first
decreases-loop-first l = length l.rest
