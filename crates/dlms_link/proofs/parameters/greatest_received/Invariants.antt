use Rattle.std.proofs.Common.{◌≡◌, ◌≤◌, length, ℕ}
use Rattle.dlms_link.specs.Parameters.{read_group}
use Rattle.dlms_link.proofs.parameters.greatest_received.Given as goal

-- what is left reads as the whole does
abbrev pub invariant-loop-rest : goal.invariant-loop-rest
invariant-loop-rest l = (n : ℕ) × (length l.rest ≤ n) × (read_group (length l.group) 128 l.group ≡ read_group n l.received l.rest)

abbrev pub decreases-loop-rest : goal.decreases-loop-rest
decreases-loop-rest l = length l.rest
