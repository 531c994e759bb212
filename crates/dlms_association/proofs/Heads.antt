-- The number of a block.
use Rattle.std.proofs.Common.{arith, ◌≡◌, ◌+◌, ℕ, true}
use Rattle.std.proofs.lemmas.Bool.Decides.{nat_tests}
use Rattle.dlms_blocks.specs.Joining.{Joining, is_next}

pub next_number : (old : Joining) (number : ℕ) → is_next old number ≡ true → number ≡ old.taken + 1
next_number old number h = grind (arith, nat_tests)
