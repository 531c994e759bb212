use Rattle.std.proofs.Common.{ℕ, List, length}
use Rattle.dlms_dissect.specs.Openly.{StandOpen}
use Rattle.dlms_dissect.proofs.openly.left_of_fields.Given as goal

abbrev pub invariant-fields : goal.invariant-fields
invariant-fields l = (fs : List (ℕ × List ℕ)) × StandOpen l.fields fs l.rest

abbrev pub decreases-fields : goal.decreases-fields
decreases-fields l = length l.rest
