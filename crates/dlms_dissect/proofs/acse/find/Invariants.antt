use Rattle.std.proofs.Common.{ℕ, List, length}
use Rattle.dlms_dissect.specs.Acse.{StandsBehind}
use Rattle.dlms_dissect.proofs.acse.find.Given as goal

abbrev pub invariant-fields : goal.invariant-fields
invariant-fields l = (fs : List (ℕ × List ℕ)) × StandsBehind l.tag l.fields fs l.rest

abbrev pub decreases-fields : goal.decreases-fields
decreases-fields l = length l.rest
