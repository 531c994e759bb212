use Rattle.std.proofs.Common.{length}
use Rattle.dlms_dissect.proofs.ParameterLemmas.{IsLeft}
use Rattle.dlms_dissect.proofs.parameters.group.Given as goal

abbrev pub invariant-group : goal.invariant-group
invariant-group l = IsLeft l.bytes l.parameters l.rest

abbrev pub decreases-group : goal.decreases-group
decreases-group l = length l.rest
