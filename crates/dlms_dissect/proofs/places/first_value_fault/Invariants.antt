use Rattle.std.proofs.Common.{length}
use Rattle.dlms_dissect.proofs.PlaceLemmas.{IsAt}
use Rattle.dlms_dissect.proofs.places.first_value_fault.Given as goal

abbrev pub invariant-values : goal.invariant-values
invariant-values l = IsAt l.bytes l.before l.rest l.place

abbrev pub decreases-values : goal.decreases-values
decreases-values l = length l.rest
