use Rattle.std.proofs.Common.{length}
use Rattle.dlms_dissect.proofs.foreign.misfit.Given as goal

abbrev pub decreases-fields : goal.decreases-fields
decreases-fields l = length l.left.rest.now
