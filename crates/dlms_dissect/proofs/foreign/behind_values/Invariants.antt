use Rattle.std.proofs.Common.{length}
use Rattle.dlms_dissect.proofs.foreign.behind_values.Given as goal

abbrev pub decreases-inner : goal.decreases-inner
decreases-inner l = length l.left.rest.now
