use Rattle.std.proofs.Common.{length}
use Rattle.dlms_explain.proofs.explainer.explain_stray.Given as goal

abbrev pub decreases-pieces : goal.decreases-pieces
decreases-pieces g l = length l.rest
