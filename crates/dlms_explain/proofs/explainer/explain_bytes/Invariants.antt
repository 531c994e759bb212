use Rattle.std.proofs.Common.{length}
use Rattle.dlms_explain.proofs.explainer.explain_bytes.Given as goal

abbrev pub decreases-frames : goal.decreases-frames
decreases-frames g l = length l.rest
