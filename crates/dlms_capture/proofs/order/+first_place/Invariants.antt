use Rattle.std.proofs.Common.{length}
use Rattle.dlms_capture.proofs.order.+first_place.Given as goal

abbrev pub decreases-first_place : goal.decreases-first_place
decreases-first_place g l = length l.segments.now
