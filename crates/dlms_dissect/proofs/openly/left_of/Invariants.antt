use Rattle.std.proofs.Common.{length}
use Rattle.dlms_dissect.specs.Openly.{IsOpened}
use Rattle.dlms_dissect.specs.Walk.{pending_of}
use Rattle.dlms_dissect.proofs.openly.left_of.Given as goal

abbrev pub invariant-fields : goal.invariant-fields
invariant-fields l = IsOpened l.secrecy (pending_of l.fn.walk) l.fn.walk.rest.now (pending_of l.left) l.left.rest.now

abbrev pub decreases-fields : goal.decreases-fields
decreases-fields l = length l.left.rest.now
