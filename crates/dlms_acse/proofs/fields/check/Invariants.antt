use Rattle.std.proofs.Common.{[], length}
use Rattle.dlms_acse.specs.Reading.{checked_at}
use Rattle.dlms_acse.proofs.Walk.{IsLeft}
use Rattle.dlms_acse.proofs.fields.check.Given as goal

abbrev pub invariant-loop-tag : goal.invariant-loop-tag
invariant-loop-tag l = IsLeft l.seen l.rest (checked_at (length l.bytes) [] l.bytes)

abbrev pub decreases-loop-tag : goal.decreases-loop-tag
decreases-loop-tag l = length l.rest
