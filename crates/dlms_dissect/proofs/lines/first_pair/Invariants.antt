use Rattle.std.proofs.Common.{◌≡◌, ◌≤◌, length}
use Rattle.dlms_dissect.specs.Lines.{from_pair}
use Rattle.dlms_dissect.proofs.lines.first_pair.Given as goal

abbrev pub invariant-skipping : goal.invariant-skipping
invariant-skipping l = (length l.rest ≤ length l.digits) × (from_pair l.rest ≡ from_pair l.digits)

abbrev pub decreases-skipping : goal.decreases-skipping
decreases-skipping l = length l.rest
