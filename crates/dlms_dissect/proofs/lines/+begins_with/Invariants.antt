use Rattle.std.proofs.Common.{length}
use Rattle.dlms_dissect.proofs.lines.+begins_with.Given as goal

abbrev pub decreases-begins_with : goal.decreases-begins_with
decreases-begins_with l = length l.words.now
