use Rattle.std.proofs.Common.{◌≡◌, false, length}
use Rattle.dlms_dissect.proofs.LineLemmas.{are_pairs_behind}
use Rattle.dlms_dissect.proofs.lines.are_pairs.Given as goal

abbrev pub invariant-pairs : goal.invariant-pairs
invariant-pairs l = are_pairs_behind l.has_pair l.rest ≡ are_pairs_behind false l.digits

abbrev pub decreases-pairs : goal.decreases-pairs
decreases-pairs l = length l.rest
