use Rattle.std.proofs.Common.{length}
use Rattle.dlms_journal.proofs.Lists.{Behind}
use Rattle.dlms_journal.proofs.records.are_whole.Given as goal

abbrev pub invariant-loop-rest : goal.invariant-loop-rest
invariant-loop-rest l = Behind l.bytes l.rest

abbrev pub decreases-loop-rest : goal.decreases-loop-rest
decreases-loop-rest l = length l.rest
