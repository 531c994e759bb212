use Rattle.std.proofs.Common.{length}
use Rattle.dlms_headend.proofs.Files.{HasKept}
use Rattle.dlms_headend.proofs.lines.rows_at_once.Given as goal

abbrev pub invariant-loop-rest : goal.invariant-loop-rest
invariant-loop-rest g l = HasKept l.initial.text l.rows.items l.rest

abbrev pub decreases-loop-rest : goal.decreases-loop-rest
decreases-loop-rest g l = length l.rest
