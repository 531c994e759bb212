use Rattle.std.proofs.Common.{length}
use Rattle.dlms_headend.proofs.Files.{HasRead}
use Rattle.dlms_headend.proofs.lines.count.Given as goal

abbrev pub invariant-loop-rest : goal.invariant-loop-rest
invariant-loop-rest l = HasRead l.initial.text l.count l.rest

abbrev pub decreases-loop-rest : goal.decreases-loop-rest
decreases-loop-rest l = length l.rest
