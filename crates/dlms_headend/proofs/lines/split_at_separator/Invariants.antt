use Rattle.std.proofs.Common.{take}
use Rattle.dlms_headend.specs.Lines.{Lacks}
use Rattle.dlms_headend.proofs.lines.split_at_separator.Given as goal

abbrev pub invariant-loop-at : goal.invariant-loop-at
invariant-loop-at l = Lacks l.separator (take l.at l.bytes)
