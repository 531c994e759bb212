use Rattle.std.proofs.Common.{◌≡◌, drop}
use Rattle.dlms_dissect.specs.Lines.{is_logged}
use Rattle.dlms_dissect.proofs.lines.log_front.Given as goal

abbrev pub invariant-loop-at : goal.invariant-loop-at
invariant-loop-at l = is_logged (drop l.at l.line) ≡ is_logged l.line
