use Rattle.std.proofs.Common.{◌≡◌, ◌++◌, take}
use Rattle.std.specs.String.{string_bytes}
use Rattle.dlms_headend.specs.Lines.{text_of}
use Rattle.dlms_headend.proofs.lines.append.Given as goal

abbrev pub invariant-loop-row : goal.invariant-loop-row
invariant-loop-row g l = string_bytes l.text ≡ string_bytes l.initial.text ++ text_of (take l.row-index l.rows)
