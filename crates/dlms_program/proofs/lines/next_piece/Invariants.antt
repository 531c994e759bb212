use Rattle.std.proofs.Common.{◌≡◌, ◌-◌, ◌^◌}
use Rattle.std.specs.Io.KnownBytes.{Keeps}
use Rattle.dlms_program.specs.Calls.{Passes}
use Rattle.dlms_program.proofs.lines.next_piece.Given as goal

abbrev pub invariant-reading : goal.invariant-reading
invariant-reading g l = Keeps (g.S.Source.remaining l.initial.source) (g.S.Source.remaining l.source) × (l.line.items ≡ l.initial.line.items) × Passes (2 ^ 64 - 1 - l.tries) (g.S.Source.calls l.initial.source) (g.S.Source.calls l.source)

abbrev pub decreases-reading : goal.decreases-reading
decreases-reading g l = l.tries
