use Rattle.std.proofs.Common.{◌≡◌, ◌-◌, true}
use Rattle.std.specs.Prelude.{is_some}
use Rattle.dlms_program.specs.Calls.{Passes}
use Rattle.dlms_program.proofs.ReplayLemmas.{ReplayedSoFar}
use Rattle.dlms_program.proofs.replaying.replay.Given as goal

abbrev pub invariant-lines : goal.invariant-lines
invariant-lines g l = ReplayedSoFar (g.W.Sink.contents l.fn.writer) (g.W.Sink.contents l.writer) l.fn.meter l.meter (g.R.Source.remaining l.fn.reader) (g.R.Source.remaining l.reader) l.number × (is_some l.meter ≡ true)
    × Passes (l.number - 1) (g.R.Source.calls l.fn.reader) (g.R.Source.calls l.reader) × Passes 0 (g.W.Sink.calls l.fn.writer) (g.W.Sink.calls l.writer)
