use Rattle.std.proofs.Common.{length}
use Rattle.dlms_program.specs.Calls.{Passes}
use Rattle.dlms_program.proofs.ReplayLemmas.{FedSoFar}
use Rattle.dlms_program.proofs.replaying.feed.Given as goal

abbrev pub invariant-frames : goal.invariant-frames
invariant-frames g l = FedSoFar (g.W.Sink.contents l.fn.writer) (g.W.Sink.contents l.writer) l.fn.meter l.meter l.fn.bytes l.rest × Passes 0 (g.W.Sink.calls l.fn.writer) (g.W.Sink.calls l.writer)

abbrev pub decreases-frames : goal.decreases-frames
decreases-frames g l = length l.rest
