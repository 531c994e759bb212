use Rattle.std.proofs.Common.{◌+◌, ◌-◌, ◌^◌, length}
use Rattle.dlms_program.specs.Calls.{Passes}
use Rattle.dlms_program.proofs.PutLemmas.{PutSoFar}
use Rattle.dlms_program.proofs.printing.put.Given as goal

abbrev pub invariant-writing : goal.invariant-writing
invariant-writing g l = PutSoFar (g.W.Sink.contents l.fn.writer) (g.W.Sink.contents l.writer) l.fn.bytes l.rest × Passes (2 ^ 64 - 1 - l.tries) (g.W.Sink.calls l.fn.writer) (g.W.Sink.calls l.writer)

abbrev pub decreases-writing : goal.decreases-writing
decreases-writing g l = length l.rest + l.tries
