use Rattle.dlms_frame.specs.Index.{IsIndex}
use Rattle.dlms_frame.proofs.buffer.note_all.Given as goal

abbrev pub invariant-loop-start : goal.invariant-loop-start
invariant-loop-start l = IsIndex l.bytes l.index.heads l.index.links l.start
