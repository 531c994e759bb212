use Rattle.dlms_call.specs.Talking.{ListensOn}
use Rattle.dlms_call.proofs.client_end.ClientEnd.settle.Given as goal

abbrev pub invariant-reads : goal.invariant-reads
invariant-reads g l = ListensOn l.fn.most (g.S.End.past l.fn.end) l.fn.self l._read (g.S.End.past l.end) l.self
