use Rattle.dlms_ends.proofs.PollEndLemmas.{Dialled}
use Rattle.dlms_ends.proofs.poll_end.PollEnd.poll.Given as goal

abbrev pub invariant-reads : goal.invariant-reads
invariant-reads g l = Dialled (g.S.End.past l.fn.end) l.fn.self l._read (g.S.End.past l.end) l.self
