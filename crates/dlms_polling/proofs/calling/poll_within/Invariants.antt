use Rattle.dlms_polling.proofs.PollingLemmas.{Under}
use Rattle.dlms_polling.proofs.calling.poll_within.Given as goal

abbrev pub invariant-turns : goal.invariant-turns
invariant-turns g l = Under l.fn.seconds (g.S.End.past l.fn.line) (g.S.End.past l.line) (g.T.Timer.seen l.fn.timer) (g.T.Timer.seen l.timer) l.fn.poller l.head_end l._turn
