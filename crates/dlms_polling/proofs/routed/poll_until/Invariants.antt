use Rattle.dlms_polling.proofs.RoutedLemmas.{Reading}
use Rattle.dlms_polling.proofs.routed.poll_until.Given as goal

abbrev pub invariant-reads : goal.invariant-reads
invariant-reads g l = Reading l.fn.seconds (g.S.End.past l.fn.line) (g.S.End.past l.line) (g.T.Timer.seen l.fn.timer) (g.T.Timer.seen l.timer) l.fn.poll l._read l.oldest l.poll
