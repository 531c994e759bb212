use Rattle.dlms_serving.proofs.TalkLemmas.{is_asked, not_due}
use Rattle.dlms_lines.proofs.SharedLemmas.{is_false, is_true}
use Rattle.dlms_serving.proofs.talking.TurnState.asks.Goals as goal

pub returns-then-not-is_due-clause-asks : goal.returns-then-not-is_due-clause-asks
returns-then-not-is_due-clause-asks g c = not_due (g.W.Watch.seen c.args.watch.now) c.args.self.now c.args.now (is_false c.is_due-is_due.result c.if-not-is_due.true c.is_due-is_due.ensures)

pub returns-clause-asks : goal.returns-clause-asks
returns-clause-asks g c =
    is_asked (g.W.Watch.seen c.args.watch.now) (g.W.Watch.seen c.another_waits-waits.new.self) c.args.self.now c.args.now c.another_waits-waits.result c.behind_answer-self.result
    (is_true c.is_due-is_due.result c.if-not-is_due.false c.is_due-is_due.ensures) c.another_waits-waits.ensures c.behind_answer-self.ensures
