use Rattle.dlms_serving.proofs.TalkLemmas.{tells_none, tells_one}
use Rattle.dlms_serving.proofs.talking.TurnState.tells.Goals as goal

pub returns-then-not-is_proved : goal.returns-then-not-is_proved
returns-then-not-is_proved g c = tells_none (g.W.Watch.seen c.args.watch.now) c.args.self.now c.args.now c.if-not-is_proved.true

pub returns : goal.returns
returns g c = tells_one (g.W.Watch.seen c.args.watch.now) (g.W.Watch.seen c.trust.new.self) c.args.self.now c.args.now c.if-not-is_proved.false c.trust.ensures
