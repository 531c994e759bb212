use Rattle.dlms_serving.proofs.TalkLemmas.{checks}
use Rattle.dlms_serving.proofs.talking.Server.check.Goals as goal

pub returns : goal.returns
returns g c =
    checks c.args.rules (g.W.Watch.seen c.args.self.now.watch) (g.W.Watch.seen c.look.new.self.watch) (g.W.Watch.seen c.tells.new.watch) (g.W.Watch.seen c.asks.new.watch) c.args.meter.now c.look.new.meter c.args.self.now.ticks
    c.look.new.self.ticks c.args.state.now c.tells.new.self c.asks.new.self c.args.is_answered c.in-Ok.now c.is_associated.result c.turn_after_bytes-state.result c.over.result c.in-Ok.ensures.0 c.in-Ok.ensures.1 c.is_associated.ensures
    c.turn_after_bytes-state.ensures c.tells.ensures c.asks.ensures.asks c.asks.ensures.reader c.over.ensures
