use Rattle.dlms_serving.proofs.ServeLemmas.{closes_banned, closes_in_vain, closes_still}
use Rattle.dlms_serving.proofs.serving.ban.Goals as goal

pub returns-then-not-is_refused : goal.returns-then-not-is_refused
returns-then-not-is_refused g c = closes_still c.args.address (g.W.Watch.seen c.args.watch.now) c.args.ending c.is_refused.result c.is_refused.ensures c.if-not-is_refused.true

pub returns-in_err-now : goal.returns-in_err-now
returns-in_err-now g c =
    closes_in_vain c.args.address (g.W.Watch.seen c.args.watch.now) (g.W.Watch.seen c.seconds.new.self) c.args.ending c.is_refused.result c.in_err-now.field-0.0 c.from_residual.result c.is_refused.ensures c.if-not-is_refused.false
    c.from_residual.ensures.1 c.in_err-now.ensures

pub returns : goal.returns
returns g c =
    closes_banned c.args.address (g.W.Watch.seen c.args.watch.now) (g.W.Watch.seen c.seconds.new.self) (g.W.Watch.seen c.bar.new.self) c.args.ending c.is_refused.result c.in_ok-now.now c.is_refused.ensures c.if-not-is_refused.false
    c.in_ok-now.ensures c.bar.ensures
