use Rattle.std.proofs.Common.{◌≡◌, ℕ, ◌-◌, ◌^◌, subst, arith}
use Rattle.dlms_serving.specs.Connection.{timed}
use Rattle.dlms_serving.specs.Serving.{Begun, Then, ServesMany}
use Rattle.dlms_serving.proofs.CallLemmas.{joined, none_made}
use Rattle.dlms_serving.proofs.ServeLemmas.{until}
use Rattle.dlms_serving.proofs.serving.serve_all.Goals as goal

pub connections-init : goal.connections-init
connections-init g c = (Begun, none_made c.args.rules.carrier _)

pub returns-in-Err-clause-serves : goal.returns-in-Err-clause-serves
returns-in-Err-clause-serves g c = until c.args.rules (g.W.Watch.seen c.args.server.now.watch) (g.W.Watch.seen c.connections.server.watch) (g.W.Watch.seen c.serve_next.new.server.watch) c.args.meter.now c.connections.meter c.serve_next.new.meter c.args.server.now.ticks c.connections.server.ticks c.serve_next.new.server.ticks c.connections._next c.in-Err.fault c.connections.invariant.0 c.in-Err.ensures.serves

pub returns-in-Err-clause-calls : goal.returns-in-Err-clause-calls
returns-in-Err-clause-calls g c = joined c.args.rules.carrier _ _ _ c.connections.invariant.1 c.serve_next.ensures.calls

pub connections-preserved : goal.connections-preserved
connections-preserved g c = (
  Then c.connections._next (g.W.Watch.seen c.connections.server.watch) (g.W.Watch.seen c.serve_next.new.server.watch) (timed c.connections.meter c.connections.server.ticks) (timed c.serve_next.new.meter c.serve_next.new.server.ticks) c.connections.invariant.0 c.in-Ok.ensures.serves,
  joined c.args.rules.carrier _ _ _ c.connections.invariant.1 c.serve_next.ensures.calls,
)

pub returns-clause-serves : goal.returns-clause-serves
returns-clause-serves g c =
    let all : c.connections._next ≡ 2 ^ 64 - 1 = omega (arith, c.connections-test.false, c.connections.auto._next-end) in
    subst (λ (n : ℕ). ServesMany c.args.rules (g.W.Watch.seen c.args.server.now.watch) (timed c.args.meter.now c.args.server.now.ticks) n (g.W.Watch.seen c.connections.server.watch) (timed c.connections.meter c.connections.server.ticks)) all c.connections.invariant.0

pub returns-clause-calls : goal.returns-clause-calls
returns-clause-calls g c = c.connections.invariant.1
