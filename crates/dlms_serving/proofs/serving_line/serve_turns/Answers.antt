use Rattle.std.proofs.Common.{◌≡◌, ℕ, ◌-◌, ◌^◌, subst, arith}
use Rattle.dlms_serving.specs.Connection.{log, timed}
use Rattle.dlms_serving.specs.ServingLine.{Begun, Then, ServesTurns}
use Rattle.dlms_serving.proofs.CallLemmas.{joined, none_made}
use Rattle.dlms_serving.proofs.LineLemmas.{turns_until}
use Rattle.dlms_serving.proofs.serving_line.serve_turns.Goals as goal

pub turns-init : goal.turns-init
turns-init g c = (Begun, none_made c.args.rules.carrier _)

pub returns-in-Err-clause-serves : goal.returns-in-Err-clause-serves
returns-in-Err-clause-serves g c =
    turns_until c.args.device.now c.args.rules (g.T.End.past c.args.line.now) (g.T.End.past c.turns.line) (g.T.End.past c.serve_turn.new.line) (g.W.Watch.seen c.args.server.now.watch) (g.W.Watch.seen c.turns.server.watch)
    (g.W.Watch.seen c.serve_turn.new.server.watch) c.args.meter.now c.turns.meter c.serve_turn.new.meter c.args.server.now.ticks c.turns.server.ticks c.serve_turn.new.server.ticks c.turns._turn c.in-Err.fault c.turns.invariant.0
    c.in-Err.ensures.serves

pub returns-in-Err-clause-calls : goal.returns-in-Err-clause-calls
returns-in-Err-clause-calls g c = joined c.args.rules.carrier _ _ _ c.turns.invariant.1 c.serve_turn.ensures.calls

pub turns-preserved : goal.turns-preserved
turns-preserved g c = (
  Then c.turns._turn (log (g.T.End.past c.turns.line) (g.W.Watch.seen c.turns.server.watch)) (log (g.T.End.past c.serve_turn.new.line) (g.W.Watch.seen c.serve_turn.new.server.watch)) (timed c.turns.meter c.turns.server.ticks) (timed c.serve_turn.new.meter c.serve_turn.new.server.ticks) c.turns.invariant.0 c.in-Ok.ensures.serves,
  joined c.args.rules.carrier _ _ _ c.turns.invariant.1 c.serve_turn.ensures.calls,
)

pub returns-clause-serves : goal.returns-clause-serves
returns-clause-serves g c =
    let all : c.turns._turn ≡ 2 ^ 64 - 1 = omega (arith, c.turns-test.false, c.turns.auto._turn-end) in
    subst (λ (n : ℕ). ServesTurns c.args.device.now c.args.rules (log (g.T.End.past c.args.line.now) (g.W.Watch.seen c.args.server.now.watch)) (timed c.args.meter.now c.args.server.now.ticks) n (log (g.T.End.past c.turns.line) (g.W.Watch.seen c.turns.server.watch)) (timed c.turns.meter c.turns.server.ticks)) all c.turns.invariant.0

pub returns-clause-calls : goal.returns-clause-calls
returns-clause-calls g c = c.turns.invariant.1
