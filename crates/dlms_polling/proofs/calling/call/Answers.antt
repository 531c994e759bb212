use Rattle.std.proofs.Common.{arith, inl, refl, sym, subst, ◌<◌, ◌≡◌, ℕ, Option, Ok}
use Rattle.dlms_polling.specs.Guards.{watch}
use Rattle.dlms_polling.specs.Ways.{IsDoneBy, way_of}
use Rattle.dlms_polling.specs.Calling.{Again, Begun, Fails, NoClock, NoWait, Waits}
use Rattle.dlms_polling.proofs.PollingLemmas.{gave_up, gives_none, last_tried, retried, tries_so}
use Rattle.dlms_polling.proofs.calling.call.Goals as goal

pub returns-in-Err-clause-calls : goal.returns-in-Err-clause-calls
returns-in-Err-clause-calls g c = NoClock c.in-Err.error (refl, refl) c.in-Err.ensures refl refl

pub attempts-init : goal.attempts-init
attempts-init g c = Begun (watch (g.D.Timer.seen c.start.new.self) (g.G.Guards.given c.args.guards.now)) c.in-Ok.ensures refl

pub returns-in_default-clause-calls : goal.returns-in_default-clause-calls
returns-in_default-clause-calls g c =
    let lt : c.attempts._attempt < c.args.polling.now.retries = omega (arith, c.attempts-test.true, c.attempts.auto._attempt-end) in
    Fails (tries_so _ _ _ _ _ _ _ c.attempts._attempt _ _ (omega (arith, lt)) c.attempts.invariant c.in-Err-attempt.ensures.attempts) (inl (sym c.in_default.ensures))

pub returns-in-Ok-None-clause-calls : goal.returns-in-Ok-None-clause-calls
returns-in-Ok-None-clause-calls g c =
    let lt : c.attempts._attempt < c.args.polling.now.retries = omega (arith, c.attempts-test.true, c.attempts.auto._attempt-end) in
    gave_up _ _ _ _ _ _ c.in-Err-attempt.fault c.outcome_at_deadline.result (retried _ _ _ _ _ _ _ c.attempts._attempt _ c.in-Some.next _ lt c.attempts.invariant c.in-Err-attempt.ensures.attempts (sym c.in-Some.ensures))
    (subst (λ (found : Option ℕ). Waits c.args.polling.now.address.now c.args.polling.now.deadline (g.D.Timer.seen c.attempt.new.inputs) (g.D.Timer.seen c.wait.new.inputs) (Ok found)) c.in-Ok-None.field-0-is c.in-Ok-None.ensures) refl c.outcome_at_deadline.ensures

pub returns-in-Ok-None-clause-done : goal.returns-in-Ok-None-clause-done
returns-in-Ok-None-clause-done g c = gives_none (IsDoneBy (way_of c.args.way.now)) c.in-Err-attempt.fault c.outcome_at_deadline.result c.outcome_at_deadline.ensures

pub returns-in-Err-wait-clause-calls : goal.returns-in-Err-wait-clause-calls
returns-in-Err-wait-clause-calls g c =
    let lt : c.attempts._attempt < c.args.polling.now.retries = omega (arith, c.attempts-test.true, c.attempts.auto._attempt-end) in
    NoWait c.in-Err-attempt.fault (watch (g.D.Timer.seen c.attempt.new.inputs) (g.G.Guards.given c.attempt.new.guards)) (retried _ _ _ _ _ _ _ c.attempts._attempt _ c.in-Some.next _ lt c.attempts.invariant c.in-Err-attempt.ensures.attempts (sym c.in-Some.ensures)) c.in-Err-wait.ensures refl

pub attempts-preserved : goal.attempts-preserved
attempts-preserved g c =
    Again c.attempts._attempt c.attempts.connected c.in-Some.next (g.L.End.past c.attempts.line) (g.L.End.past c.attempt.new.line) (watch (g.D.Timer.seen c.attempts.inputs) (g.G.Guards.given c.attempts.guards)) (watch (g.D.Timer.seen c.attempt.new.inputs) (g.G.Guards.given c.attempt.new.guards)) (watch (g.D.Timer.seen c.wait.new.inputs) (g.G.Guards.given c.attempt.new.guards)) c.in-Err-attempt.fault c.in-Ok-Some.time c.attempts.invariant
    c.in-Err-attempt.ensures.attempts
    (sym c.in-Some.ensures)
    (subst (λ (found : Option ℕ). Waits c.args.polling.now.address.now c.args.polling.now.deadline (g.D.Timer.seen c.attempt.new.inputs) (g.D.Timer.seen c.wait.new.inputs) (Ok found)) c.in-Ok-Some.field-0-is c.in-Ok-Some.ensures) refl

pub returns-clause-calls : goal.returns-clause-calls
returns-clause-calls g c =
    let all : c.attempts._attempt ≡ c.args.polling.now.retries = omega (arith, c.attempts-test.false, c.attempts.auto._attempt-end) in
    last_tried _ _ _ _ _ _ _ c.attempts._attempt _ _ all c.attempts.invariant c.attempt-2.ensures.attempts
