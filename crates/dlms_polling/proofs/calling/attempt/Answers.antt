use Rattle.std.proofs.Common.{refl, subst, Bool, true, Ok}
use Rattle.dlms_polling.specs.Calling.{LineFails, NoLine, NotKnown, Preparing, Prepares, Reaches, aim_of}
use Rattle.dlms_polling.specs.Ways.{outlasts, way_of}
use Rattle.dlms_polling.proofs.calling.attempt.Goals as goal

pub returns-in-Err-clause-attempts : goal.returns-in-Err-clause-attempts
returns-in-Err-clause-attempts g c = NoLine c.in-Err.error (refl, refl) c.in-Err.ensures refl

pub returns-in-Err-prepare-clause-attempts : goal.returns-in-Err-prepare-clause-attempts
returns-in-Err-prepare-clause-attempts g c =
    let reached : Reaches c.args.connected c.args.polling.now.address.now (g.L.End.past c.args.line.now) (g.L.End.past c.reach.new.line) (Ok true) =
    subst (λ (b : Bool). Reaches c.args.connected c.args.polling.now.address.now (g.L.End.past c.args.line.now) (g.L.End.past c.reach.new.line) (Ok b)) c.in-Ok-true.field-0-test c.in-Ok-true.ensures in
    NotKnown (g.L.End.past c.reach.new.line) reached c.in-Err-prepare.ensures refl

pub returns-in-Err-poll_by-clause-attempts : goal.returns-in-Err-poll_by-clause-attempts
returns-in-Err-poll_by-clause-attempts g c =
    let reached : Reaches c.args.connected c.args.polling.now.address.now (g.L.End.past c.args.line.now) (g.L.End.past c.reach.new.line) (Ok true) =
    subst (λ (b : Bool). Reaches c.args.connected c.args.polling.now.address.now (g.L.End.past c.args.line.now) (g.L.End.past c.reach.new.line) (Ok b)) c.in-Ok-true.field-0-test c.in-Ok-true.ensures in
    LineFails c.in-Err-poll_by.fault c.line_fault.ensures
    (record {
      mid = g.L.End.past c.reach.new.line;
      known = g.L.End.past c.prepare.new.line;
      ready = g.D.Timer.seen c.prepare.new.inputs;
      reaches = reached;
      prepares = subst (λ (b : Bool). Prepares (outlasts (way_of c.args.way.now)) (aim_of c.args.polling.now (way_of c.args.way.now)) (g.L.End.past c.reach.new.line) (g.L.End.past c.prepare.new.line) (g.D.Timer.seen c.args.inputs.now) (g.D.Timer.seen c.prepare.new.inputs) (Ok b)) c.in-Ok-true-prepare.field-0-test c.in-Ok-true-prepare.ensures;
      does = c.in-Err-poll_by.ensures.does;
    })

pub returns-in-Ok-false-prepare-clause-attempts : goal.returns-in-Ok-false-prepare-clause-attempts
returns-in-Ok-false-prepare-clause-attempts g c =
    let reached : Reaches c.args.connected c.args.polling.now.address.now (g.L.End.past c.args.line.now) (g.L.End.past c.reach.new.line) (Ok true) =
    subst (λ (b : Bool). Reaches c.args.connected c.args.polling.now.address.now (g.L.End.past c.args.line.now) (g.L.End.past c.reach.new.line) (Ok b)) c.in-Ok-true.field-0-test c.in-Ok-true.ensures in
    Preparing (g.L.End.past c.reach.new.line) reached
    (subst (λ (b : Bool). Prepares (outlasts (way_of c.args.way.now)) (aim_of c.args.polling.now (way_of c.args.way.now)) (g.L.End.past c.reach.new.line) (g.L.End.past c.prepare.new.line) (g.D.Timer.seen c.args.inputs.now) (g.D.Timer.seen c.prepare.new.inputs) (Ok b)) c.in-Ok-false-prepare.field-0-test c.in-Ok-false-prepare.ensures) refl
