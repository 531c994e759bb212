use Rattle.std.proofs.Common.{inl, option_map, sym, Some}
use Rattle.dlms_data.specs.View.{value_of}
use Rattle.dlms_service.proofs.Serving.{completed}
use Rattle.dlms_service.proofs.Values.{behind_reference}
use Rattle.dlms_service.proofs.session.Session.complete.Goals as goal

-- the whole value is the one that is concluded
pub returns-in-Ok-clause-completes : goal.returns-in-Ok-clause-completes
returns-in-Ok-clause-completes g c E is =
    inl (completed E c.args.self.now c.args.invoke c.args.number c.args.target c.args.joined.now (option_map value_of c.in-Ok.value) _
    c.in-Ok.ensures.found (rw (sym (behind_reference c.as_ref.result c.in-Ok.value c.as_ref.ensures.value)) (c.conclude-event.ensures.done E is)))

-- what is not looked at is refused, whatever it is
pub returns-in-Err-2-clause-completes : goal.returns-in-Err-2-clause-completes
returns-in-Err-2-clause-completes g c E is =
    let spelled = c.in-Err-2.ensures.lacks in
    inl (completed E c.args.self.now c.args.invoke c.args.number c.args.target c.args.joined.now (Some spelled.0) _ spelled.1 (c.refuse.ensures.done E is spelled.0))
