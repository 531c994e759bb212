use Rattle.std.proofs.Common.{◌≡◌, ◌⊎◌, ◌∙◌, [], sym, ap, subst, option_map}
use Rattle.dlms_apdu.specs.Forms.{get_result}
use Rattle.dlms_apdu.specs.View.{selection_of}
use Rattle.dlms_apdu.specs.Writing.{response_bytes}
use Rattle.dlms_service.specs.Session.{SessionValue}
use Rattle.dlms_service.specs.Shown.{Sends}
use Rattle.dlms_service.proofs.Serving.{given, refusing}
use Rattle.dlms_service.proofs.session.Session.get_normal.Goals as goal

-- the value whose encoding is given is the one that is shown
pub returns-in-Ok : goal.returns-in-Ok
returns-in-Ok g c E is =
    let client : c.self.inside.client ≡ c.args.self.now.client = ap (λ (s : SessionValue). s.client) (c.self.view_is ∙ c.end_get.ensures) in
    let encodes = c.in-Ok.ensures.encoding E is in
    let sends = subst (λ (s : SessionValue). Sends s c.args.association c.args.invoke encodes.value (record { own = c.give.new.self; answer = c.give.new.answer.items; accepted = [] })
    ⊎ ((c.give.new.self ≡ s) × (c.give.new.answer.items ≡ response_bytes (get_result c.args.invoke 2)))) c.end_get.ensures (c.give.ensures encodes.value encodes.sendable encodes.canonically) in
    given E c.args.self.now c.args.association c.args.invoke c.args.descriptor (option_map (λ s. selection_of s.now) c.args.selector) encodes.value c.give.new.self c.give.new.answer.items
    (rw (sym client) encodes.shown) sends

pub returns-in-Err : goal.returns-in-Err
returns-in-Err g c E is =
    let client : c.self.inside.client ≡ c.args.self.now.client = ap (λ (s : SessionValue). s.client) (c.self.view_is ∙ c.end_get.ensures) in
    refusing E c.args.self.now c.args.association c.args.invoke c.args.descriptor (option_map (λ s. selection_of s.now) c.args.selector) c.self.inside.client c.in-Err.refusal
    c.end_get.new.self c.put_refusal.new.answer.items client c.end_get.ensures c.put_refusal.ensures (c.in-Err.ensures.refusal E is)
