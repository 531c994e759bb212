use Rattle.std.proofs.Common.{◌≡◌, ◌∙◌, sym, ap, Some}
use Rattle.dlms_service.specs.Session.{SessionValue}
use Rattle.dlms_service.specs.Blocks.{open_for}
use Rattle.dlms_service.proofs.Serving.{continued}
use Rattle.dlms_service.proofs.session.Session.further_block.Goals as goal

-- the block goes on with the open transfer
pub returns-clause-continues : goal.returns-clause-continues
returns-clause-continues g c E is =
    let s = c.args.self.now in
    let target : c.self.inside.target ≡ s.target = ap (λ (s : SessionValue). s.target) c.self.view_is in
    let coming : c.copy-coming.result ≡ s.coming = c.copy-coming.ensures ∙ ap (λ (s : SessionValue). s.coming) c.self.view_is in
    let is_open : open_for c.args.service s.target ≡ Some c.in-Some.target = sym (ap (open_for c.args.service) target) ∙ sym c.open_for.ensures ∙ c.in-Some.is in
    continued E s c.args.service c.args.invoke (record { last = c.args.last; number = c.args.number; raw = c.args.raw.now }) c.in-Some.target c.more-step.new.self c.more-step.result
    _ is_open (rw (sym coming) c.more-step.ensures.answer) (rw (sym coming) c.more-step.ensures.after) (c.step.ensures.steps E is)
