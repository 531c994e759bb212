use Rattle.std.proofs.Common.{refl, ◌≡◌, ◌∙◌, sym, subst, Option, Some, None}
use Rattle.dlms_frame.specs.Frame.{Parts}
use Rattle.dlms_serving.specs.Refusals.{IsFirstFrame, outcome_in}
use Rattle.dlms_serving.proofs.RefusalLemmas.{first_found}
use Rattle.dlms_serving.proofs.refusals.outcome_in.Goals as goal

pub returns-in-Some : goal.returns-in-Some
returns-in-Some c =
    let first : IsFirstFrame c.args.reply.now (Some c.in-Some.frame) = subst (λ (found : Option Parts). IsFirstFrame c.args.reply.now found) (sym c.frame.ensures ∙ c.in-Some.is)
    (first_found _ _ c.args.reply.now c.feed-taken.result _ c.new-deframer.ensures c.feed-taken.ensures.all c.feed-taken.ensures.takes) in
    (Some c.in-Some.frame, first, subst (λ (f : Parts). c.said_by.result ≡ outcome_in f) c.frame-in-Some.view_is c.said_by.ensures)

pub returns-in-None : goal.returns-in-None
returns-in-None c = (
  None,
  subst (λ (found : Option Parts). IsFirstFrame c.args.reply.now found) (sym c.frame.ensures ∙ c.in-None.is)
      (first_found _ _ c.args.reply.now c.feed-taken.result _ c.new-deframer.ensures c.feed-taken.ensures.all c.feed-taken.ensures.takes),
  refl,
)
