use Rattle.std.proofs.Common.{subst, sym, refl, List, ℕ, None, Ok, Err}
use Rattle.dlms_call.specs.declared.fault.CallFault.TheVariants.{Memory}
use Rattle.dlms_association.specs.declared.answer.Answer.{Answer}
use Rattle.dlms_identity.specs.Showing.{IsAnswered, IsNot, Says, value_at}
use Rattle.dlms_identity.specs.Text.{IsText}
use Rattle.dlms_identity.specs.declared.showing.TheConstants.{MOST}
use Rattle.dlms_identity.proofs.Lemmas.{requests_as}
use Rattle.dlms_identity.proofs.showing.ask_text.Goals as goal

pub returns-in-Ok : goal.returns-in-Ok
returns-in-Ok g c =
    let text : IsText c.get.new.head.client.association.blocks.joined c.in-Ok.text = subst (λ (o : List ℕ). IsText o c.in-Ok.text) c.value.ensures c.in-Ok.ensures.text in
    IsAnswered c.in-Ok-Value.field-0
    (requests_as MOST _ c.value_at.result (value_at c.args.name) _ _ c.args.head.now (Ok c.in-Ok-Value.field-0) c.get.new.head c.value_at.ensures c.in-Ok-Value.ensures)
    (subst (λ (a : Answer). Says a c.get.new.head.client.association.blocks.joined (Ok c.in-Ok.text)) (sym c.in-Ok-Value.field-0-is) text)

pub returns-in-Err-text_in : goal.returns-in-Err-text_in
returns-in-Err-text_in g c =
    IsAnswered c.in-Ok-Value.field-0
    (requests_as MOST _ c.value_at.result (value_at c.args.name) _ _ c.args.head.now (Ok c.in-Ok-Value.field-0) c.get.new.head c.value_at.ensures c.in-Ok-Value.ensures)
    (subst (λ (a : Answer). Says a c.get.new.head.client.association.blocks.joined (Err Memory)) (sym c.in-Ok-Value.field-0-is) refl)

pub returns-in-Ok-Result : goal.returns-in-Ok-Result
returns-in-Ok-Result g c =
    IsAnswered c.in-Ok-Result.field-0
    (requests_as MOST _ c.value_at.result (value_at c.args.name) _ _ c.args.head.now (Ok c.in-Ok-Result.field-0) c.get.new.head c.value_at.ensures c.in-Ok-Result.ensures)
    (subst (λ (a : Answer). Says a c.get.new.head.client.association.blocks.joined (Ok None)) (sym c.in-Ok-Result.field-0-is) refl)

pub returns-in-Ok-Denied : goal.returns-in-Ok-Denied
returns-in-Ok-Denied g c =
    IsAnswered c.in-Ok-Denied.field-0
    (requests_as MOST _ c.value_at.result (value_at c.args.name) _ _ c.args.head.now (Ok c.in-Ok-Denied.field-0) c.get.new.head c.value_at.ensures c.in-Ok-Denied.ensures)
    (subst (λ (a : Answer). Says a c.get.new.head.client.association.blocks.joined (Ok None)) (sym c.in-Ok-Denied.field-0-is) refl)

pub returns-in-Err : goal.returns-in-Err
returns-in-Err g c = IsNot c.in-Err.fault (requests_as MOST _ c.value_at.result (value_at c.args.name) _ _ c.args.head.now (Err c.in-Err.fault) c.get.new.head c.value_at.ensures c.in-Err.ensures) refl
