use Rattle.std.proofs.Common.{List, sym, subst}
use Rattle.dlms_dissect.proofs.WalkLemmas.{front-replicate, front-item}
use Rattle.dlms_dissect.specs.Walk.{IsNext}
use Rattle.dlms_dissect.specs.declared.fields.Field.TheVariants.{Value}
use Rattle.dlms_dissect.specs.declared.walk.Step.{Step}
use Rattle.dlms_dissect.specs.declared.walk.Step.TheVariants.{One}
use Rattle.dlms_dissect.proofs.walk.Walk.next.Goals as goal

pub returns-then-self-gt0-clause-next : goal.returns-then-self-gt0-clause-next
returns-then-self-gt0-clause-next c =
    let s = c.args.self in
    let P : List Step → Type 0 = λ x. IsNext x c.args.self.rest.now c.read_field.result in
    subst P (sym (front-replicate s.values (One Value) _ c.if-self-gt0.true)) c.read_field.ensures.next

pub returns-then-self-gt0-2-clause-next : goal.returns-then-self-gt0-2-clause-next
returns-then-self-gt0-2-clause-next c =
    let s = c.args.self in
    let P : List Step → Type 0 = λ x. IsNext x c.args.self.rest.now c.read_field-then-self-gt0-2.result in
    subst P (sym (front-item s.values s.items (One s.item) s.steps.now c.if-self-gt0.false c.if-self-gt0-2.true)) c.read_field-then-self-gt0-2.ensures.next
