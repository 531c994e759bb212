use Rattle.std.proofs.Common.{ℕ, ◌∙◌, ap, sym}
use Rattle.dlms_link.specs.Parameters.{read_group, number_of}
use Rattle.dlms_link.proofs.Reading.{read_group-first, counted, skipped}
use Rattle.dlms_link.proofs.parameters.greatest_received.Goals as goal

pub loop-rest-preserved-then-id-eq6 : goal.loop-rest-preserved-then-id-eq6
loop-rest-preserved-then-id-eq6 c =
    let was = c.loop-rest.invariant in
    let a = c.in_ok-id in
    let next = read_group-first was.0 c.loop-rest.received a.id a.value.now a.behind.now c.loop-rest.rest.now a.ensures.found was.1 in
    let e = counted a.id (number_of a.value.now) c.loop-rest.received c.if-id-eq6.true ∙ sym c.number_of-received.ensures in
    (next.0, next.1, was.2 ∙ next.2 ∙ ap (λ (received : ℕ). read_group next.0 received a.behind.now) e)

pub loop-rest-preserved : goal.loop-rest-preserved
loop-rest-preserved c =
    let was = c.loop-rest.invariant in
    let a = c.in_ok-id in
    let next = read_group-first was.0 c.loop-rest.received a.id a.value.now a.behind.now c.loop-rest.rest.now a.ensures.found was.1 in
    let e = skipped a.id (number_of a.value.now) c.loop-rest.received c.if-id-eq6.false in
    (next.0, next.1, was.2 ∙ next.2 ∙ ap (λ (received : ℕ). read_group next.0 received a.behind.now) e)
