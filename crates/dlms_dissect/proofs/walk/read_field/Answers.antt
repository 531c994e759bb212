use Rattle.std.proofs.Common.{◌≡◌, ◌<◌, ◌+◌, ◌++◌, length, replicate, Some, arith}
use Rattle.dlms_dissect.proofs.WalkLemmas.{field-none, field-unchecked, field-too_long, field-read, values-long, values-join}
use Rattle.dlms_dissect.specs.Fields.{front_at}
use Rattle.dlms_dissect.specs.Walk.{pending_of}
use Rattle.dlms_dissect.specs.declared.walk.Step.TheVariants.{One}
use Rattle.dlms_dissect.proofs.walk.read_field.Goals.{then-front-eq0-via-then-front-eq0, then-front-eq0-via-else-front-eq0+then-front-behind, then-front-rest-via-then-front-rest, then-front-rest-via-else-front-rest+then-behind-rest}
use Rattle.dlms_dissect.proofs.walk.read_field.Goals as goal

pub returns-in_err-front-clause-next : goal.returns-in_err-front-clause-next
returns-in_err-front-clause-next c =
    rw c.from_residual.ensures (field-none c.args.field (pending_of c.args.behind) c.args.behind.rest.now c.front_at.result c.front_at.ensures c.in_err-front.was)

pub returns-then-front-eq0-clause-next : goal.returns-then-front-eq0-clause-next
returns-then-front-eq0-clause-next c =
    let is : Some c.in_ok-front.front ≡ front_at c.args.field c.args.behind.rest.now = let e = c.in_ok-front.was in cc in
    elim c.then-front-eq0.branch [
      | then-front-eq0-via-then-front-eq0 w ↦ field-unchecked c.args.field (pending_of c.args.behind) c.args.behind.rest.now c.in_ok-front.front is (λ a b. omega arith)
      | then-front-eq0-via-else-front-eq0+then-front-behind w ↦ field-unchecked c.args.field (pending_of c.args.behind) c.args.behind.rest.now c.in_ok-front.front is (λ a b. omega arith)
    ]

pub returns-then-front-rest-clause-next : goal.returns-then-front-rest-clause-next
returns-then-front-rest-clause-next c =
    let is : Some c.in_ok-front.front ≡ front_at c.args.field c.args.behind.rest.now = let e = c.in_ok-front.was in cc in
    let b = c.args.behind in
    let long : length c.split_at.result.1.now < c.in_ok-front.front.values + c.args.behind.values = elim c.then-front-rest.branch [
      | then-front-rest-via-then-front-rest w ↦ omega arith
      | then-front-rest-via-else-front-rest+then-behind-rest w ↦ omega arith
    ] in
    field-too_long c.args.field (pending_of c.args.behind) c.args.behind.rest.now c.split_at.result.0.now c.split_at.result.1.now c.in_ok-front.front c.args.behind.values is (omega arith) (omega arith)
    c.split_at.ensures.front c.split_at.ensures.back (values-long b.values b.items b.item b.steps.now) long

pub returns-clause-next : goal.returns-clause-next
returns-clause-next c =
    let is : Some c.in_ok-front.front ≡ front_at c.args.field c.args.behind.rest.now = let e = c.in_ok-front.was in cc in
    let b = c.args.behind in
    rw (← values-join c.in_ok-front.front.values b.values (replicate b.items (One b.item) ++ b.steps.now))
    (field-read c.args.field (pending_of c.args.behind) c.args.behind.rest.now c.split_at.result.0.now c.split_at.result.1.now c.in_ok-front.front is (omega arith) (omega arith)
    c.split_at.ensures.front c.split_at.ensures.back)
