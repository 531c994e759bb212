use Rattle.std.proofs.Common.{inl, refl, subst, Option, Some, Ok}
use Rattle.dlms_client.specs.Plan.{PlanValue, plan_of}
use Rattle.dlms_identity.specs.Showing.{ShowsAllBut}
use Rattle.dlms_identity.specs.declared.showing.Expected.{Expected}
use Rattle.dlms_polling.proofs.calling.knows.Goals as goal

pub returns-in-Ok-Some : goal.returns-in-Ok-Some
returns-in-Ok-Some g c =
    let old = g.L.End.past c.args.line.now in
    let new = g.L.End.past c.first_other.new.line in
    let expected = c.args.expected.now in
    let other : ShowsAllBut old new (plan_of c.asker.result) expected (Ok (Some c.in-Ok-Some.one)) =
    subst (λ (found : Option Expected). ShowsAllBut old new (plan_of c.asker.result) expected (Ok found)) c.in-Ok-Some.field-0-is c.in-Ok-Some.ensures in
    inl (c.in-Ok-Some.one, subst (λ (plan : PlanValue). ShowsAllBut old new plan expected (Ok (Some c.in-Ok-Some.one))) c.asker.ensures.asker other, (refl, refl))
