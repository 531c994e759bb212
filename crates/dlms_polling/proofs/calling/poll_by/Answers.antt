use Rattle.std.proofs.Common.{ap, subst, sym, Option}
use Rattle.std.specs.Prelude.{IfSome}
use Rattle.dlms_ends.specs.BothEnds.{IsDonePoll}
use Rattle.dlms_headend.specs.PollerValue.{PollerValue, plan_of}
use Rattle.dlms_polling.specs.Ways.{IsDoneBy, way_of}
use Rattle.dlms_polling.specs.declared.way.DonePoll.TheVariants as done
use Rattle.dlms_polling.specs.declared.way.Way.{Way as WayOf}
use Rattle.dlms_headend.specs.CarrierPollValue.{terms_of}
use Rattle.dlms_polling.proofs.WayLemmas.{linked_fails, secured_done, secured_fails, secured_late}
use Rattle.dlms_polling.proofs.calling.poll_by.Goals as goal

pub returns-in-Ok-Some-clause-done : goal.returns-in-Ok-Some-clause-done
returns-in-Ok-Some-clause-done g c =
    let polled : IsDonePoll (plan_of c.in-Linked.plan) c.in-Ok-Some.poller =
    subst (λ (found : Option PollerValue). IfSome found (IsDonePoll (plan_of c.in-Linked.plan))) c.in-Ok-Some.field-0-is (c.in-Ok-Some.ensures.done (plan_of c.in-Linked.plan) c.fresh.ensures) in
    subst (λ (way : WayOf). IsDoneBy (way_of way) (done.Linked c.in-Ok-Some.poller)) (sym c.in-Linked.is) polled

pub returns-in-Err-clause-does : goal.returns-in-Err-clause-does
returns-in-Err-clause-does g c =
    linked_fails c.args.seconds _ _ _ _ _ (way_of c.args.way.now) (plan_of c.in-Linked.plan) c.fresh.result c.in-Err.fault (ap way_of c.in-Linked.is) c.fresh.ensures c.in-Err.ensures.does

pub returns-in-Ok-Some-poll_secured-clause-does : goal.returns-in-Ok-Some-poll_secured-clause-does
returns-in-Ok-Some-poll_secured-clause-does g c =
    secured_done c.args.seconds _ _ _ _ _ _ (way_of c.args.way.now) c.in-Secured.route (terms_of c.in-Secured.terms) (terms_of c.again-in-Secured.result) c.in-Ok-Some-poll_secured.field-0 c.in-Ok-Some-poll_secured.end
    (ap way_of c.in-Secured.is) c.again-in-Secured.ensures c.in-Ok-Some-poll_secured.field-0-is c.in-Ok-Some-poll_secured.ensures.does

pub returns-in-Ok-None-poll_secured-clause-does : goal.returns-in-Ok-None-poll_secured-clause-does
returns-in-Ok-None-poll_secured-clause-does g c =
    secured_late c.args.seconds _ _ _ _ _ _ (way_of c.args.way.now) c.in-Secured.route (terms_of c.in-Secured.terms) (terms_of c.again-in-Secured.result) c.in-Ok-None-poll_secured.field-0
    (ap way_of c.in-Secured.is) c.again-in-Secured.ensures c.in-Ok-None-poll_secured.field-0-is c.in-Ok-None-poll_secured.ensures.does

pub returns-in-Err-poll_secured-clause-does : goal.returns-in-Err-poll_secured-clause-does
returns-in-Err-poll_secured-clause-does g c =
    secured_fails c.args.seconds _ _ _ _ _ _ (way_of c.args.way.now) c.in-Secured.route (terms_of c.in-Secured.terms) (terms_of c.again-in-Secured.result) c.in-Err-poll_secured.fault
    (ap way_of c.in-Secured.is) c.again-in-Secured.ensures c.in-Err-poll_secured.ensures.does
