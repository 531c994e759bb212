use Rattle.std.proofs.Common.{subst, None, Option}
use Rattle.dlms_data.specs.Value.{Value}
use Rattle.dlms_service.specs.Planned.{IsPlanFor}
use Rattle.dlms_service.proofs.Plans.{unread}
use Rattle.dlms_service.proofs.Values.{behind_reference}
use Rattle.dlms_service.proofs.session.Session.refuse.Goals as goal

-- what is refused before its value is refused so whatever the value is
pub returns-clause-done : goal.returns-clause-done
returns-clause-done g c E is v =
    let d = c.conclude-event.ensures.done E is in
    let t = c.args.target in
    let none = behind_reference c.as_ref.result None c.as_ref.ensures.value in
    let planned = subst (λ (x : Option Value). IsPlanFor t.service c.args.self.now.client t x d.0) none d.1 in
    (d.0, unread t.service c.args.self.now.client t v d.0 c.requires.barred planned, d.2, d.3)
