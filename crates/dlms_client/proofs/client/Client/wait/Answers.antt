use Rattle.std.proofs.Common.{◌∙◌, refl, sym, subst, Err}
use Rattle.dlms_client.specs.Calls.{Waits}
use Rattle.dlms_client.specs.Calls.Waits.{HasFailed}
use Rattle.dlms_client.specs.ClientValue.{ClientValue}
use Rattle.dlms_client.proofs.client.Client.wait.Goals as goal

pub returns-in-Some : goal.returns-in-Some
returns-in-Some g c =
    subst (λ (at : ClientValue g.row.C.Denot). Waits g.C.Carrier.steps g.C.Carrier.is_waiting at (Err c.in-Some.fault) at) c.self.view_is
    (HasFailed c.in-Some.fault (sym c.fault.ensures ∙ c.in-Some.is) refl refl)
