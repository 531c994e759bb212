use Rattle.std.proofs.Common.{refl, subst, Err}
use Rattle.dlms_headend.specs.CarrierPollValue.{CarrierPollValue}
use Rattle.dlms_headend.specs.CarrierPolling.{Waits}
use Rattle.dlms_headend.specs.CarrierPolling.Waits.{HasFailed}
use Rattle.dlms_headend.proofs.carrier_poll.CarrierPoll.wait.Goals as goal

pub returns-in-Failed : goal.returns-in-Failed
returns-in-Failed g c =
    subst (λ (at : CarrierPollValue g.row.C.Denot). Waits g.C.Carrier.steps g.C.Carrier.is_waiting at (Err c.in-Failed.fault) at) c.self.view_is
    (HasFailed c.in-Failed.fault c.in-Failed.is refl refl)
