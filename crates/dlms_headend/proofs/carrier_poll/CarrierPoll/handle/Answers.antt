use Rattle.std.proofs.Common.{sym, subst}
use Rattle.dlms_carrier.specs.declared.event.Event.{Event}
use Rattle.dlms_headend.specs.CarrierPolling.{ComesBy}
use Rattle.dlms_headend.proofs.carrier_poll.CarrierPoll.handle.Goals as goal

pub returns-in-Apdu : goal.returns-in-Apdu
returns-in-Apdu g c = λ apdus fits.
    subst (λ (event : Event). ComesBy g.C.Carrier.steps event (g.C.Carrier.apdu_of c.args.self.now.carrier) apdus c.args.self.now c.take.result c.take.new.self) (sym c.in-Apdu.is) (c.take.ensures apdus fits)
