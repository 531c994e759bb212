use Rattle.std.proofs.Common.{rules, ◌≡◌, ap, subst}
use Rattle.dlms_c.specs.Meter.{Shows}
use Rattle.dlms_c.specs.declared.kept_meter.KeptMeter.{KeptMeter}
use Rattle.dlms_c.proofs.meter.dlms_meter_state.Goals as goal

pub returns-clause-state : goal.returns-clause-state
returns-clause-state c old is done =
    let before : c.deref.result.now ≡ old = search rules in
    subst (λ m. Shows m c.state_on-code.new.state) (ap (λ (k : KeptMeter). k.meter) before) (c.state_on-code.ensures.shows done)
