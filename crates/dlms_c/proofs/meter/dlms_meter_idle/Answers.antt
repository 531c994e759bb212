use Rattle.std.proofs.Common.{rules, ◌≡◌, Some, subst, sym}
use Rattle.dlms_c.specs.Meter.{FallsSilentKept}
use Rattle.dlms_c.specs.declared.kept_meter.KeptMeter.{KeptMeter}
use Rattle.dlms_c.proofs.meter.dlms_meter_idle.Goals as goal

pub returns-clause-idle : goal.returns-clause-idle
returns-clause-idle c old is =
    let before : old ≡ c.deref_mut.result.now = search rules in
    let after : c.kept.result.value ≡ Some c.idle-code.new.self = search rules in
    (c.idle-code.new.self, after, subst (λ (k : KeptMeter). FallsSilentKept k c.idle-code.result c.idle-code.new.self) (sym before) c.idle-code.ensures)
