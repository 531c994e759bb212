use Rattle.std.proofs.Common.{rules, ◌≡◌, Some, subst, sym}
use Rattle.dlms_c.specs.Meter.{Closes}
use Rattle.dlms_c.specs.declared.kept_meter.KeptMeter.{KeptMeter}
use Rattle.dlms_c.proofs.meter.dlms_meter_close.Goals as goal

pub returns-clause-closes : goal.returns-clause-closes
returns-clause-closes c old is =
    let before : old ≡ c.deref_mut.result.now = search rules in
    let after : c.kept.result.value ≡ Some c.close-code.new.self = search rules in
    (c.close-code.new.self, after, subst (λ (k : KeptMeter). Closes k c.close-code.result c.close-code.new.self) (sym before) c.close-code.ensures)
