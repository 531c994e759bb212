use Rattle.std.proofs.Common.{rules, ◌≡◌, Some, subst, sym}
use Rattle.dlms_c.specs.Meter.{HangsUpKept}
use Rattle.dlms_c.specs.declared.kept_meter.KeptMeter.{KeptMeter}
use Rattle.dlms_c.proofs.meter.dlms_meter_hang_up.Goals as goal

pub returns-clause-hangs_up : goal.returns-clause-hangs_up
returns-clause-hangs_up c old is =
    let before : old ≡ c.deref_mut.result.now = search rules in
    let after : c.kept.result.value ≡ Some c.hang_up-code.new.self = search rules in
    (c.hang_up-code.new.self, after, subst (λ (k : KeptMeter). HangsUpKept k c.hang_up-code.result c.hang_up-code.new.self) (sym before) c.hang_up-code.ensures)
