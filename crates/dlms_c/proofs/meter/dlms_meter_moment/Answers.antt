use Rattle.std.proofs.Common.{rules, ◌≡◌, Some, subst, sym}
use Rattle.dlms_c.specs.Meter.{JudgesKept}
use Rattle.dlms_c.specs.declared.kept_meter.KeptMeter.{KeptMeter}
use Rattle.dlms_state.specs.declared.event.Event.TheVariants.{Moment}
use Rattle.dlms_c.proofs.meter.dlms_meter_moment.Goals as goal

pub returns-clause-judges : goal.returns-clause-judges
returns-clause-judges c old is =
    let before : old ≡ c.deref_mut.result.now = search rules in
    let after : c.kept.result.value ≡ Some c.moment-code.new.self = search rules in
    (c.moment-code.new.self, after, subst (λ (k : KeptMeter). JudgesKept k (Moment c.args.second) c.moment-code.result c.moment-code.new.self) (sym before) c.moment-code.ensures)
