use Rattle.std.proofs.Common.{rules, ◌≡◌, Some, length, subst, sym, take}
use Rattle.dlms_c.specs.Meter.{Replies}
use Rattle.dlms_c.specs.declared.kept_meter.KeptMeter.{KeptMeter}
use Rattle.dlms_c.proofs.meter.dlms_meter_reply.Goals as goal

pub returns-clause-reply : goal.returns-clause-reply
returns-clause-reply c old is =
    let before : old ≡ c.deref_mut.result.now = search rules in
    let after : c.kept.result.value ≡ Some c.give-code.new.self = search rules in
    (c.give-code.new.self, after, subst (λ (k : KeptMeter). Replies k (length c.args.frame.now) c.give-code.result.0 (take c.give-code.result.1 c.give-code.new.room) c.give-code.result.1 c.give-code.new.self) (sym before) c.give-code.ensures)
