use Rattle.std.proofs.Common.{rules, ◌≡◌, Some, subst, sym}
use Rattle.dlms_c.specs.Meter.{FeedsKept}
use Rattle.dlms_c.specs.declared.kept_meter.KeptMeter.{KeptMeter}
use Rattle.dlms_c.proofs.meter.dlms_meter_feed.Goals as goal

pub returns-clause-feeds : goal.returns-clause-feeds
returns-clause-feeds c old is =
    let before : old ≡ c.deref_mut.result.now = search rules in
    let after : c.kept.result.value ≡ Some c.feed-code.new.self = search rules in
    (c.feed-code.new.self, after, subst (λ (k : KeptMeter). FeedsKept k c.args.octets.now c.feed-code.result.0 c.feed-code.result.1 c.feed-code.new.self) (sym before) c.feed-code.ensures)
