use Rattle.std.proofs.Common.{rules, ◌≡◌, Some, subst, sym, true, false}
use Rattle.dlms_c.specs.Meter.{HandsOut}
use Rattle.dlms_c.specs.declared.kept_meter.KeptMeter.{KeptMeter}
use Rattle.dlms_c.proofs.meter.dlms_meter_page.Goals as goal

pub returns-clause-page : goal.returns-clause-page
returns-clause-page c old is room =
    let before : old ≡ c.deref_mut.result.now = search rules in
    let after : c.kept-2.result.value ≡ Some c.next_page-call.new.self = search rules in (
      c.next_page-call.new.self,
      after,
      record {
        call = c.next_page-call.result;
        hands = subst (λ (k : KeptMeter). HandsOut k c.next_page-call.result c.next_page-call.new.self) (sym before) c.next_page-call.ensures;
        lost = λ (is_lost : old.is_lost ≡ true). c.put_page.ensures.lost (search rules);
        tells = λ (kept : old.is_lost ≡ false). c.put_page.ensures.tells (search rules);
      },
    )
