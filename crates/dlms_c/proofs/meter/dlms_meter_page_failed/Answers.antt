use Rattle.std.proofs.Common.{rules, ◌≡◌, ◌∙◌, Some, ap, refl, sym, true}
use Rattle.dlms_c.specs.declared.kept_meter.KeptMeter.{KeptMeter}
use Rattle.dlms_c.proofs.meter.dlms_meter_page_failed.Goals as goal

pub returns-clause-lost : goal.returns-clause-lost
returns-clause-lost c old is =
    let before : old ≡ c.deref_mut.result.now = search rules in
    let after : c.kept.result.value ≡ Some c.lose.new.self = search rules in
    (refl, after ∙ ap (λ (k : KeptMeter). Some k) (c.lose.ensures ∙ ap (λ (k : KeptMeter). record k { is_lost = true }) (sym before)))
