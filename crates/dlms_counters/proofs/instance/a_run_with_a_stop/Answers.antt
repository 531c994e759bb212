use Rattle.std.proofs.Common.{refl, ap, ◌∙◌}
use Rattle.dlms_pages.specs.MemoryRules.{memory_rules}
use Rattle.dlms_counters.specs.Slot.{CounterState}
use Rattle.dlms_counters.specs.Fingerprint.{fingerprint_of}
use Rattle.dlms_counters.specs.Instance.{instance_of}
use Rattle.dlms_counters.specs.Table.{last_of}
use Rattle.dlms_counters.proofs.InstanceLemmas.{instance_last}
use Rattle.dlms_counters.proofs.instance.a_run_with_a_stop.Goals as goal

pub returns-in-Ok : goal.returns-in-Ok
returns-in-Ok g c =
    let own = c.args.own.now in
    let key = fingerprint_of own c.args.key.now in
    let peer = c.args.peer.now in
    let image = c.cut-device.result.first in
    let left = c.cut-device.ensures.left in
    let two = (memory_rules c.in-Some.pages).count image left ∙ c.in-Some.ensures.count in
    let fits = c.in-Ok.ensures image (instance_of own key peer) c.cut-device.ensures.fixed two (c.in-Some.ensures.settled.each image left) refl refl in (
      c.reserved.ensures ∙ ap (λ (x : CounterState). x.reserved) fits.known,
      c.accepted.ensures ∙ ap (λ (x : CounterState). last_of x.peers peer) fits.known ∙ instance_last own key peer,
    )
