use Rattle.std.proofs.Common.{refl, sym, subst}
use Rattle.dlms_pages.specs.Memory.{Memory, view_of as memory_view}
use Rattle.dlms_counters.specs.Fingerprint.{fingerprint_of}
use Rattle.dlms_counters.specs.Instance.{instance_of}
use Rattle.dlms_counters.specs.Writing.{IsSettled}
use Rattle.dlms_counters.proofs.InstanceLemmas.{instance_settled}
use Rattle.dlms_counters.proofs.instance.before_the_stop.Goals as goal

pub returns-clause-settled : goal.returns-clause-settled
returns-clause-settled g c =
    let own = c.args.own.now in
    let key = fingerprint_of own c.args.key.now in
    let peer = c.args.peer.now in
    let e = c.in-Ok-create.ensures in
    subst (λ (pages : Memory). IsSettled (memory_view pages) (instance_of own key peer)) (sym c.into_device.ensures)
    (instance_settled c.in-Ok-create.file c.reserve.new.self c.accept.new.self _ _ own key peer (e.settled refl) e.contents e.runs
    c.in-Ok-reserve.ensures.changes c.in-Ok-accept.ensures)
