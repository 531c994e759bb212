use Rattle.std.proofs.Common.{◌≡◌, ◌≤◌, ◌-◌, ◌++◌, ℕ, List, length, replicate, ap, subst, ◌∙◌}
use Rattle.dlms_counters.specs.Slot.{counters_in, peers_in}
use Rattle.dlms_counters.specs.declared.counters.Peer.{Peer}
use Rattle.dlms_counters.proofs.SlotLemmas.{slot_read}
use Rattle.dlms_counters.proofs.slot.slot_of.Goals as goal

pub returns : goal.returns
returns c =
    let h = c.head_of-head.ensures in
    let entries = c.entries_of-entries.result.items in
    let there = c.as_slice.ensures.value in
    let same = c.peers_of-peers.ensures.peers in
    let zeros : List ℕ = replicate (512 - length (c.head_of-head.result.items ++ c.as_slice.result.now)) 0 in
    ap counters_in (c.join.ensures ∙ ap (λ (l : List ℕ). l ++ zeros) (λ i. h.bytes i ++ there i))
    ∙ slot_read c.args.counters.now entries zeros h.own h.fingerprint h.sequence h.reserved
    (subst (λ (ps : List Peer). length ps ≤ 39) same c.peers_of-peers.ensures.few)
    (λ rest. subst (λ (ps : List Peer). peers_in (length ps) (entries ++ rest) ≡ ps) same (c.entries_of-entries.ensures.peers rest))
