use Rattle.std.proofs.Common.{◌+◌, ◌++◌, ℕ, List, [], take, get_or, sym, ap, ◌∙◌, arith}
use Rattle.std.proofs.lemmas.List.{take_more}
use Rattle.dlms_counters.specs.Slot.{peers_in}
use Rattle.dlms_counters.proofs.SlotLemmas.{one_more_peer}
use Rattle.dlms_counters.proofs.slot.entries_of.Goals as goal

pub loop-peer-preserved : goal.loop-peer-preserved
loop-peer-preserved c =
    let i = c.loop-peer.peer-index in
    let peers = c.args.peers.now in
    let here = get_or peers i (record { title = []; counter = 0 }) in
    let e = c.push_peer.ensures in
    let before = c.loop-peer.invariant in
    record {
      count = let more = e.length in let count = before.count in omega (arith, more, count);
      first = λ rest. ap (λ (b : List ℕ). peers_in (i + 1) (b ++ rest)) e.bytes
          ∙ one_more_peer i c.loop-peer.bytes.items rest (take i peers) here before.count e.title e.counter before.first
          ∙ sym (take_more peers i (record { title = []; counter = 0 }) c.loop-peer-test.true);
    }
