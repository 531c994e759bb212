use Rattle.std.proofs.Common.{◌≡◌, ◌*◌, ◌++◌, ℕ, List, length, take}
use Rattle.dlms_counters.specs.Slot.{peers_in}
use Rattle.dlms_counters.proofs.slot.entries_of.Given as goal

abbrev pub invariant-loop-peer : goal.invariant-loop-peer
invariant-loop-peer l = record {
  count : length l.bytes.items ≡ 12 * l.peer-index;
  first : (rest : List ℕ) → peers_in l.peer-index (l.bytes.items ++ rest) ≡ take l.peer-index l.peers;
}
