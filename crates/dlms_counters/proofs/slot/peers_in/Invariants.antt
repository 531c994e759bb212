use Rattle.std.proofs.Common.{◌≡◌, length}
use Rattle.dlms_counters.specs.Slot.{peers_in}
use Rattle.dlms_counters.proofs.slot.peers_in.Given as goal

abbrev pub invariant-loop-index : goal.invariant-loop-index
invariant-loop-index l = record { first : l.peers.items ≡ peers_in l.index l.bytes; count : length l.peers.items ≡ l.index }
