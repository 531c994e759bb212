use Rattle.std.proofs.Common.{◌≡◌, drop}
use Rattle.dlms_counters.specs.Table.{last_of}
use Rattle.dlms_counters.proofs.table.last_of.Given as goal

abbrev pub invariant-loop-peer : goal.invariant-loop-peer
invariant-loop-peer l = last_of (drop l.peer-index l.peers) l.title ≡ last_of l.peers l.title
