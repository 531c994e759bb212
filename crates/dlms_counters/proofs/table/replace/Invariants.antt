use Rattle.std.proofs.Common.{◌≡◌, ◌++◌, drop, take}
use Rattle.dlms_counters.specs.Table.{last_of, with_counter}
use Rattle.dlms_counters.proofs.table.replace.Given as goal

abbrev pub invariant-loop-index : goal.invariant-loop-index
invariant-loop-index l = record {
  same : l.peers ≡ l.fn.peers;
  last : last_of l.peers l.title ≡ last_of (drop l.index l.peers) l.title;
  rest : with_counter l.title l.counter l.peers ≡ take l.index l.peers ++ with_counter l.title l.counter (drop l.index l.peers);
}
