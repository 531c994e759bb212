use Rattle.std.proofs.Common.{◌≤◌, ◌-◌, length, take}
use Rattle.dlms_dissect.specs.Places.{ShowsValue}
use Rattle.dlms_dissect.proofs.places.shortest_value.Given as goal

abbrev pub invariant-halving : goal.invariant-halving
invariant-halving l = record {
  order : l.low ≤ l.high;
  within : l.high ≤ length l.bytes;
  shown : ShowsValue l.fault (take l.high l.bytes);
  before : ShowsValue l.fault (take l.low l.bytes) → ⊥;
}

abbrev pub decreases-halving : goal.decreases-halving
decreases-halving l = l.high - l.low
