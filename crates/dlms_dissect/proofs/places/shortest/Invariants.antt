use Rattle.std.proofs.Common.{◌≤◌, ◌-◌, length, take}
use Rattle.dlms_dissect.specs.Places.{Shows}
use Rattle.dlms_dissect.proofs.places.shortest.Given as goal

abbrev pub invariant-halving : goal.invariant-halving
invariant-halving g l = record {
  order : l.low ≤ l.high;
  within : l.high ≤ length l.bytes;
  shown : Shows l.side l.fault (take l.high l.bytes);
  before : Shows l.side l.fault (take l.low l.bytes) → ⊥;
}

abbrev pub decreases-halving : goal.decreases-halving
decreases-halving g l = l.high - l.low
