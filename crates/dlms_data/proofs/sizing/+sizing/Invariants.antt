use Rattle.std.proofs.Common.{◌≡◌, ◌+◌, ◌-◌, ◌*◌, ◌^◌, ◌≤◌, min, length, drop}
use Rattle.dlms_data.specs.Value.{depth, values_depth}
use Rattle.dlms_data.specs.View.{value_of, values_of}
use Rattle.dlms_data.specs.Writing.{all_canonical, AllInRange}
use Rattle.dlms_data.proofs.sizing.+sizing.Given as goal

abbrev pub decreases-size : goal.decreases-size
decreases-size g l = 2 * depth (value_of l.source.value.now)

abbrev pub decreases-size_all : goal.decreases-size_all
decreases-size_all g l = 2 * values_depth (values_of l.sources.values.now) + 1

-- the values counted and those still to be counted are all values
abbrev pub invariant-size_all-loop-item : goal.invariant-size_all-loop-item
invariant-size_all-loop-item g l = record {
  bounded : l.total ≤ 2 ^ 64 - 1;
  counted : min (l.total + length (all_canonical (values_of (drop l.item-index l.items)))) (2 ^ 64 - 1) ≡ min (length (all_canonical (values_of l.items))) (2 ^ 64 - 1);
  in_range : AllInRange (values_of (drop l.item-index l.items));
}
