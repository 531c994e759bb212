use Rattle.std.proofs.Common.{◌≡◌, ◌≤◌, true, drop, length}
use Rattle.dlms_data.specs.View.{values_of}
use Rattle.dlms_classes.specs.Column.{columns_named}
use Rattle.dlms_classes.proofs.Naming.{named_after}
use Rattle.dlms_classes.proofs.column.columns_named.Given as goal

-- the ids so far, and those that the remaining structures name
abbrev pub invariant-loop-item : goal.invariant-loop-item
invariant-loop-item g l = (columns_named (values_of l.fn.items) ≡ named_after l.fit l.ids.items (values_of (drop l.item-index l.fn.items))) × (l.fit ≡ true → length l.ids.items ≤ 4)
