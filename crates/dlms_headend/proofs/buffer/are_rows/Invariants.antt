use Rattle.std.proofs.Common.{List, take}
use Rattle.dlms_data.specs.View.{values_of}
use Rattle.dlms_headend.specs.Rows.{AreRows}
use Rattle.dlms_headend.specs.declared.row.Row.{Row}
use Rattle.dlms_headend.proofs.buffer.are_rows.Given as goal

abbrev pub invariant-loop-value : goal.invariant-loop-value
invariant-loop-value g l = (rows : List Row) × AreRows (values_of (take l.value-index l.values)) rows
