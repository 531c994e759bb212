use Rattle.std.proofs.Common.{take}
use Rattle.dlms_data.specs.View.{values_of}
use Rattle.dlms_headend.specs.Rows.{AreRows, AreReadings}
use Rattle.dlms_headend.proofs.buffer.collect_rows.Given as goal

abbrev pub invariant-loop-value : goal.invariant-loop-value
invariant-loop-value g l = AreRows (values_of (take l.value-index l.values)) l.rows.items × AreReadings l.rows.items
