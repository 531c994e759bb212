use Rattle.std.proofs.Common.{◌≡◌, map, replicate}
use Rattle.dlms_values.specs.Value.{null}
use Rattle.dlms_buffer.specs.View.{cell_view}
use Rattle.dlms_buffer.proofs.last_row.LastRow.new.Given as goal

abbrev pub invariant-loop : goal.invariant-loop
invariant-loop g l = map cell_view l.cells.items ≡ replicate l.counter (null, 0)
