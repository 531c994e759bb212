use Rattle.std.proofs.Common.{map}
use Rattle.dlms_values.specs.View.{values_in}
use Rattle.dlms_buffer.specs.Rows.{listed}
use Rattle.dlms_buffer.specs.View.{cell_view}
use Rattle.dlms_buffer.specs.Steps.{steps}
use Rattle.dlms_buffer.proofs.Walking.{Walked}
use Rattle.dlms_buffer.proofs.last_row.take_values.Given as goal

abbrev pub invariant-loop-cell : goal.invariant-loop-cell
invariant-loop-cell l = Walked (map cell_view l.cells) l.cell-index (values_in l.rest) (steps (map cell_view l.initial.cells) (listed (values_in l.initial.rest)))
