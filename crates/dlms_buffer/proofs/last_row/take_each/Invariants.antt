use Rattle.std.proofs.Common.{map}
use Rattle.dlms_values.specs.View.{value_of}
use Rattle.dlms_buffer.specs.View.{cell_view}
use Rattle.dlms_buffer.specs.Steps.{steps}
use Rattle.dlms_buffer.proofs.Walking.{WalkedBy}
use Rattle.dlms_buffer.proofs.last_row.take_each.Given as goal

abbrev pub invariant-loop-i : goal.invariant-loop-i
invariant-loop-i l = WalkedBy (map cell_view l.cells) l.i (map value_of l.values) (steps (map cell_view l.initial.cells) (map value_of l.values))
