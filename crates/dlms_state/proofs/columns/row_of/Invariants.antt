use Rattle.std.proofs.Common.{◌≡◌, take, map}
use Rattle.dlms_state.specs.Columns.{value_of}
use Rattle.dlms_state.proofs.columns.row_of.Given as goal

abbrev pub invariant-loop-id : goal.invariant-loop-id
invariant-loop-id l = l.values.items ≡ map (value_of l.clock l.registers) (take l.id-index l.columns)
