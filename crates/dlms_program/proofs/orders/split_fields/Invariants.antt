use Rattle.std.proofs.Common.{take}
use Rattle.dlms_program.specs.Orders.{HasNoSpace}
use Rattle.dlms_program.proofs.orders.split_fields.Given as goal

abbrev pub invariant-loop-at : goal.invariant-loop-at
invariant-loop-at l = HasNoSpace (take l.at l.fields)
