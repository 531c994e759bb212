use Rattle.dlms_polling.specs.Clocks.{Rise}
use Rattle.dlms_polling.proofs.clocks.first_fallen.Given as goal

abbrev pub invariant-loop-at : goal.invariant-loop-at
invariant-loop-at l = Rise l.rows l.at
