use Rattle.dlms_polling.specs.Clocks.{AreInTime}
use Rattle.dlms_polling.proofs.clocks.first_ahead.Given as goal

abbrev pub invariant-loop-at : goal.invariant-loop-at
invariant-loop-at l = AreInTime l.now l.margin l.rows l.at
