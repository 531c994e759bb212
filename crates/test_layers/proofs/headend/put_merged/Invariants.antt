use Rattle.dlms_headend.specs.Rows.{AreReadings}
use Rattle.test_layers.proofs.headend.put_merged.Given as goal

abbrev pub invariant-rows : goal.invariant-rows
invariant-rows l = AreReadings l.rows.items
