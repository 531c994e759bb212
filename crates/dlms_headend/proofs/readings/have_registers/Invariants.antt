use Rattle.std.proofs.Common.{take}
use Rattle.dlms_headend.specs.Rows.{HaveRegisters}
use Rattle.dlms_headend.proofs.readings.have_registers.Given as goal

abbrev pub invariant-loop-row : goal.invariant-loop-row
invariant-loop-row l = HaveRegisters (take l.row-index l.rows)
