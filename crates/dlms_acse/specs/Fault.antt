-- The numbers of the faults.
use Rattle.std.specs.Prelude.{ℕ}
use Rattle.dlms_acse.specs.declared.fault.AcseFault.{AcseFault}
use Rattle.dlms_acse.specs.declared.fault.AcseFault.TheVariants.{Short, Tag, Length, Repeated}

abbrev pub number_of : AcseFault → ℕ
number_of Short = 1
number_of Tag = 2
number_of Length = 3
number_of Repeated = 4
