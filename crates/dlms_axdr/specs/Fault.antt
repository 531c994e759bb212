-- The numbers of the faults.
use Rattle.std.specs.Prelude.{ℕ}
use Rattle.dlms_axdr.specs.declared.fault.DataFault.{DataFault}
use Rattle.dlms_axdr.specs.declared.fault.DataFault.TheVariants.{Short, Tag, Length, Depth, Memory}

abbrev pub number_of : DataFault → ℕ
number_of Short = 1
number_of Tag = 2
number_of Length = 3
number_of Depth = 4
number_of Memory = 5
