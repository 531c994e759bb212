-- The numbers of the faults, and how they are shown.
use Rattle.std.specs.Prelude.{ℕ, List, ◌++◌, codes}
use Rattle.std.specs.Fmt.{decimal}
use Rattle.dlms_headend.specs.declared.readings_fault.ReadingsFault.{ReadingsFault}
use Rattle.dlms_headend.specs.declared.readings_fault.ReadingsFault.TheVariants.{Line, Memory}

abbrev pub number_of : ReadingsFault → ℕ
number_of (Line number) = 1
number_of Memory = 2

abbrev pub text_of : ReadingsFault → List ℕ
text_of (Line number) = codes "line " ++ decimal number
text_of Memory = codes "memory"
