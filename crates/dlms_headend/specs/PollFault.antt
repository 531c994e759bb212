-- The numbers of the faults, and how they are shown.
use Rattle.std.specs.Prelude.{ℕ, List, ◌++◌, codes}
use Rattle.std.specs.Fmt.{decimal}
use Rattle.dlms_headend.specs.declared.poll_fault.PollFault.{PollFault}
use Rattle.dlms_headend.specs.declared.poll_fault.PollFault.TheVariants.{Refused, Result as BadResult, Line, Protocol, Columns, Memory}

abbrev pub number_of : PollFault → ℕ
number_of (Refused diagnostic) = 1
number_of (BadResult code) = 2
number_of Line = 3
number_of Protocol = 4
number_of Columns = 4
number_of Memory = 5

-- other columns are shown as a fault of the protocol, which has their number
abbrev pub text_of : PollFault → List ℕ
text_of (Refused diagnostic) = codes "refused " ++ decimal diagnostic
text_of (BadResult code) = codes "result " ++ decimal code
text_of Line = codes "line"
text_of Protocol = codes "protocol"
text_of Columns = codes "protocol"
text_of Memory = codes "memory"
