-- The output of a replay.
use Rattle.std.specs.Prelude.{ℕ, List, ◌++◌, length, slice_index, codes}
use Rattle.std.specs.List.{flat_map}
use Rattle.std.specs.Fmt.{decimal}
use Rattle.hex.specs.Hex.{encode_lower}
use Rattle.dlms_state.specs.Events.{clock_at}
use Rattle.dlms_state.specs.StateValue.{StateValue}
use Rattle.dlms_state.specs.declared.event.Refused.{Refused}
use Rattle.dlms_store.specs.declared.fault.OpenFault.{OpenFault}
use Rattle.dlms_store.specs.declared.fault.OpenFault.TheVariants as opening
use Rattle.dlms_state.specs.declared.event.Refused.TheVariants.{MomentBack, Range, Channel, Period, Length, Columns}

-- a reply frame, in pairs of hexadecimal digits of lower case
abbrev pub reply_line : List ℕ → List ℕ
reply_line bytes = codes "< " ++ encode_lower bytes ++ codes "\n"

abbrev pub reply_lines : List (List ℕ) → List ℕ
reply_lines replies = flat_map reply_line replies

-- why an event was refused
abbrev pub refusal_line : Refused → List ℕ
refusal_line (MomentBack last) = codes "refused 1 " ++ decimal last ++ codes "\n"
refusal_line Range = codes "refused 2\n"
refusal_line Channel = codes "refused 3\n"
refusal_line Period = codes "refused 4\n"
refusal_line Length = codes "refused 5\n"
refusal_line Columns = codes "refused 6\n"

-- by which number of the faults an event was not taken
abbrev pub fault_line : ℕ → List ℕ
fault_line number = codes "fault " ++ decimal number ++ codes "\n"

-- the meter was closed and recovered
abbrev pub open_line : List ℕ
open_line = codes "open\n"

-- by which number of the faults the meter was not recovered
abbrev pub open_fault_number : OpenFault → ℕ
open_fault_number opening.Device = 1
open_fault_number opening.NoCheckpoint = 2
open_fault_number (opening.Corrupt page) = 3
open_fault_number opening.Memory = 4
open_fault_number opening.Exhausted = 5
open_fault_number opening.Size = 6

abbrev pub open_fault_line : OpenFault → List ℕ
open_fault_line fault = codes "fault open " ++ decimal (open_fault_number fault) ++ codes "\n"

-- the three registers
abbrev pub registers_text : List ℕ → List ℕ
registers_text registers =
    codes "state " ++ decimal (slice_index registers 0) ++ codes " "
    ++ decimal (slice_index registers 1) ++ codes " " ++ decimal (slice_index registers 2)

-- the clock and the count of rows
abbrev pub clock_text : ℕ → ℕ → List ℕ
clock_text clock rows = codes " " ++ decimal clock ++ codes " " ++ decimal rows ++ codes "\n"

-- the printed line of a state
abbrev pub state_line : StateValue → List ℕ
state_line s = registers_text s.registers
    ++ clock_text (clock_at s.last s.offset) (length s.rows.items)
