-- The columns of the rows: the capture objects of class Profile generic (7) of IEC 62056-6-2 (Blue Book 4.3.6, capture_objects),
-- each a structure of class, logical name, attribute and data index. How an answer lists them.
use Rattle.std.specs.Prelude.{◌≡◌, ℕ, List, [], ◌∷◌, Result, Ok, pos}
use Rattle.dlms_apdu.specs.declared.fault.Refusal.{Refusal}
use Rattle.dlms_apdu.specs.Forms.{ResponseForm, get_data, get_result, get_block_result, exception}
use Rattle.dlms_apdu.specs.Reading.{response_at}
use Rattle.dlms_data.specs.Value.{Value, array, structure, octet_string, integer, long_unsigned, none, cons}
use Rattle.dlms_headend.specs.declared.answer.TheConstants.{EXCEPTION}
use Rattle.dlms_headend.specs.declared.poll_fault.PollFault.{PollFault}
use Rattle.dlms_headend.specs.declared.poll_fault.PollFault.TheVariants.{Result as BadResult, Protocol, Columns as OtherColumns}

-- attribute 2 of an object of this class and name, and data index 0: all of its value
abbrev pub column : ℕ → List ℕ → Value
column class name = structure
    (cons (long_unsigned class) (cons (octet_string name)
    (cons (integer (pos 2)) (cons (long_unsigned 0) none))))

-- the time of the clock 0.0.1.0.0.255 of class 8
abbrev pub clock_column : Value
clock_column = column 8 (0 ∷ 0 ∷ 1 ∷ 0 ∷ 0 ∷ 255 ∷ [])

-- the value of a register 1.0.x.8.0.255 of class 3: 1 and 2 are active energy imported and exported, 3 is reactive energy
abbrev pub register_column : ℕ → Value
register_column energy = column 3 (1 ∷ 0 ∷ energy ∷ 8 ∷ 0 ∷ 255 ∷ [])

-- the four columns of a row of the readings: the clock, and its three registers in their order
abbrev pub columns : Value
columns = array (cons clock_column
    (cons (register_column 1) (cons (register_column 2) (cons (register_column 3) none))))

-- an answer to the GET of the columns tells these four, in one piece
abbrev pub TellsBy : Result ResponseForm Refusal → Type 0
TellsBy (Ok (get_data invoke v)) = v ≡ columns
TellsBy _ = ⊥

abbrev pub TellsColumns : List ℕ → Type 0
TellsColumns apdu = TellsBy (response_at apdu)

-- or it has another value; or it is a result, or an exception, or an APDU of another form
abbrev pub MissesBy : Result ResponseForm Refusal → PollFault → Type 0
MissesBy (Ok (get_data invoke v)) fault = (fault ≡ OtherColumns) × (v ≡ columns → ⊥)
MissesBy (Ok (get_result invoke code)) fault = fault ≡ BadResult code
MissesBy (Ok (get_block_result invoke number code)) fault = fault ≡ BadResult code
MissesBy (Ok (exception state service)) fault = fault ≡ BadResult EXCEPTION
MissesBy _ fault = fault ≡ Protocol

abbrev pub MissesColumns : List ℕ → PollFault → Type 0
MissesColumns apdu fault = MissesBy (response_at apdu) fault
