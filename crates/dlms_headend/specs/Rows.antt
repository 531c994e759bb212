-- The rows that a value holds: the buffer of class Profile generic (7) of IEC 62056-6-2 (Blue Book 4.3.6), captured by the
-- clock and three registers.
use Rattle.std.specs.Prelude.{◌≡◌, ◌≤◌, ◌<◌, ◌^◌, ℕ, List, [], ◌∷◌, length, Option, Some, None, All}
use Rattle.dlms_data.specs.DateTime.{NamesSecond}
use Rattle.dlms_data.specs.Memory.{NeedsMemory}
use Rattle.dlms_data.specs.Spelling.{IsSpelling}
use Rattle.dlms_data.specs.Value.{Value, Values, array, structure, octet_string, double_long_unsigned, none, cons}
use Rattle.dlms_headend.specs.declared.row.Row.{Row}
use Rattle.dlms_headend.specs.declared.poll_fault.PollFault.{PollFault}
use Rattle.dlms_headend.specs.declared.poll_fault.PollFault.TheVariants.{Refused, Result as BadResult, Line, Protocol, Columns, Memory}
use Rattle.dlms_data.specs.declared.date_time.TheConstants.{LAST_SECOND}

abbrev pub on_some : {A B : Type 0} → Option A → (A → Option B) → Option B
on_some None f = None
on_some (Some x) f = f x

-- the values of a structure of four
abbrev pub four_in : Value → Option (Value × Value × Value × Value)
four_in (structure (cons a (cons b (cons c (cons d none))))) = Some (a, b, c, d)
four_in _ = None

abbrev pub octets_in : Value → Option (List ℕ)
octets_in (octet_string bytes) = Some bytes
octets_in _ = None

abbrev pub register_in : Value → Option ℕ
register_in (double_long_unsigned n) = Some n
register_in _ = None

-- a structure of an octet-string and three double-long-unsigned: the octets, and the three numbers
abbrev pub fields_in : Value → Option (List ℕ × List ℕ)
fields_in v =
    on_some (four_in v) (λ fields.
    on_some (octets_in fields.0) (λ time.
    on_some (register_in fields.1) (λ first.
    on_some (register_in fields.2) (λ second.
    on_some (register_in fields.3) (λ third.
    Some (time, first ∷ second ∷ third ∷ []))))))

-- the value is that of the row: the octets name the second that the clock showed, and the numbers are the registers
pub record IsRow (value : Value) (row : Row) : Type 0 where
  pub time : List ℕ
  pub fields : fields_in value ≡ Some (time, row.registers)
  pub clock : NamesSecond time row.clock

-- a row that a meter may have captured and a file may hold: its clock is one of the meter's clock, and it has three registers
-- of 32 bits
pub record IsReading (row : Row) : Type 0 where
  pub clock : row.clock ≤ LAST_SECOND
  pub count : length row.registers ≡ 3
  pub registers : All (λ register. register < 2 ^ 32) row.registers

abbrev pub AreReadings : List Row → Type 0
AreReadings rows = All IsReading rows

-- each row has three registers of 32 bits
abbrev pub HaveRegisters : List Row → Type 0
HaveRegisters rows = All (λ row. (length row.registers ≡ 3)
    × All (λ register. register < 2 ^ 32) row.registers) rows

-- the values are those of the rows, in their order
abbrev pub AreRows : Values → List Row → Type 0
AreRows none [] = Unit {0}
AreRows none (row ∷ rows) = ⊥
AreRows (cons v vs) [] = ⊥
AreRows (cons v vs) (row ∷ rows) = IsRow v row × AreRows vs rows

-- an array of rows
abbrev pub IsProfile : Value → List Row → Type 0
IsProfile (array vs) rows = AreRows vs rows
IsProfile _ rows = ⊥

-- the bytes spell an array of rows
abbrev pub IsEncoded : List ℕ → List Row → Type 0
IsEncoded bytes rows = (v : Value) × IsSpelling bytes v × IsProfile v rows

-- there are such rows, and not none of them: a row needs memory
abbrev pub HasSome : (List Row → Type 0) → Type 0
HasSome are = (rows : List Row) × are rows × (0 < length rows)

-- what a refusal says: there are no such rows, or there are some but no memory for them
abbrev pub Without : (List Row → Type 0) → Type 0 → PollFault → Type 0
Without are needs Protocol = (rows : List Row) → are rows → ⊥
Without are needs Memory = needs
Without are needs (Refused diagnostic) = ⊥
Without are needs (BadResult code) = ⊥
Without are needs Line = ⊥
Without are needs Columns = ⊥

abbrev pub NoRows : Values → PollFault → Type 0
NoRows vs fault = Without (AreRows vs) (HasSome (AreRows vs)) fault

abbrev pub NoProfile : Value → PollFault → Type 0
NoProfile v fault = Without (IsProfile v) (HasSome (IsProfile v)) fault

-- the bytes are no value, or there is no memory for the one that they are, which needs some
abbrev pub NoValue : List ℕ → PollFault → Type 0
NoValue bytes Protocol = (v : Value) → IsSpelling bytes v → ⊥
NoValue bytes Memory = (v : Value) × IsSpelling bytes v × NeedsMemory v
NoValue bytes (Refused diagnostic) = ⊥
NoValue bytes (BadResult code) = ⊥
NoValue bytes Line = ⊥
NoValue bytes Columns = ⊥

abbrev pub NoEncoding : List ℕ → PollFault → Type 0
NoEncoding bytes fault = Without (IsEncoded bytes) (HasSome (IsEncoded bytes)) fault
