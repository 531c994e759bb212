-- The clocks of polled rows, judged.
use Rattle.std.specs.Prelude.{◌≡◌, ◌+◌, ◌-◌, ◌<◌, ◌≤◌, ℕ, Bool, true, List, length, slice_index_or, Option, IfSome, IsSome}
use Rattle.std.specs.List.{AllAdjacentBelow}
use Rattle.dlms_headend.specs.declared.row.Row.{Row}
use Rattle.dlms_polling.specs.declared.clocks.Limit.{Limit}
use Rattle.dlms_lines.specs.declared.fault.ClockFault.{ClockFault}
use Rattle.dlms_lines.specs.declared.fault.ClockFault.TheVariants.{Fallen, Ahead}
use Rattle.dlms_polling.specs.declared.clocks.TheConstants.{YEAR_2000}

-- one row's second is before the other's
abbrev pub IsEarlier : Row → Row → Type 0
IsEarlier one other = one.clock < other.clock

-- among the first n rows each is earlier than the next
abbrev pub Rise : List Row → ℕ → Type 0
Rise rows count = AllAdjacentBelow IsEarlier rows count

-- the row of this number, counted from 1, is the first that is not later than the row before it
pub record IsFirstFallen (rows : List Row) (number : ℕ) : Type 0 where
  pub place : ℕ
  pub number_is : number ≡ place + 1
  pub behind : 0 < place
  pub within : place < length rows
  pub rise : Rise rows place
  pub falls : (other : Row) → (slice_index_or rows place other).clock ≤ (slice_index_or rows
      (place - 1) other).clock

-- a second of the meter's clock is more than `margin` seconds past a second of the system's, which counts from 1970
abbrev pub IsAhead : (now margin clock : ℕ) → Type 0
IsAhead now margin clock = now + margin < clock + YEAR_2000

-- none of the first n rows is ahead
abbrev pub AreInTime : (now margin : ℕ) → List Row → ℕ → Type 0
AreInTime now margin rows count = (k : ℕ) (other : Row) → k < count
    → IsAhead now margin (slice_index_or rows k other).clock → ⊥

-- the row of this number, counted from 1, is the first that is ahead
pub record IsFirstAhead (now margin : ℕ) (rows : List Row) (number : ℕ) : Type 0 where
  pub place : ℕ
  pub number_is : number ≡ place + 1
  pub within : place < length rows
  pub in_time : AreInTime now margin rows place
  pub ahead : (other : Row) → IsAhead now margin (slice_index_or rows place other).clock

-- if the order is strict, each row is later than the one before it
abbrev pub RisesIf : Bool → List Row → Type 0
RisesIf strict rows = strict ≡ true → Rise rows (length rows)

-- none is past the limit, if there is one
abbrev pub AreInLimit : Option Limit → List Row → Type 0
AreInLimit limit rows = IfSome limit (λ l. AreInTime l.now l.margin rows (length rows))

-- why the order is refused: it is to be strict, and this row is not later than the one before it
abbrev pub IsOutOfOrder : Bool → List Row → ClockFault → Type 0
IsOutOfOrder strict rows (Fallen number) = (strict ≡ true) × IsFirstFallen rows number
IsOutOfOrder strict rows (Ahead number) = ⊥

-- why the clocks are refused: there is a limit, and this row is the first past it
abbrev pub IsBeyond : Option Limit → List Row → ClockFault → Type 0
IsBeyond limit rows (Fallen number) = ⊥
IsBeyond limit rows (Ahead number) = IfSome limit (λ l. IsFirstAhead l.now l.margin rows number)
    × IsSome limit

-- Why rows are refused: first of all for their order; and for a clock only if the order is taken.
abbrev pub Refuses : Bool → Option Limit → List Row → ClockFault → Type 0
Refuses strict limit rows (Fallen number) = IsOutOfOrder strict rows (Fallen number)
Refuses strict limit rows (Ahead number) = RisesIf strict rows × IsBeyond limit rows (Ahead number)

-- rows that are taken
abbrev pub Takes : Bool → Option Limit → List Row → Type 0
Takes strict limit rows = RisesIf strict rows × AreInLimit limit rows
