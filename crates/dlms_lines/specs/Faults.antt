-- Where a call of the system failed.
use Rattle.std.specs.Prelude.{◌≡◌, ℕ, List}
use Rattle.std.specs.declared.io.Error.{Error}
use Rattle.dlms_ends.specs.declared.fault.RunFault.{RunFault}
use Rattle.dlms_lines.specs.declared.fault.ClockFault.{ClockFault}
use Rattle.dlms_lines.specs.declared.fault.FieldFault.{FieldFault}
use Rattle.dlms_lines.specs.declared.fault.FieldFault.TheVariants.{System, Late, Clock, Other}

-- the system failed at this file or address with this error
abbrev pub IsSystemAt : List ℕ → Error → FieldFault → Type 0
IsSystemAt place error (System at told) = (at.now ≡ place) × (told ≡ error)
IsSystemAt place error _ = ⊥

-- it is this other fault
abbrev pub IsOther : FieldFault → RunFault → Type 0
IsOther (Other fault) given = fault ≡ given
IsOther _ given = ⊥

-- the deadline of this many seconds was over at this address
abbrev pub IsLateAt : List ℕ → ℕ → FieldFault → Type 0
IsLateAt place seconds (Late at deadline) = (at.now ≡ place) × (deadline ≡ seconds)
IsLateAt place seconds _ = ⊥

-- the rows from this address were refused for their clocks
abbrev pub IsClockAt : List ℕ → ClockFault → FieldFault → Type 0
IsClockAt place why (Clock at told) = (at.now ≡ place) × (told ≡ why)
IsClockAt place why _ = ⊥
