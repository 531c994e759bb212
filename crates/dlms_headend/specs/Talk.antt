-- Which APDUs have brought a poll to its stage.
use Rattle.std.specs.Prelude.{◌≡◌, ℕ, List, [], ◌∷◌, ◌++◌, Result, Ok, Err}
use Rattle.dlms_blocks.specs.Joining.{Joining, empty}
use Rattle.dlms_headend.specs.declared.row.Row.{Row}
use Rattle.dlms_headend.specs.declared.stage.Stage.{Stage}
use Rattle.dlms_headend.specs.declared.stage.Stage.TheVariants.{Associating, Naming, Getting, Checking, Releasing, Leaving}
use Rattle.dlms_headend.specs.declared.poll_fault.PollFault.{PollFault}
use Rattle.dlms_headend.specs.declared.poll_fault.PollFault.TheVariants.{Refused, Result as BadResult, Line, Protocol, Columns as OtherColumns, Memory}
use Rattle.dlms_headend.specs.TalkValue.{TalkValue}
use Rattle.dlms_headend.specs.Heard.{HasTaken}
use Rattle.dlms_headend.specs.Poll.{HasAccepted, HasBlocks, HasRows, HasNamed, HasReleased, Refuses, Needs}
use Rattle.dlms_headend.specs.declared.plan.Columns.{Columns}
use Rattle.dlms_headend.specs.declared.plan.Columns.TheVariants.{Trusted, Asked}

abbrev pub fresh_talk : TalkValue
fresh_talk = record { stage = Associating; blocks = empty; rows = [] }

-- the answers that are awaited after the acceptance, and after the rows
abbrev pub behind_acceptance : Columns → Stage
behind_acceptance Trusted = Getting 0
behind_acceptance Asked = Naming

abbrev pub behind_rows : Columns → Stage
behind_rows Trusted = Releasing
behind_rows Asked = Checking

-- the poll waits for this after these APDUs
abbrev pub FitsAt : Columns → Stage → Joining → List Row → List (List ℕ) → Type 0
FitsAt columns Associating blocks rows apdus = (apdus ≡ []) × (blocks ≡ empty) × (rows ≡ [])
FitsAt columns Naming blocks rows apdus = (columns ≡ Asked) × HasAccepted apdus × (blocks ≡ empty)
    × (rows ≡ [])
FitsAt columns (Getting taken) blocks rows apdus = HasBlocks columns apdus taken blocks.joined
    × HasTaken blocks taken × (rows ≡ [])
FitsAt columns Checking blocks rows apdus = (columns ≡ Asked) × HasRows columns apdus rows
FitsAt columns Releasing blocks rows apdus = HasNamed columns apdus rows
FitsAt columns Leaving blocks rows apdus = HasReleased columns apdus rows

abbrev pub FitsTalk : Columns → TalkValue → List (List ℕ) → Type 0
FitsTalk columns t apdus = FitsAt columns t.stage t.blocks t.rows apdus

-- an APDU is awaited
abbrev pub CanTake : Stage → Type 0
CanTake Associating = Unit {0}
CanTake Naming = Unit {0}
CanTake (Getting taken) = Unit {0}
CanTake Checking = Unit {0}
CanTake Releasing = Unit {0}
CanTake Leaving = ⊥

-- nothing is awaited but the answer to the release, or the connection's end
abbrev pub IsLate : Stage → Type 0
IsLate Associating = ⊥
IsLate Naming = ⊥
IsLate (Getting taken) = ⊥
IsLate Checking = ⊥
IsLate Releasing = Unit {0}
IsLate Leaving = Unit {0}

-- out of memory, if it may be, or the APDU ends the poll
abbrev pub Ends : Columns → List (List ℕ) → List ℕ → PollFault → Type 0
Ends columns apdus apdu Memory = Needs columns apdus apdu
Ends columns apdus apdu (Refused diagnostic) = Refuses columns apdus apdu (Refused diagnostic)
Ends columns apdus apdu (BadResult code) = Refuses columns apdus apdu (BadResult code)
Ends columns apdus apdu Line = Refuses columns apdus apdu Line
Ends columns apdus apdu Protocol = Refuses columns apdus apdu Protocol
Ends columns apdus apdu OtherColumns = Refuses columns apdus apdu OtherColumns

-- a GET of the buffer is due
abbrev pub IsGetting : Stage → Type 0
IsGetting Associating = ⊥
IsGetting Naming = ⊥
IsGetting Checking = ⊥
IsGetting (Getting taken) = Unit {0}
IsGetting Releasing = ⊥
IsGetting Leaving = ⊥

-- how a poll changes with the next APDU; if it ends the poll, and if a GET of the buffer is due, the rows stay
abbrev pub Takes : Columns → TalkValue → List (List ℕ) → List ℕ → Result (Unit {0}) PollFault
    → TalkValue → Type 0
Takes columns old apdus apdu (Ok u) new = FitsTalk columns new (apdus ++ apdu ∷ [])
    × (IsGetting new.stage → new.rows ≡ old.rows)
Takes columns old apdus apdu (Err fault) new = Ends columns apdus apdu fault × (new.rows ≡ old.rows)
