-- The readings file of a poll: held, opened, and the rows that are filed there.
use Rattle.std.specs.Prelude.{◌≡◌, ◌<◌, ◌⊎◌, ◌++◌, ℕ, List, [], ◌∷◌, codes, decimal, length, Option, Some, None, Result, Ok, Err, IsOk}
use Rattle.std.specs.declared.io.Error.{Error}
use Rattle.dlms_headend.specs.declared.row.Row.{Row}
use Rattle.dlms_ends.specs.Faults.{IsOfSystem}
use Rattle.dlms_filing.specs.Filing.{PlaceCall, Asks, FilesRows, OpensRows}
use Rattle.dlms_filing.specs.Filing.PlaceCall.{Holds}
use Rattle.dlms_filing.specs.Printing.{Printed, Prints, PrintsNothing, PrintsPart}
use Rattle.dlms_ends.specs.declared.fault.RunFault.{RunFault}
use Rattle.dlms_ends.specs.declared.fault.RunFault.TheVariants.{Io, Memory, Readings}
use Rattle.dlms_filing.specs.declared.filing.FilingFault.{FilingFault}
use Rattle.dlms_filing.specs.declared.filing.FilingFault.TheVariants as filing
use Rattle.dlms_filing.specs.declared.filing.OpeningFault.{OpeningFault}
use Rattle.dlms_filing.specs.declared.filing.OpeningFault.TheVariants as opening
use Rattle.dlms_polling.specs.Risers.{count_left_out, risers}
use Rattle.dlms_lines.specs.Faults.{IsOther, IsSystemAt}
use Rattle.dlms_lines.specs.declared.fault.FieldFault.{FieldFault}

-- The file is held, if one is given; or that failed.
abbrev pub HoldsFile : {T : Type 0} → Option (List ℕ) → Option (List PlaceCall)
    → Option (List PlaceCall)
    → Result T FieldFault → Type 0
HoldsFile None asked asked' result = Asks asked asked' [] × IsOk result
HoldsFile (Some file) asked asked' (Ok done) = Asks asked asked' (Holds file None ∷ [])
HoldsFile (Some file) asked asked' (Err fault) = (error : Error) × IsSystemAt file error fault
    × Asks asked asked' (Holds file (Some error) ∷ [])

-- the report on an error of the place
abbrev pub TellsPlace : Option (List ℕ) → Error → FieldFault → Type 0
TellsPlace None error fault = IsOther fault Io
TellsPlace (Some file) error fault = IsSystemAt file error fault

-- The readings in the file; or why there are none.
abbrev pub TellsOpening : Option (List ℕ) → OpeningFault → FieldFault → Type 0
TellsOpening file (opening.Place error) fault = TellsPlace file error fault
TellsOpening file (opening.Readings why) fault = IsOther fault (Readings why)

abbrev pub OpensFile : Option (List ℕ) → Option (List PlaceCall) → Option (List PlaceCall)
    → Result (List Row) FieldFault → Type 0
OpensFile file asked asked' (Ok rows) = OpensRows asked asked' (Ok rows)
OpensFile file asked asked' (Err fault) = (why : OpeningFault) × OpensRows asked asked' (Err why)
    × TellsOpening file why fault

-- the report on rows that were not filed
abbrev pub TellsFiling : Option (List ℕ) → FilingFault → FieldFault → Type 0
TellsFiling file filing.Memory fault = IsOther fault Memory
TellsFiling file filing.Output fault = IsOther fault Io
TellsFiling file (filing.Place error) fault = TellsPlace file error fault

-- ---- the rows of a poll

-- This line is printed; or memory ran out for it, or it could not be printed whole.
abbrev pub PrintsLine : {T : Type 0} → List ℕ → Printed → Printed → Result T RunFault → Type 0
PrintsLine line errors errors' (Ok done) = Prints errors errors' line
PrintsLine line errors errors' (Err fault) = ((fault ≡ Memory) × PrintsNothing errors errors')
    ⊎ (IsOfSystem fault × PrintsPart errors errors' line)

-- the line that reports how many rows are left out, and the clock of the first of them
abbrev pub left_out_line : ℕ → ℕ → List ℕ
left_out_line count first = codes "left out " ++ (decimal count
    ++ (codes ", the first with clock " ++ (decimal first
    ++ codes ": not later than the row filed before it\n")))

-- If any rows are left out, their number is reported.
abbrev pub ReportsCount : {T : Type 0} → ℕ → Printed → Printed → Result T RunFault → Type 0
ReportsCount count errors errors' result = (count ≡ 0 → PrintsNothing errors errors' × IsOk result)
    × (0 < count → (first : ℕ) × PrintsLine (left_out_line count first) errors errors' result)

-- It is reported how many rows are left out, and those that are later than every row before them are filed.
pub record FilesPolled (asked asked' : Option (List PlaceCall))
    (printed printed' errors errors' : Printed) (before rows : List Row) : Type 0 where
  pub reports : ReportsCount {T = Unit {0}} (count_left_out before rows) errors errors' (Ok tt)
  pub after : List Row
  pub files : FilesRows {T = Unit {0}} asked asked' printed printed' before (risers rows)
      (Ok tt) after

-- Or there was no memory for them; or the report failed, and nothing else was done; or they could not be filed.
pub data FilesNone (file : Option (List ℕ)) (asked asked' : Option (List PlaceCall))
    (printed printed' errors errors' : Printed) (before rows : List Row) (fault : FieldFault)
    : Type 0 where
  Unkept : IsOther fault Memory → 0 < length rows → asked' ≡ asked → printed' ≡ printed
      → errors' ≡ errors
      → FilesNone file asked asked' printed printed' errors errors' before rows fault
  Unreported : (why : RunFault)
      → ReportsCount {T = Unit {0}} (count_left_out before rows) errors errors' (Err why)
      → IsOther fault why → asked' ≡ asked → printed' ≡ printed
      → FilesNone file asked asked' printed printed' errors errors' before rows fault
  Unfiled : ReportsCount {T = Unit {0}} (count_left_out before rows) errors errors' (Ok tt)
      → (why : FilingFault) (after : List Row)
      → FilesRows {T = Unit {0}} asked asked' printed printed' before (risers rows) (Err why) after
      → TellsFiling file why fault
      → FilesNone file asked asked' printed printed' errors errors' before rows fault
