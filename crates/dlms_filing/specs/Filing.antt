-- The requests to the place of a readings file, and the text that is put there after a poll.
use Rattle.std.specs.Prelude.{◌≡◌, ◌⊎◌, ◌<◌, length, ℕ, List, [], ◌∷◌, ◌++◌, Option, Some, None, Result, Ok, Err, String, string_bytes}
use Rattle.std.specs.declared.io.Error.{Error}
use Rattle.dlms_headend.specs.Lines.{IsFile, Refuses, text_of}
use Rattle.dlms_headend.specs.Merged.{added, merged}
use Rattle.dlms_headend.specs.Rows.{AreReadings}
use Rattle.dlms_headend.specs.declared.row.Row.{Row}
use Rattle.dlms_filing.specs.Printing.{Printed, Prints, PrintsNothing, PrintsPart}
use Rattle.dlms_filing.specs.declared.filing.FilingFault.{FilingFault}
use Rattle.dlms_filing.specs.declared.filing.FilingFault.TheVariants.{Memory, Output, Place}
use Rattle.dlms_filing.specs.declared.filing.OpeningFault.{OpeningFault}
use Rattle.dlms_filing.specs.declared.filing.OpeningFault.TheVariants as opening

-- The file of this name was to be held; its text was asked for; a new text was to be laid beside it; the text beside it was to take
-- its place: and each of these calls went well or failed. The text beside it was removed.
pub data PlaceCall : Type 0 where
  Holds : (file : List ℕ) (failed : Option Error) → PlaceCall
  Opens : (text : Result (List ℕ) Error) → PlaceCall
  Lays : (text : List ℕ) (failed : Option Error) → PlaceCall
  Puts : (failed : Option Error) → PlaceCall
  Drops : PlaceCall

abbrev pub text_in : {A E : Type 0} → Result (String A) E → Result (List ℕ) E
text_in (Ok text) = Ok (string_bytes text)
text_in (Err e) = Err e

abbrev pub error_in : {T E : Type 0} → Result T E → Option E
error_in (Ok done) = None
error_in (Err e) = Some e

-- if the requests are known, these came after them
abbrev pub Asks : Option (List PlaceCall) → Option (List PlaceCall) → List PlaceCall → Type 0
Asks None new calls = Unit {0}
Asks (Some before) None calls = ⊥
Asks (Some before) (Some after) calls = after ≡ before ++ calls

-- The text was asked for, and these are its rows; or it is no file of readings; or the call failed.
abbrev pub OpensRows : Option (List PlaceCall) → Option (List PlaceCall)
    → Result (List Row) OpeningFault
    → Type 0
OpensRows old new (Ok rows) = (text : List ℕ) × IsFile text rows
    × Asks old new (Opens (Ok text) ∷ [])
OpensRows old new (Err (opening.Readings fault)) = (text : List ℕ) × Refuses text fault
    × Asks old new (Opens (Ok text) ∷ [])
OpensRows old new (Err (opening.Place e)) = Asks old new (Opens (Err e) ∷ [])

-- The text was put in the place of the old one, whole; or a call failed: nothing was put, or it was to be put last.
abbrev pub IsPut : {T : Type 0} → Option (List PlaceCall) → Option (List PlaceCall) → List ℕ
    → Result T Error → Type 0
IsPut old new text (Ok done) = Asks old new (Lays text None ∷ Puts None ∷ [])
IsPut old new text (Err e) = Asks old new (Lays text (Some e) ∷ [])
    ⊎ Asks old new (Lays text None ∷ Puts (Some e) ∷ [])

-- What memory was wanted for: rows that were to be added, and none was; or the text of readings that have rows.
abbrev pub WantsMemory : (before rows after : List Row) → Type 0
WantsMemory before rows after = ((after ≡ before) × (0 < length (added before rows)))
    ⊎ ((after ≡ merged before rows) × (0 < length after))

-- The rows were merged into these readings, and the text is that of the result; or memory ran out.
abbrev pub MergesInto : {A : Type 0} → List Row → List Row → Result (String A) FilingFault
    → List Row → Type 0
MergesInto before rows (Ok text) after = (after ≡ merged before rows)
    × IsFile (string_bytes text) after
MergesInto before rows (Err Memory) after = WantsMemory before rows after
MergesInto before rows (Err Output) after = ⊥
MergesInto before rows (Err (Place e)) after = ⊥

-- The rows were merged into these readings, and the lines of those that were added were appended to a text; or memory ran out.
abbrev pub AddsRows : {T : Type 0} → (first : List ℕ) → (before rows : List Row) → Result T FilingFault
    → (text : List ℕ) → (after : List Row) → Type 0
AddsRows first before rows (Ok done) text after = (after ≡ merged before rows)
    × (text ≡ first ++ text_of (added before rows)) × AreReadings after
AddsRows first before rows (Err Memory) text after = WantsMemory before rows after
AddsRows first before rows (Err Output) text after = ⊥
AddsRows first before rows (Err (Place e)) text after = ⊥

-- The rows were merged into these readings, and the text of the result was put in its place. Where memory ran out nothing was asked
-- of the place.
abbrev pub KeepsRows : {T : Type 0} → Option (List PlaceCall) → Option (List PlaceCall) → List Row
    → List Row → Result T FilingFault → List Row → Type 0
KeepsRows old new before rows (Ok done) after =
    (after ≡ merged before rows) × (text : List ℕ) × IsFile text after
    × Asks old new (Lays text None ∷ Puts None ∷ [])
KeepsRows old new before rows (Err Memory) after = Asks old new [] × WantsMemory before rows after
KeepsRows old new before rows (Err Output) after = ⊥
KeepsRows old new before rows (Err (Place e)) after =
    (after ≡ merged before rows) × (text : List ℕ) × IsFile text after
    × (Asks old new (Lays text (Some e) ∷ []) ⊎ Asks old new (Lays text None ∷ Puts (Some e) ∷ []))

-- The text was laid beside the old one, the new lines were printed and flushed, and then the text was put in its place. If it could
-- not be laid, nothing was printed; if the output failed, it was removed again; and if it could not be put, all was printed.
abbrev pub Gives : {T : Type 0} → (old new : Option (List PlaceCall)) (printed printed' : Printed)
    → (text news : List ℕ) → Result T FilingFault → Type 0
Gives old new printed printed' text news (Ok done) = Asks old new (Lays text None ∷ Puts None ∷ [])
    × Prints printed printed' news
Gives old new printed printed' text news (Err Memory) = ⊥
Gives old new printed printed' text news (Err Output) = Asks old new (Lays text None ∷ Drops ∷ [])
    × PrintsPart printed printed' news
Gives old new printed printed' text news (Err (Place e)) =
    (Asks old new (Lays text (Some e) ∷ []) × PrintsNothing printed printed')
    ⊎ (Asks old new (Lays text None ∷ Puts (Some e) ∷ []) × Prints printed printed' news)

-- The text of the readings that these rows were merged into was given so, and the new lines in it are those of the added rows.
abbrev pub GivesRows : {T : Type 0}
    → (old new : Option (List PlaceCall)) (printed printed' : Printed)
    → (before rows : List Row) → Result T FilingFault → (after : List Row) → Type 0
GivesRows old new printed printed' before rows result after =
    (after ≡ merged before rows) × (text : List ℕ) × IsFile text after
    × Gives old new printed printed' text (text_of (added before rows)) result

-- So it was; or memory ran out, before anything was asked of the place or printed: for the text of the readings as they were, or as
-- they are merged.
abbrev pub FilesRows : {T : Type 0}
    → (old new : Option (List PlaceCall)) (printed printed' : Printed)
    → (before rows : List Row) → Result T FilingFault → (after : List Row) → Type 0
FilesRows old new printed printed' before rows (Ok done) after =
    GivesRows old new printed printed' before rows (Ok done) after
FilesRows old new printed printed' before rows (Err Memory) after =
    Asks old new [] × PrintsNothing printed printed'
    × (((after ≡ before) × (0 < length before)) ⊎ WantsMemory before rows after)
FilesRows old new printed printed' before rows (Err Output) after =
    GivesRows {T = Unit {0}} old new printed printed' before rows (Err Output) after
FilesRows old new printed printed' before rows (Err (Place e)) after =
    GivesRows {T = Unit {0}} old new printed printed' before rows (Err (Place e)) after

-- In any case: if a text was laid, and was to be put in its place, the new lines in it had been printed, and flushed.
abbrev pub PutIsPrinted : Type 0
PutIsPrinted =
    (old new : List PlaceCall) (printed printed' : Printed) (before rows after : List Row)
    (result : Result (Unit {0}) FilingFault) (text : List ℕ) (failed : Option Error)
    → FilesRows (Some old) (Some new) printed printed' before rows result after
    → new ≡ old ++ Lays text None ∷ Puts failed ∷ []
    → Prints printed printed' (text_of (added before rows))
