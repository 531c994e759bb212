-- The calls of a readings file to the files of a machine, and the use of their results.
use Rattle.std.specs.Prelude.{◌≡◌, ◌⊎◌, ℕ, List, [], ◌∷◌, ◌++◌, Option, Some, None, Result, Ok, Err, IsOk, IsErr, string_bytes}
use Rattle.std.specs.declared.io.Error.{Error}
use Rattle.dlms_filing.specs.declared.place.Held.{Held}

-- The file that a name stands for was looked for: it has this path; the lock beside it was to be held; the text there was read, if
-- there is one; a new file was to be made beside it, and has this path; a text was to be written to a file, and synced; it was to
-- be renamed; the folder of a path was to be synced: and each of these calls went well or failed. A file was removed.
pub data FileCall : Type 0 where
  Finds : (name : List ℕ) (path : Result (List ℕ) Error) → FileCall
  Locks : (path : List ℕ) (failed : Option Error) → FileCall
  Reads : (path : List ℕ) (text : Result (Option (List ℕ)) Error) → FileCall
  Creates : (path : List ℕ) (beside : Result (List ℕ) Error) → FileCall
  Writes : (path text : List ℕ) (failed : Option Error) → FileCall
  Syncs : (path : List ℕ) (failed : Option Error) → FileCall
  Renames : (from to : List ℕ) (failed : Option Error) → FileCall
  SyncsFolder : (path : List ℕ) (failed : Option Error) → FileCall
  Removes : (path : List ℕ) → FileCall

-- if the calls are known, these came after the previous ones
abbrev pub Called : {C : Type 0} → Option (List C) → Option (List C) → List C → Type 0
Called None new calls = Unit {0}
Called (Some before) None calls = ⊥
Called (Some before) (Some after) calls = after ≡ before ++ calls

abbrev pub found_in : {S E : Type 0} → Result S E → (S → List ℕ) → Result (List ℕ) E
found_in (Ok found) bytes = Ok (bytes found)
found_in (Err e) bytes = Err e

abbrev pub bytes_if : {S : Type 0} → Option S → (S → List ℕ) → Option (List ℕ)
bytes_if None bytes = None
bytes_if (Some text) bytes = Some (bytes text)

abbrev pub read_in : {S E : Type 0} → Result (Option S) E → (S → List ℕ)
    → Result (Option (List ℕ)) E
read_in (Ok text) bytes = Ok (bytes_if text bytes)
read_in (Err e) bytes = Err e

-- ---- what is made of them

-- The file of a name is found, and the lock beside it held.
abbrev pub Locked : Option (List FileCall) → Option (List FileCall) → List ℕ → Result (List ℕ) Error
    → Type 0
Locked old new name (Ok path) = Called old new (Finds name (Ok path) ∷ Locks path None ∷ [])
Locked old new name (Err e) = Called old new (Finds name (Err e) ∷ [])
    ⊎ ((path : List ℕ) × Called old new (Finds name (Ok path) ∷ Locks path (Some e) ∷ []))

-- The text there; if the file does not exist, it is empty.
abbrev pub text_or_none : Option (List ℕ) → List ℕ
text_or_none None = []
text_or_none (Some text) = text

abbrev pub Stands : Option (List FileCall) → Option (List FileCall) → List ℕ → Result (List ℕ) Error
    → Type 0
Stands old new path (Ok text) = (found : Option (List ℕ)) × (text ≡ text_or_none found)
    × Called old new (Reads path (Ok found) ∷ [])
Stands old new path (Err e) = Called old new (Reads path (Err e) ∷ [])

-- A file has the text, which is synced.
abbrev pub Filled : {T : Type 0} → Option (List FileCall) → Option (List FileCall)
    → (path text : List ℕ) → Result T Error → Type 0
Filled old new path text (Ok done) = Called old new (Writes path text None ∷ Syncs path None ∷ [])
Filled old new path text (Err e) = Called old new (Writes path text (Some e) ∷ [])
    ⊎ Called old new (Writes path text None ∷ Syncs path (Some e) ∷ [])

-- A new file beside it has the text, which is synced. If a call fails, nothing is left beside it.
abbrev pub Laid : Option (List FileCall) → Option (List FileCall) → (path text : List ℕ)
    → Result (List ℕ) Error → Type 0
Laid old new path text (Ok beside) =
    Called old new (Creates path (Ok beside) ∷ Writes beside text None ∷ Syncs beside None ∷ [])
Laid old new path text (Err e) =
    Called old new (Creates path (Err e) ∷ [])
    ⊎ ((beside : List ℕ) × Called old new
    (Creates path (Ok beside) ∷ Writes beside text (Some e) ∷ Removes beside ∷ []))
    ⊎ ((beside : List ℕ) × Called old new
    (Creates path (Ok beside) ∷ Writes beside text None ∷ Syncs beside (Some e) ∷ Removes beside
    ∷ []))

-- It takes its place, and then the folder is synced. Where the renaming fails it is taken away.
abbrev pub Replaced : {T : Type 0} → Option (List FileCall) → Option (List FileCall)
    → (beside path : List ℕ) → Result T Error → Type 0
Replaced old new beside path (Ok done) =
    Called old new (Renames beside path None ∷ SyncsFolder path None ∷ [])
Replaced old new beside path (Err e) =
    Called old new (Renames beside path (Some e) ∷ Removes beside ∷ [])
    ⊎ Called old new (Renames beside path None ∷ SyncsFolder path (Some e) ∷ [])

-- ---- a place that holds a file

-- the path of the file that is held, and that of the text which was laid beside it, if one was
pub record AtFile : Type 0 where
  pub path : List ℕ
  pub laid : Option (List ℕ)

abbrev pub file_of : Held → AtFile
file_of held = record { path = string_bytes held.path; laid = bytes_if held.laid string_bytes }

abbrev pub file_in : Option Held → Option AtFile
file_in None = None
file_in (Some held) = Some (file_of held)

-- The file of this name is held, and nothing was laid beside it; or it could not be, and the previous one still is.
abbrev pub ComesToHold : {T : Type 0} → Option (List FileCall) → Option (List FileCall) → List ℕ
    → Option AtFile → Result T Error → Option AtFile → Type 0
ComesToHold old new name held (Ok done) held' = (path : List ℕ) × Locked old new name (Ok path)
    × (held' ≡ Some (record { path = path; laid = None }))
ComesToHold old new name held (Err e) held' = Locked old new name (Err e) × (held' ≡ held)

-- the text of the file that is held; if none is, it is empty
abbrev pub GivesText : Option (List FileCall) → Option (List FileCall) → Option AtFile
    → Result (List ℕ) Error → Type 0
GivesText old new None result = Called old new [] × (result ≡ Ok [])
GivesText old new (Some file) result = Stands old new file.path result

-- what was laid is taken away
abbrev pub TakesAway : Option (List FileCall) → Option (List FileCall) → Option (List ℕ) → Type 0
TakesAway old new None = Called old new []
TakesAway old new (Some beside) = Called old new (Removes beside ∷ [])

-- it is, of the file that is held
abbrev pub Unlays : Option (List FileCall) → Option (List FileCall) → Option AtFile → Option AtFile
    → Type 0
Unlays old new None held' = Called old new [] × (held' ≡ None)
Unlays old new (Some file) held' = TakesAway old new file.laid
    × (held' ≡ Some (record { path = file.path; laid = None }))

-- What was laid before is taken away, and the text is laid beside the file.
abbrev pub LaysBeside : {T : Type 0} → Option (List FileCall) → Option (List FileCall) → List ℕ
    → AtFile → Result T Error → AtFile → Type 0
LaysBeside old new text file (Ok done) file' =
    (mid : Option (List FileCall)) × (beside : List ℕ) × TakesAway old mid file.laid
    × Laid mid new file.path text (Ok beside)
    × (file' ≡ record { path = file.path; laid = Some beside })
LaysBeside old new text file (Err e) file' = (mid : Option (List FileCall))
    × TakesAway old mid file.laid × Laid mid new file.path text (Err e)
    × (file' ≡ record { path = file.path; laid = None })

-- it is, for the file that is held; if none is, nothing is done
abbrev pub LaysHeld : {T : Type 0} → Option (List FileCall) → Option (List FileCall) → List ℕ
    → Option AtFile → Result T Error → Option AtFile → Type 0
LaysHeld old new text None result held' = Called old new [] × IsOk result × (held' ≡ None)
LaysHeld old new text (Some file) result held' = (file' : AtFile)
    × LaysBeside old new text file result file' × (held' ≡ Some file')

-- What was laid takes the place of the file; that nothing was is an error.
abbrev pub Puts : {T : Type 0} → Option (List FileCall) → Option (List FileCall)
    → (path : List ℕ) (laid : Option (List ℕ)) → Result T Error → Type 0
Puts old new path None result = Called old new [] × IsErr result
Puts old new path (Some beside) result = Replaced old new beside path result

-- it does, for the file that is held; if none is, nothing is done
abbrev pub PutsHeld : {T : Type 0} → Option (List FileCall) → Option (List FileCall) → Option AtFile
    → Result T Error → Option AtFile → Type 0
PutsHeld old new None result held' = Called old new [] × IsOk result × (held' ≡ None)
PutsHeld old new (Some file) result held' = Puts old new file.path file.laid result
    × (held' ≡ Some (record { path = file.path; laid = None }))
