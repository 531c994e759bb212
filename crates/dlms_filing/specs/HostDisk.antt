-- The calls of a machine's files, as calls of its system.
use Rattle.std.specs.Prelude.{◌≡◌, ◌≢◌, ◌⊎◌, ◌+◌, ◌-◌, ◌<◌, ◌%◌, ◌^◌, ℕ, List, [], ◌∷◌, ◌++◌, Option, Some, None, Result, Ok, Err, IsOk, IsErr, IsTrue, false, length, replicate, codes, string_bytes}
use Rattle.std.specs.Fmt.{digits}
use Rattle.std.specs.IoError.{error_kind}
use Rattle.std.specs.declared.io.Error.{Error}
use Rattle.std.specs.declared.io.ErrorKind.TheVariants.{AlreadyExists, InvalidInput, NotFound, OutOfMemory}
use Rattle.dlms_ends.specs.Moments.{Writes}
use Rattle.dlms_filing.specs.Disk.{Called}
use Rattle.dlms_filing.specs.Filing.{error_in}
use Rattle.dlms_filing.specs.System.{SystemCall}
use Rattle.dlms_filing.specs.System.SystemCall.{Checks, Creates, Draws, GivesGroup, GivesOwner, Locks, Looks, LooksAtName, Opens, Permits, Reads, Removes, Resolves, Syncs, SyncsFolder}
use Rattle.dlms_filing.specs.declared.host_disk.Beside.{Beside}
use Rattle.dlms_filing.specs.declared.host_disk.TheConstants.{EVERYONE, NAMES, OWNER_ALONE}
use Rattle.dlms_filing.specs.declared.system.Status.{Status}

-- the calls that were made, if they are known
abbrev pub Calls : Type 0 → Type 0
Calls F = Option (List (SystemCall F))

-- ---- a name

-- This path is a plain file; or it could not be looked at, or it is something else.
abbrev pub FindsPlain : {F : Type 0} → Calls F → Calls F → List ℕ → Result (List ℕ) Error → Type 0
FindsPlain old new path (Ok found) = (found ≡ path) × (status : Status) × IsTrue status.is_plain
    × Called old new (Looks path (Ok status) ∷ [])
FindsPlain old new path (Err e) =
    Called old new (Looks path (Err e) ∷ [])
    ⊎ ((status : Status) × (IsTrue status.is_plain → ⊥) × (error_kind e ≡ InvalidInput)
    × Called old new (Looks path (Ok status) ∷ []))

-- The folder of a name is there, and was synced; or that failed, or memory ran out.
abbrev pub FindsFolder : {F : Type 0} → Calls F → Calls F → List ℕ → Result (List ℕ) Error → Type 0
FindsFolder old new name (Ok path) = (path ≡ name) × Called old new (SyncsFolder name None ∷ [])
FindsFolder old new name (Err e) = Called old new (SyncsFolder name (Some e) ∷ [])
    ⊎ ((error_kind e ≡ OutOfMemory) × Called old new (SyncsFolder name None ∷ []))

-- the case of a link at the name that leads nowhere: the error is that of the missing file; and the case without one
abbrev pub FindsNoLink : {F : Type 0} → Calls F → Calls F → List ℕ → Error → Result Status Error
    → Result (List ℕ) Error → Type 0
FindsNoLink old new name missing (Ok status) found = (found ≡ Err missing) × Called old new []
FindsNoLink old new name missing (Err why) found = FindsFolder old new name found

-- Nothing has this name, and its folder exists; or the name is a link.
abbrev pub FindsNothing : {F : Type 0} → Calls F → Calls F → List ℕ → Error → Result (List ℕ) Error
    → Type 0
FindsNothing {F} old new name missing found = (status : Result Status Error) × (mid : Calls F)
    × Called old mid (LooksAtName name status ∷ []) × FindsNoLink mid new name missing status found

-- the next step after the path at the end of the links, or after the error that there is none
abbrev pub FindsAt : {F : Type 0} → Calls F → Calls F → List ℕ
    → (resolved found : Result (List ℕ) Error) → Type 0
FindsAt old new name (Ok path) found = FindsPlain old new path found
FindsAt old new name (Err why) found = (error_kind why ≡ NotFound
    → FindsNothing old new name why found)
    × (error_kind why ≢ NotFound → (found ≡ Err why) × Called old new [])

-- The file of a name: a plain one at the end of its links; or the name itself, if nothing has it.
abbrev pub FindsFile : {F : Type 0} → Calls F → Calls F → List ℕ → Result (List ℕ) Error → Type 0
FindsFile {F} old new name found = (resolved : Result (List ℕ) Error) × (mid : Calls F)
    × Called old mid (Resolves name resolved ∷ []) × FindsAt mid new name resolved found

-- ---- a lock

-- A file was made that was not there, and is no standard stream; or one of both failed.
abbrev pub MakesFile : {F : Type 0} → Calls F → Calls F → (path : List ℕ) (permissions : ℕ)
    → Result F Error → Type 0
MakesFile old new path permissions (Ok file) =
    Called old new (Creates path permissions (Ok file) ∷ Checks file None ∷ [])
MakesFile {F} old new path permissions (Err e) =
    Called old new (Creates path permissions (Err e) ∷ [])
    ⊎ ((file : F) × Called old new
    (Creates path permissions (Ok file) ∷ Checks file (Some e) ∷ []))

-- An existing file was opened; or it could not be looked at, is not a plain file, or could not be opened.
abbrev pub OpensFile : {F : Type 0} → Calls F → Calls F → List ℕ → Result F Error → Type 0
OpensFile old new path (Ok file) = (status : Status) × IsTrue status.is_plain
    × Called old new (LooksAtName path (Ok status) ∷ Opens path (Ok file) ∷ [])
OpensFile old new path (Err e) =
    Called old new (LooksAtName path (Err e) ∷ [])
    ⊎ ((status : Status) × (IsTrue status.is_plain → ⊥) × (error_kind e ≡ InvalidInput)
    × Called old new (LooksAtName path (Ok status) ∷ []))
    ⊎ ((status : Status) × IsTrue status.is_plain
    × Called old new (LooksAtName path (Ok status) ∷ Opens path (Err e) ∷ []))

-- the next step after a file that was created, or was not: if it already existed, it is opened
abbrev pub OpensMade : {F : Type 0} → Calls F → Calls F → List ℕ → (made opened : Result F Error)
    → Type 0
OpensMade old new path (Ok file) opened = (opened ≡ Ok file) × Called old new []
OpensMade old new path (Err why) opened = (error_kind why ≡ AlreadyExists
    → OpensFile old new path opened)
    × (error_kind why ≢ AlreadyExists → (opened ≡ Err why) × Called old new [])

-- the file of a lock, created for its owner alone if it does not exist
abbrev pub OpensLock : {F : Type 0} → Calls F → Calls F → List ℕ → Result F Error → Type 0
OpensLock {F} old new path opened = (made : Result F Error) × (mid : Calls F)
    × MakesFile old mid path OWNER_ALONE made × OpensMade mid new path made opened

-- the lock beside a file has its path and '.lock'
abbrev pub lock_path : List ℕ → List ℕ
lock_path path = path ++ codes ".lock"

-- The lock beside a file is held; or memory ran out for its path; or it could not be opened, or be had.
abbrev pub HoldsLock : {F : Type 0} → Calls F → Calls F → List ℕ → Result F Error → Type 0
HoldsLock {F} old new path (Ok lock) = (mid : Calls F)
    × OpensLock old mid (lock_path path) (Ok lock) × Called mid new (Locks lock None ∷ [])
HoldsLock {F} old new path (Err e) =
    ((error_kind e ≡ OutOfMemory) × Called old new [])
    ⊎ OpensLock old new (lock_path path) (Err e)
    ⊎ ((lock : F) × (mid : Calls F) × OpensLock old mid (lock_path path) (Ok lock)
    × Called mid new (Locks lock (Some e) ∷ []))

-- what is held then
abbrev pub KeepsLock : {F : Type 0} → Calls F → Calls F → List ℕ → (lock : Option F)
    → Result (Unit {0}) Error → (lock' : Option F) → Type 0
KeepsLock {F} old new path lock (Ok done) lock' = (file : F) × HoldsLock old new path (Ok file)
    × (lock' ≡ Some file)
KeepsLock old new path lock (Err e) lock' = HoldsLock old new path (Err e) × (lock' ≡ lock)

-- ---- a text

-- the text that was read; none if the file does not exist, and only then
abbrev pub IsThere : {S T : Type 0} → Result S Error → (S → T) → Result (Option T) Error → Type 0
IsThere (Ok text) bytes found = found ≡ Ok (Some (bytes text))
IsThere (Err e) bytes found = (error_kind e ≡ NotFound → found ≡ Ok None)
    × (error_kind e ≢ NotFound → found ≡ Err e)

abbrev pub ReadsText : {F : Type 0} → Calls F → Calls F → List ℕ → Result (Option (List ℕ)) Error
    → Type 0
ReadsText old new path found = (read : Result (List ℕ) Error)
    × Called old new (Reads path read ∷ []) × IsThere read (λ text. text) found

-- ---- a file beside another

-- a number of 64 bits in 16 hexadecimal digits
abbrev pub hexadecimal : ℕ → List ℕ
hexadecimal number = let shown = digits 16 false number in
    replicate (16 - length shown) 0x30 ++ shown

-- the path of a file beside another, which has this number: '.', 16 hexadecimal digits, and '.new'
abbrev pub path_beside : List ℕ → ℕ → List ℕ
path_beside path number = path ++ 0x2E ∷ hexadecimal number ++ codes ".new"

-- A file was made beside another, with this number in its name; or memory ran out for that, or it could not be made.
abbrev pub MakesOne : {F : Type 0} → Calls F → Calls F → (path : List ℕ) (permissions number : ℕ)
    → Result (Beside F) Error → Type 0
MakesOne old new path permissions number (Ok made) =
    (string_bytes made.name ≡ path_beside path number)
    × MakesFile old new (path_beside path number) permissions (Ok made.file)
MakesOne old new path permissions number (Err e) = ((error_kind e ≡ OutOfMemory)
    × Called old new []) ⊎ MakesFile old new (path_beside path number) permissions (Err e)

-- the numbers that are tried: the first, and those that follow it
abbrev pub number_at : (first further : ℕ) → ℕ
number_at first further = (first + further) % 2 ^ 64

-- so many names were tried, each of which was taken
pub data Tries {F : Type 0} (old : Calls F) (path : List ℕ) (permissions first : ℕ) : ℕ → Calls F
    → Type 0 where
  Untried : Tries old path permissions first 0 old
  Taken : (count : ℕ) (mid new : Calls F) (e : Error) → Tries old path permissions first count mid
      → MakesOne mid new path permissions (number_at first count) (Err e)
      → error_kind e ≡ AlreadyExists
      → Tries old path permissions first (count + 1) new

-- A file was made beside another, with the first name that was not taken; or all were, or one could not be made.
abbrev pub MakesBeside : {F : Type 0} → Calls F → Calls F → (path : List ℕ) (permissions first : ℕ)
    → Result (Beside F) Error → Type 0
MakesBeside {F} old new path permissions first (Ok made) =
    (count : ℕ) × (mid : Calls F) × (count < NAMES) × Tries old path permissions first count mid
    × MakesOne mid new path permissions (number_at first count) (Ok made)
MakesBeside {F} old new path permissions first (Err e) =
    ((error_kind e ≡ AlreadyExists) × Tries old path permissions first NAMES new)
    ⊎ ((count : ℕ) × (mid : Calls F) × (count < NAMES) × (error_kind e ≢ AlreadyExists)
    × Tries old path permissions first count mid
    × MakesOne mid new path permissions (number_at first count) (Err e))

-- A file was given the group and the owner of an old one, if the system allows it, and its permissions.
abbrev pub TakesAfter : {F T : Type 0} → Calls F → Calls F → F → Status → Result T Error → Type 0
TakesAfter old new file status result =
    (group owner : Option Error) × Called old new
    (GivesGroup file status.group group ∷ GivesOwner file status.owner owner
    ∷ Permits file status.permissions (error_in result) ∷ [])

-- It is made like the old file, if there is one; if that fails, it is removed.
abbrev pub Dresses : {F T : Type 0} → Calls F → Calls F → (name : List ℕ) (file : F)
    → Result Status Error → Result T Error → Type 0
Dresses old new name file (Err none) result = IsOk result × Called old new []
Dresses old new name file (Ok status) (Ok done) =
    TakesAfter {T = Unit {0}} old new file status (Ok tt)
Dresses {F} old new name file (Ok status) (Err e) =
    (mid : Calls F) × (failed : Option Error)
    × TakesAfter {T = Unit {0}} old mid file status (Err e)
    × Called mid new (Removes name failed ∷ [])

-- the permissions of a new text: its owner's alone if it replaces an old one
abbrev pub permissions_beside : Result Status Error → ℕ
permissions_beside (Ok status) = OWNER_ALONE
permissions_beside (Err none) = EVERYONE

-- So a file was made that takes after the old one; or it could not be made, or could not take after it.
abbrev pub MakesLike : {F : Type 0} → Calls F → Calls F → List ℕ → Result Status Error → ℕ
    → Result (Beside F) Error → Type 0
MakesLike {F} old new path status number (Ok made) =
    (mid : Calls F) × MakesBeside old mid path (permissions_beside status) number (Ok made)
    × Dresses {T = Unit {0}} mid new (string_bytes made.name) made.file status (Ok tt)
MakesLike {F} old new path status number (Err e) =
    MakesBeside old new path (permissions_beside status) number (Err e)
    ⊎ ((made : Beside F) × (mid : Calls F)
    × MakesBeside old mid path (permissions_beside status) number (Ok made)
    × Dresses {T = Unit {0}} mid new (string_bytes made.name) made.file status (Err e))

-- A file was made beside another, and made like it, if that exists.
abbrev pub MakesNew : {F : Type 0} → Calls F → Calls F → List ℕ → Result (Beside F) Error → Type 0
MakesNew {F} old new path made =
    (status : Result Status Error) × (number : ℕ) × (seen mid : Calls F)
    × Called old seen (Looks path status ∷ []) × Called seen mid (Draws number ∷ [])
    × MakesLike mid new path status number made

-- its name is returned, and the next text is written to it
abbrev pub CreatesBeside : {F : Type 0} → Calls F → Calls F → List ℕ → (created : Option F)
    → Result (List ℕ) Error → (created' : Option F) → Type 0
CreatesBeside {F} old new path created (Ok name) created' = (made : Beside F)
    × MakesNew old new path (Ok made) × (name ≡ string_bytes made.name)
    × (created' ≡ Some made.file)
CreatesBeside old new path created (Err e) created' = MakesNew old new path (Err e)
    × (created' ≡ created)

-- ---- what is written

-- The text is written to the file that was created last; without one that is an error.
abbrev pub WritesText : {F T : Type 0} → (F → Option (List ℕ)) → (created : Option F) → List ℕ
    → Result T Error → (created' : Option F) → Type 0
WritesText contents None text result created' = IsErr result × (created' ≡ None)
WritesText {F} contents (Some file) text result created' = (file' : F)
    × Writes (contents file) (contents file') text result × (created' ≡ Some file')

-- The file that was created last is synced, and closed; without one that is an error.
abbrev pub SyncsCreated : {F T : Type 0} → Calls F → Calls F → (created : Option F) → Result T Error
    → Type 0
SyncsCreated old new None result = IsErr result × Called old new []
SyncsCreated old new (Some file) result = Called old new (Syncs file (error_in result) ∷ [])

-- A file was removed, or not.
abbrev pub TakesAway : {F : Type 0} → Calls F → Calls F → List ℕ → Type 0
TakesAway old new path = (failed : Option Error) × Called old new (Removes path failed ∷ [])
