-- The calls to the system for a readings file, one after another.
use Rattle.std.specs.Prelude.{ℕ, List, Option, Result}
use Rattle.std.specs.declared.io.Error.{Error}
use Rattle.dlms_filing.specs.declared.system.Status.{Status}

-- The path at the end of a name's links was asked for; the status of a path, and of a name itself, which may be a link; a file that
-- did not exist was created to be written, with these permissions; an existing one was opened; it was asked whether an open file is
-- no standard stream; the lock of an open file was asked for; the text of a file was read; a number was drawn; an open file was
-- given a group, an owner, and permissions, and was synced; a file was renamed; the folder of a path was synced; a file was
-- removed: and each of these calls went well or failed.
pub data SystemCall (F : Type 0) : Type 0 where
  Resolves : (name : List ℕ) (path : Result (List ℕ) Error) → SystemCall F
  Looks : (path : List ℕ) (status : Result Status Error) → SystemCall F
  LooksAtName : (name : List ℕ) (status : Result Status Error) → SystemCall F
  Creates : (path : List ℕ) (permissions : ℕ) (file : Result F Error) → SystemCall F
  Opens : (path : List ℕ) (file : Result F Error) → SystemCall F
  Checks : (file : F) (failed : Option Error) → SystemCall F
  Locks : (file : F) (failed : Option Error) → SystemCall F
  Reads : (path : List ℕ) (text : Result (List ℕ) Error) → SystemCall F
  Draws : (number : ℕ) → SystemCall F
  GivesGroup : (file : F) (group : ℕ) (failed : Option Error) → SystemCall F
  GivesOwner : (file : F) (owner : ℕ) (failed : Option Error) → SystemCall F
  Permits : (file : F) (permissions : ℕ) (failed : Option Error) → SystemCall F
  Syncs : (file : F) (failed : Option Error) → SystemCall F
  Renames : (from to : List ℕ) (failed : Option Error) → SystemCall F
  SyncsFolder : (path : List ℕ) (failed : Option Error) → SystemCall F
  Removes : (path : List ℕ) (failed : Option Error) → SystemCall F
