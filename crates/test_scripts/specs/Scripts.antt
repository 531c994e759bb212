-- The meaning of an entry of a script.
use Rattle.std.specs.Prelude.{ℕ, Bool, true, false, nat_eq, if◌then◌else◌, List, Option, Some, None, Result, Ok, Err}
use Rattle.std.specs.declared.io.Error.{Error}
use Rattle.std.specs.declared.net.socket_addr.SocketAddr.{SocketAddr}
use Rattle.dlms_filing.specs.Disk.{FileCall}
use Rattle.dlms_filing.specs.Disk.FileCall.{Finds, Locks, Reads, Creates, Writes, Syncs, Renames, SyncsFolder, Removes}
use Rattle.dlms_filing.specs.Filing.{PlaceCall}
use Rattle.dlms_filing.specs.Filing.PlaceCall.{Holds, Opens, Lays, Puts, Drops}
use Rattle.dlms_ends.specs.Moments.{Moment}
use Rattle.dlms_ends.specs.Moments.Moment.{Came, Quiet, Unheard, Went, Broke, Connects, Joins}
use Rattle.dlms_lines.specs.Watching.{Sight}
use Rattle.dlms_lines.specs.Watching.Sight.{Second, Another, Next, Prepares, Bars, Trusts, Pauses, Starts, Dates, Reads as ReadsSecret}

-- the value, or the error with which its call failed
abbrev pub unless : {X : Type 0} → X → Option Error → Result X Error
unless x None = Ok x
unless x (Some e) = Err e

-- bytes arrived or were sent; or, if it failed, nothing arrived, or the line broke after these; a read failed
abbrev pub moment_at : (is_coming is_well : Bool) → Option Error → List ℕ → Moment
moment_at true true failed bytes = Came bytes
moment_at true false None bytes = Quiet
moment_at true false (Some e) bytes = Unheard e
moment_at false true failed bytes = Went bytes
moment_at false false failed bytes = Broke bytes

-- an end was joined; or else something came or went out
abbrev pub moment_of : (is_joining is_coming is_well : Bool) → Option Error → List ℕ → Moment
moment_of true is_coming is_well failed bytes = Joins failed
moment_of false is_coming is_well failed bytes = moment_at is_coming is_well failed bytes

-- a file was to be held; the text was asked for; one was to be laid; it was to be put; or it was taken away
abbrev pub asked_for : (is_held is_text is_laid is_put : Bool) → Option Error → List ℕ → PlaceCall
asked_for true is_text is_laid is_put failed text = Holds text failed
asked_for false true is_laid is_put failed text = Opens (unless text failed)
asked_for false false true is_put failed text = Lays text failed
asked_for false false false true failed text = Puts failed
asked_for false false false false failed text = Drops

-- the calls of files by their numbers: the arguments of each, and its outcome
abbrev pub file_call : ℕ → (first second : List ℕ) → (is_there : Bool) → Option Error → FileCall
file_call number first second is_there failed =
    if nat_eq number 0
    then Finds first (unless second failed)
    else if nat_eq number 1
    then Locks first failed
    else if nat_eq number 2
    then Reads first (unless (if is_there then Some second else None) failed)
    else if nat_eq number 3
    then Creates first (unless second failed)
    else if nat_eq number 4
    then Writes first second failed
    else if nat_eq number 5
    then Syncs first failed
    else if nat_eq number 6
    then Renames first second failed
    else if nat_eq number 7
    then SyncsFolder first failed
    else Removes first

-- what happened at the end of a meter's line, by its number: it was connected, or was not in time; or else bytes came, none did, or some went
abbrev pub wire_moment : ℕ → (is_so : Bool) → List ℕ → Moment
wire_moment number is_so bytes =
    if nat_eq number 0
    then Connects bytes (Ok is_so)
    else if nat_eq number 1
    then Came bytes
    else if nat_eq number 2
    then Quiet
    else Went bytes

abbrev pub where_so : {X : Type 0} → (is_so : Bool) → X → Option X
where_so true x = Some x
where_so false x = None

-- what was asked of clocks, a port and files of secrets, by its number
abbrev pub sight_of : ℕ → (second : ℕ) → (is_so : Bool) → Option Error → SocketAddr
    → (file bytes : List ℕ) → Sight
sight_of number second is_so failed address file bytes =
    if nat_eq number 0
    then Second (where_so is_so second)
    else if nat_eq number 1
    then Another second is_so
    else if nat_eq number 2
    then Next second (unless (where_so is_so address) failed)
    else if nat_eq number 3
    then Prepares failed
    else if nat_eq number 4
    then Bars address second
    else if nat_eq number 5
    then Pauses
    else if nat_eq number 6
    then Starts failed
    else if nat_eq number 7
    then Dates (unless second failed)
    else if nat_eq number 9
    then Trusts second
    else ReadsSecret file (unless bytes failed)
