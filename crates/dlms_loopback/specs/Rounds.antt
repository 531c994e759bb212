-- The rounds of the loopback: polls of a meter, one after another, whose rows are kept.
use Rattle.std.specs.Prelude.{◌≡◌, ◌⊎◌, ◌+◌, ◌<◌, ◌≤◌, ◌++◌, ℕ, List, [], ◌∷◌, length, Option, Some, None, Result, Ok, Err, IsOk, IfOk, MatchResult}
use Rattle.std.specs.declared.io.Error.{Error}
use Rattle.dlms_frame.specs.declared.client.Client.TheVariants.{Management}
use Rattle.dlms_headend.specs.Asking.{PlanValue}
use Rattle.dlms_headend.specs.Lines.{IsFile, text_of}
use Rattle.dlms_headend.specs.Merged.{last_clock, merged}
use Rattle.dlms_headend.specs.PollerValue.{PollerValue}
use Rattle.dlms_headend.specs.Polling.{fresh_poll}
use Rattle.dlms_headend.specs.declared.plan.Columns.TheVariants.{Asked as AsksColumns}
use Rattle.dlms_headend.specs.declared.row.Row.{Row}
use Rattle.dlms_meter.specs.Run.{MeterWorld, Stands}
use Rattle.dlms_meter.specs.declared.meter.Meter.{Meter}
use Rattle.dlms_pages.specs.Memory.{Memory}
use Rattle.dlms_pages.specs.declared.device.Pages.{Ghosts}
use Rattle.dlms_ends.specs.BothEnds.{IsDonePoll, Polls}
use Rattle.dlms_ends.specs.Faults.{IsOfSystem, TellsError}
use Rattle.dlms_filing.specs.Filing.{PlaceCall, Asks, KeepsRows, OpensRows}
use Rattle.dlms_filing.specs.Filing.PlaceCall.{Holds, Lays, Puts}
use Rattle.dlms_ends.specs.Moments.{Moment, Adds}
use Rattle.dlms_ends.specs.Moments.Moment.{Joins}
use Rattle.dlms_filing.specs.Printing.{Printed, Prints, PrintsNothing, PrintsPart}
use Rattle.dlms_ends.specs.declared.fault.RunFault.{RunFault}
use Rattle.dlms_ends.specs.declared.fault.RunFault.TheVariants.{Readings, Io, Memory as OutOfMemory}
use Rattle.dlms_filing.specs.declared.filing.FilingFault.{FilingFault}
use Rattle.dlms_filing.specs.declared.filing.FilingFault.TheVariants as filing
use Rattle.dlms_filing.specs.declared.filing.OpeningFault.{OpeningFault}
use Rattle.dlms_filing.specs.declared.filing.OpeningFault.TheVariants as opening
use Rattle.dlms_store.specs.Fitting.{StoreFits}
use Rattle.dlms_store.specs.World.{StoreWorld}
use Rattle.dlms_loopback.specs.Stops.{Finds, GoesAgain, IsBegun, MakesNone, StaysAway}

-- what is known of the two ends of a line, and of the place of the readings
pub record Seen : Type 0 where
  pub head : Option (List Moment)
  pub tail : Option (List Moment)
  pub asked : Option (List PlaceCall)

-- what management polls: the rows from a second on, and the columns that they have
abbrev pub plan_from : List ℕ → Option ℕ → PlanValue
plan_from secret after = record {
  client = Management;
  secret = secret;
  after = after;
  until = None;
  columns = AsksColumns;
}

-- ---- what is told of the place

-- the report of rows that were not kept, and the system's error about the place
abbrev pub TellsKeeping : Option Error → Option Error → FilingFault → RunFault → Type 0
TellsKeeping told told' filing.Memory fault = (told' ≡ told) × (fault ≡ OutOfMemory)
TellsKeeping told told' filing.Output fault = (told' ≡ told) × (fault ≡ Io)
TellsKeeping told told' (filing.Place e) fault = (told' ≡ Some e) × TellsError e fault

abbrev pub TellsKept : {T U : Type 0} → Option Error → Option Error → Result T FilingFault
    → Result U RunFault → Type 0
TellsKept told told' (Ok kept) result = (told' ≡ told) × IsOk result
TellsKept told told' (Err why) result =
    MatchResult result (λ _. ⊥) (λ fault. TellsKeeping told told' why fault)

-- the report of readings that were not opened
abbrev pub TellsOpening : Option Error → Option Error → OpeningFault → RunFault → Type 0
TellsOpening told told' (opening.Place e) fault = (told' ≡ Some e) × TellsError e fault
TellsOpening told told' (opening.Readings why) fault = (told' ≡ told) × (fault ≡ Readings why)

-- the readings of the place, or why they were not opened
abbrev pub OpensReadings : Option (List PlaceCall) → Option (List PlaceCall) → Option Error
    → Option Error → Result (List Row) RunFault → Type 0
OpensReadings old new told told' (Ok rows) = OpensRows old new (Ok rows) × (told' ≡ told)
OpensReadings old new told told' (Err fault) = (why : OpeningFault) × OpensRows old new (Err why)
    × TellsOpening told told' why fault

-- ---- a round

-- the rows of the poll that is done were kept, or could not be
abbrev pub KeepsPolled : {T : Type 0} → Seen → Seen → Option Error → Option Error → PollerValue
    → List Row → Result T RunFault → List Row → Type 0
KeepsPolled seen seen' told told' done before result after =
    (kept : Result (Unit {0}) FilingFault)
    × KeepsRows seen.asked seen'.asked before done.talk.rows kept after
    × TellsKept told told' kept result

-- the poll failed with this fault: nothing was asked of the place
abbrev pub KeepsNothing : {T : Type 0} → Seen → Seen → Option Error → Option Error → RunFault
    → List Row → Result T RunFault → List Row → Type 0
KeepsNothing seen seen' told told' fault before result after = (result ≡ Err fault)
    × Asks seen.asked seen'.asked [] × (told' ≡ told) × (after ≡ before)

-- A new poll by this plan ran over both ends of the line, and was done or failed for what happened there; and its rows were kept.
pub record ReadsRows {P A T : Type 0} {ghosts : Ghosts P} (plan : PlanValue) (seen seen' : Seen)
    (meter meter' : Meter P A ghosts) (told told' : Option Error) (before : List Row)
    (result : Result T RunFault) (after : List Row) : Type 0 where
  pub polled : Result PollerValue RunFault
  pub ends : (w : MeterWorld) → Stands meter w
      → Polls seen.head seen'.head seen.tail seen'.tail (fresh_poll plan) w meter meter' polled
  pub done : IfOk polled (IsDonePoll plan)
  pub kept : MatchResult polled (λ done. KeepsPolled seen seen' told told' done before result after)
      (λ fault. KeepsNothing seen seen' told told' fault before result after)

-- ---- rounds, one after another

-- A meter is in a world: it stands for that world, and its store fits the world's store.
pub record IsInWorld {P A : Type 0} {ghosts : Ghosts P} (meter : Meter P A ghosts) (w : MeterWorld)
    : Type 0 where
  pub stands : Stands meter w
  pub fits : StoreFits meter.store w.store

-- The meter came back from a stop and continued. Of the events before the stop it found those that were settled, and a prefix of
-- the others.
pub record Continues {A : Type 0} {ghosts : Ghosts Memory} (before : StoreWorld)
    (last : Meter Memory A ghosts) (round : ℕ) (meter : Meter Memory A ghosts) : Type 0 where
  pub goes : GoesAgain last round meter
  pub finds : Finds before goes.back

-- The meter of the next poll after this many polls: the first poll is of this one, and the power stops before each later poll.
pub record IsNext {A : Type 0} {ghosts : Ghosts Memory} (count : ℕ) (before : StoreWorld)
    (last meter : Meter Memory A ghosts) : Type 0 where
  pub first : count ≡ 0 → meter ≡ last
  pub again : 0 < count → Continues before last count meter

-- This many polls were done, each from the last row of the one before on, and their rows were kept; the first of them was of this
-- meter. The last one left the meter so. Before each poll the meter was in a world.
pub data Reads {A : Type 0} {ghosts : Ghosts Memory} (first : Meter Memory A ghosts)
    (secret : List ℕ) (seen : Seen) (before : List Row) : ℕ → Seen → List Row
    → Meter Memory A ghosts → Type 0 where
  Begun : Reads first secret seen before 0 seen before first
  Then : (count : ℕ) (mid new : Seen) (rows after : List Row)
      (last meter meter' : Meter Memory A ghosts) (told : Option Error) (w : MeterWorld)
      → Reads first secret seen before count mid rows last → IsInWorld last w
      → IsNext count w.store last meter
      → ReadsRows {T = Unit {0}} (plan_from secret
      (last_clock rows)) mid new meter meter' told told rows (Ok tt) after
      → Reads first secret seen before (count + 1) new after meter'

-- after so many rounds the next poll failed
pub record RoundFails {A : Type 0} {ghosts : Ghosts Memory} (secret : List ℕ) (count : ℕ)
    (mid new : Seen) (told told' : Option Error) (rows : List Row) (last : Meter Memory A ghosts)
    (fault : RunFault) (after : List Row) : Type 0 where
  pub meter : Meter Memory A ghosts
  pub meter' : Meter Memory A ghosts
  pub world : MeterWorld
  pub known : IsInWorld last world
  pub is_next : IsNext count world.store last meter
  pub reads : ReadsRows {T = Unit {0}} (plan_from secret
      (last_clock rows)) mid new meter meter' told told' rows (Err fault) after

-- after so many rounds, and a stop, the meter did not go on
pub record StopFails {A : Type 0} {ghosts : Ghosts Memory} (count : ℕ) (mid new : Seen)
    (told told' : Option Error) (rows : List Row) (last : Meter Memory A ghosts) (fault : RunFault)
    (after : List Row) : Type 0 where
  pub stopped : 0 < count
  pub stays_away : StaysAway last count fault
  pub unseen : new ≡ mid
  pub untold : told' ≡ told
  pub unread : after ≡ rows

-- All rounds went well; or after some of them a poll failed, or the meter did after a stop.
abbrev pub Rounds : {A T : Type 0} → {ghosts : Ghosts Memory} → Meter Memory A ghosts → List ℕ → ℕ
    → Seen → Seen → Option Error → Option Error → List Row → Result T RunFault → List Row → Type 0
Rounds {A} {T} {ghosts} first secret stops seen new told told' before (Ok done) after =
    (last : Meter Memory A ghosts) × Reads first secret seen before (stops + 1) new after last
    × (told' ≡ told)
Rounds {A} {T} {ghosts} first secret stops seen new told told' before (Err fault) after =
    (count : ℕ) × (mid : Seen) × (rows : List Row) × (last : Meter Memory A ghosts)
    × Reads first secret seen before count mid rows last × (count ≤ stops)
    × (RoundFails secret count mid new told told' rows last fault after
    ⊎ StopFails count mid new told told' rows last fault after)

-- the polls of such rounds: each is done, from the last row on, and its rows are merged
abbrev pub Polled : List ℕ → List PollerValue → List Row → List Row → Type 0
Polled secret [] before after = after ≡ before
Polled secret (done ∷ polls) before after = (mid : List Row) × Polled secret polls before mid
    × IsDonePoll (plan_from secret (last_clock mid)) done × (after ≡ merged mid done.talk.rows)

-- ---- what is printed at the end

-- The text of the readings went out; or memory ran out for it, or the output failed.
abbrev pub PrintsText : {T : Type 0} → Printed → Printed → List Row → Result T RunFault → Type 0
PrintsText printed printed' rows (Ok done) = Prints printed printed' (text_of rows)
PrintsText printed printed' rows (Err fault) =
    ((fault ≡ OutOfMemory) × (0 < length rows) × PrintsNothing printed printed')
    ⊎ (IsOfSystem fault × PrintsPart printed printed' (text_of rows))

-- these readings are what so many polls, the last one first, have added to those of before
pub record ArePolled (secret : List ℕ) (count : ℕ) (before after : List Row) : Type 0 where
  pub polls : List PollerValue
  pub counted : length polls ≡ count
  pub polled : Polled secret polls before after

-- ---- what it fails for

-- The file is held, if one is given; or that failed.
abbrev pub HoldsFile : {T : Type 0} → Option (List ℕ) → Option (List PlaceCall)
    → Option (List PlaceCall)
    → Option Error → Option Error → Result T RunFault → Type 0
HoldsFile None asked asked' told told' result = Asks asked asked' [] × (told' ≡ told) × IsOk result
HoldsFile (Some file) asked asked' told told' (Ok done) = Asks asked asked' (Holds file None ∷ [])
    × (told' ≡ told)
HoldsFile (Some file) asked asked' told told' (Err fault) = (error : Error)
    × Asks asked asked' (Holds file (Some error) ∷ []) × (told' ≡ Some error)
    × TellsError error fault

-- The two ends of the line are joined, or that failed.
abbrev pub JoinsEnds : {T : Type 0} → (head head' tail tail' : Option (List Moment))
    → Result T RunFault → Type 0
JoinsEnds head head' tail tail' (Ok done) = Adds head head' (Joins None ∷ [])
    × Adds tail tail' (Joins None ∷ [])
JoinsEnds head head' tail tail' (Err fault) = (error : Error)
    × Adds head head' (Joins (Some error) ∷ []) × Adds tail tail' (Joins (Some error) ∷ [])
    × TellsError error fault

-- the file is held, and these rows are in it
pub record HasOpened (file : Option (List ℕ)) (asked asked' : Option (List PlaceCall))
    (told : Option Error) (rows : List Row) : Type 0 where
  pub mid : Option (List PlaceCall)
  pub holds : HoldsFile {T = Unit {0}} file asked mid told told (Ok tt)
  pub opens : OpensRows mid asked' (Ok rows)

-- the last that was asked of the place was to put the text of these rows there, and that went well
pub record PutsLast (asked asked' : Option (List PlaceCall)) (rows : List Row) : Type 0 where
  pub text : List ℕ
  pub is_file : IsFile text rows
  pub front : List PlaceCall
  pub asks : Asks asked asked' (front ++ Lays text None ∷ Puts None ∷ [])

-- The rounds of a loopback that went well: the given file was held and contained these rows; a new meter was made; the two ends of
-- this line were joined; and these rounds were done over them and kept in that file, the first of them of that meter.
pub record HasPolled {A : Type 0} (ghosts : Ghosts Memory) (alloc : A) (file : Option (List ℕ))
    (secret : List ℕ) (stops : ℕ) (seen seen' : Seen) (told told' : Option Error) (after : List Row)
    : Type 0 where
  pub rows : List Row
  pub mid : Seen
  pub first : Meter Memory A ghosts
  pub opened : HasOpened file seen.asked mid.asked told rows
  pub begun : IsBegun first
  pub joined : JoinsEnds {T = Unit {0}} seen.head mid.head seen.tail mid.tail (Ok tt)
  pub rounds : Rounds {T = Unit {0}} first secret stops mid seen' told told' rows (Ok tt) after
  pub polled : ArePolled secret (stops + 1) rows after
  pub filed : PutsLast mid.asked seen'.asked after

-- A loopback: its rounds went well, and the readings after them were printed.
abbrev pub Loops : {A : Type 0} → Ghosts Memory → A → Option (List ℕ) → List ℕ → ℕ → Seen → Seen
    → Option Error → Option Error → Printed → Printed → Type 0
Loops ghosts alloc file secret stops seen seen' told told' printed printed' =
    (after : List Row) × HasPolled ghosts alloc file secret stops seen seen' told told' after
    × Prints printed printed' (text_of after)

-- nothing happened at the line
abbrev pub IsUntouched : Seen → Seen → Type 0
IsUntouched seen seen' = (seen'.head ≡ seen.head) × (seen'.tail ≡ seen.tail)

-- Why it fails: the file could not be held; no readings were opened there; no meter was made; the ends were not joined; or a round failed.
pub data LoopFails {A : Type 0} (ghosts : Ghosts Memory) (alloc : A) (file : Option (List ℕ))
    (secret : List ℕ) (stops : ℕ) (seen seen' : Seen) (told told' : Option Error)
    (fault : RunFault) : Type 0 where
  NotHeld : HoldsFile {T = Unit {0}} file seen.asked seen'.asked told told' (Err fault)
      → IsUntouched seen seen'
      → LoopFails ghosts alloc file secret stops seen seen' told told' fault
  NotOpened : (mid : Option (List PlaceCall))
      → HoldsFile {T = Unit {0}} file seen.asked mid told told (Ok tt)
      → OpensReadings mid seen'.asked told told' (Err fault) → IsUntouched seen seen'
      → LoopFails ghosts alloc file secret stops seen seen' told told' fault
  NoMeter : (rows : List Row) → HasOpened file seen.asked seen'.asked told rows
      → MakesNone ghosts alloc fault → IsUntouched seen seen' → told' ≡ told
      → LoopFails ghosts alloc file secret stops seen seen' told told' fault
  NotJoined : (rows : List Row) → HasOpened file seen.asked seen'.asked told rows
      → JoinsEnds {T = Unit {0}} seen.head seen'.head seen.tail seen'.tail (Err fault)
      → told' ≡ told
      → LoopFails ghosts alloc file secret stops seen seen' told told' fault
  RoundsFail : (rows after : List Row) (mid : Seen) (meter : Meter Memory A ghosts)
      → HasOpened file seen.asked mid.asked told rows → IsBegun meter
      → JoinsEnds {T = Unit {0}} seen.head mid.head seen.tail mid.tail (Ok tt)
      → Rounds {T = Unit {0}} meter secret stops mid seen' told told' rows (Err fault) after
      → LoopFails ghosts alloc file secret stops seen seen' told told' fault

-- It failed so, and nothing was printed; or its rounds went well, and memory ran out for the text of the readings, or the output failed.
abbrev pub Unlooped : {A : Type 0} → Ghosts Memory → A → Option (List ℕ) → List ℕ → ℕ → Seen → Seen
    → Option Error → Option Error → Printed → Printed → RunFault → Type 0
Unlooped ghosts alloc file secret stops seen seen' told told' printed printed' fault =
    (LoopFails ghosts alloc file secret stops seen seen' told told' fault
    × PrintsNothing printed printed')
    ⊎ ((rows : List Row) × HasPolled ghosts alloc file secret stops seen seen' told told' rows
    × PrintsText {T = Unit {0}} printed printed' rows (Err fault))
