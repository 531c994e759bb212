-- The meaning of a transcript's lines, and the output of their replay.
use Rattle.std.specs.Prelude.{◌≡◌, ◌≢◌, ◌⊎◌, ◌<◌, ◌≤◌, ◌+◌, ◌-◌, ◌^◌, ℕ, Bool, true, false, List, [], ◌∷◌, ◌++◌, length, Option, Some, None, Result, Ok, Err, MatchResult, ⊤}
use Rattle.std.proofs.Common.{inl, inr}
use Rattle.std.specs.Io.KnownBytes.{Appends}
use Rattle.dlms_state.specs.declared.event.Event.{Event}
use Rattle.dlms_state.specs.declared.event.Event.TheVariants.{Pulses as PulseEvent, Moment as MomentEvent}
use Rattle.dlms_state.specs.StateValue.{state_of}
use Rattle.dlms_pages.specs.declared.device.Pages.{Ghosts}
use Rattle.dlms_store.specs.World.{StoreWorld, StoreStep, Next}
use Rattle.dlms_store.specs.World.StoreWorld.{Runs}
use Rattle.dlms_store.specs.World.StoreStep.{Closes, ClosesInDoubt, Opens}
use Rattle.dlms_store.specs.Fitting.{StoreFits, IsRefusal}
use Rattle.dlms_store.specs.declared.fault.OpenFault.{OpenFault}
use Rattle.dlms_store.specs.declared.fault.OpenFault.TheVariants as opening
use Rattle.dlms_store.specs.declared.fault.AddFault.{AddFault}
use Rattle.dlms_store.specs.declared.fault.AddFault.TheVariants as add
use Rattle.dlms_program.specs.Calls.{Calls, Fails, Passes}
use Rattle.dlms_program.specs.Health.{ClosesIll, IsClosed, IsFedBy, IsGone, IsMade, IsToldBy, MeetsFault, Reaches, StaysClosed}
use Rattle.dlms_program.specs.declared.fault.ReplayFault.{ReplayFault}
use Rattle.dlms_program.specs.declared.fault.ReplayFault.TheVariants.{Line, Io, Memory, Recovery}
use Rattle.dlms_program.specs.declared.orders.Order.{Order}
use Rattle.dlms_program.specs.declared.orders.Order.TheVariants.{Skip, Feed, Pulses, Moment, Silence, Open, Show}
use Rattle.dlms_program.specs.Lines.{HasNoFeed, lines_of}
use Rattle.dlms_meter.specs.declared.meter.Meter.{Meter}
use Rattle.dlms_program.specs.Orders.{Spells}
use Rattle.dlms_program.specs.Printed.{reply_line, reply_lines, refusal_line, fault_line, open_line, open_fault_line, state_line}
use Rattle.dlms_program.specs.Written.{AppendsPart}
use Rattle.dlms_meter.specs.Run.{MeterWorld, Comes, IsRunningIn, Judged, events_of, recovered, silent, Stands}
use Rattle.dlms_meter.specs.Healthy.{AreServed, IsDecided}
use Rattle.dlms_meter.specs.Steps.{Idled, IsCall}

-- what is written of an event: nothing, why it was refused, or the number of the fault for which it was not taken
abbrev pub outcome_line : Result (Unit {0}) AddFault → List ℕ
outcome_line (Ok done) = []
outcome_line (Err (add.Refused cause)) = refusal_line cause
outcome_line (Err add.Device) = fault_line 2
outcome_line (Err add.Stopped) = fault_line 3
outcome_line (Err add.Exhausted) = fault_line 4

-- an event is judged, and its refusal or fault written
abbrev pub TellsOutcome : MeterWorld → Event → MeterWorld → List ℕ → Type 0
TellsOutcome w event w' written = (outcome : Result (Unit {0}) AddFault) × (step : StoreStep)
    × Judged w event outcome step w' × (written ≡ outcome_line outcome)

-- A store is closed, which settles the pending events; or that fails, because the device fails or failed earlier, or the generation
-- is exhausted, and the pending events are in doubt. Then its device is opened, and these events are found.
abbrev pub Reopens : StoreWorld → List Event → Type 0
Reopens before found = (closed : StoreWorld)
    × (Next before Closes closed ⊎ Next before ClosesInDoubt closed)
    × Next closed (Opens found) (Runs found [])

-- The events found if the device keeps the disk rules. Nothing is known of another device.
abbrev pub Finds : Bool → StoreWorld → List Event → Type 0
Finds true before found = Reopens before found
Finds false before found = Unit {0}

-- From one world an order, with its bytes, leads to another, and writes this. The flag states whether the device keeps the rules.
abbrev pub Does : Bool → MeterWorld → List ℕ → Order → MeterWorld → List ℕ → Type 0
Does honest w bytes Skip w' written = (w' ≡ w) × (written ≡ [])
Does honest w bytes Feed w' written = (replies : List (List ℕ)) × Comes w bytes replies w'
    × (written ≡ reply_lines replies)
Does honest w bytes (Pulses channel count) w' written =
    TellsOutcome w (PulseEvent channel count) w' written
Does honest w bytes (Moment second) w' written = TellsOutcome w (MomentEvent second) w' written
Does honest w bytes Silence w' written = (w' ≡ silent w) × (written ≡ [])
Does honest w bytes Open w' written = (found : List Event) × Finds honest w.store found
    × (w' ≡ recovered found) × (written ≡ open_line)
Does honest w bytes Show w' written = (w' ≡ w) × (written ≡ state_line (state_of (events_of w)))

-- if the device keeps the rules, every accepted event is found
abbrev pub FindsAll : Bool → MeterWorld → List Event → Type 0
FindsAll true w found = found ≡ events_of w
FindsAll false w found = Unit {0}

-- No frame of it is answered with the device's fault, no event meets one, and a recovery finds all.
abbrev pub LineGoesWell : (honest : Bool) (w : MeterWorld) (bytes : List ℕ) (order : Order)
    (w' : MeterWorld) (written : List ℕ) → Does honest w bytes order w' written → Type 0
LineGoesWell honest w bytes Skip w' written does = Unit {0}
LineGoesWell honest w bytes Feed w' written (replies, comes, is) = AreServed comes.turns
LineGoesWell honest w bytes (Pulses channel count) w' written (outcome, step, judged, is) =
    IsDecided outcome
LineGoesWell honest w bytes (Moment second) w' written (outcome, step, judged, is) =
    IsDecided outcome
LineGoesWell honest w bytes Silence w' written does = Unit {0}
LineGoesWell honest w bytes Open w' written (found, finds, leads, is) = FindsAll honest w found
LineGoesWell honest w bytes Show w' written does = Unit {0}

-- The calls of the meter that a line makes, from the meter before it to the one after it. A fault that the line reports has its
-- cause in these calls. If a store that ran is opened with less than it held, its close met a fault, or a checkpoint was wanting.
abbrev pub LineCalls : {P A : Type 0} → {ghosts : Ghosts P}
    → (honest : Bool) (w : MeterWorld) (bytes : List ℕ) (order : Order) (w' : MeterWorld)
    (written : List ℕ)
    → Does honest w bytes order w' written → (old new : Meter P A ghosts) → Type 0
LineCalls honest w bytes Skip w' written does old new = new ≡ old
LineCalls honest w bytes Feed w' written (replies, comes, is) old new =
    IsFedBy old bytes comes.turns new
LineCalls honest w bytes (Pulses channel count) w' written (outcome, step, judged, is) old new =
    IsToldBy (PulseEvent channel count) outcome old new
LineCalls honest w bytes (Moment second) w' written (outcome, step, judged, is) old new =
    IsToldBy (MomentEvent second) outcome old new
LineCalls honest w bytes Silence w' written does old new = IsCall old Idled new
LineCalls {P} {A} {ghosts} honest w bytes Open w' written (found, finds, leads, is) old new =
    (device : P) × IsClosed old device × IsMade device new
    × (IsRunningIn w.store → FindsAll honest w found ⊎ ClosesIll old.store (ghosts.view device))
LineCalls honest w bytes Show w' written does old new = new ≡ old

-- a relation of two meters that are both there
abbrev pub AreBoth : {P A : Type 0} → {ghosts : Ghosts P}
    → (Meter P A ghosts → Meter P A ghosts → Type 0) → (old new : Option (Meter P A ghosts))
    → Type 0
AreBoth Is (Some old) (Some new) = Is old new
AreBoth Is _ _ = ⊥

-- why a meter that was closed may not be recovered
abbrev pub MayStayClosed : Bool → OpenFault → Type 0
MayStayClosed true fault = IsRefusal fault
MayStayClosed false fault = Unit {0}

-- out of memory, if the device keeps the rules; of another one it is only known that it did not fail
abbrev pub LacksMemory : Bool → OpenFault → Type 0
LacksMemory true fault = fault ≡ opening.Memory
LacksMemory false fault = fault ≢ opening.Device

-- ---- what a meter stands for

-- the meter stands for the world and, if its device keeps the rules, so do the device's contents
abbrev pub IsAt : {P A : Type 0} → {ghosts : Ghosts P} → Bool → Meter P A ghosts → MeterWorld
    → Type 0
IsAt true meter w = Stands meter w × StoreFits meter.store w.store
IsAt false meter w = Stands meter w

-- there is a meter, which stands for the world, or there is neither
abbrev pub IsLeft : {P A : Type 0} → {ghosts : Ghosts P} → Bool → Option (Meter P A ghosts)
    → Option MeterWorld → Type 0
IsLeft honest (Some meter) (Some w) = IsAt honest meter w
IsLeft honest None None = Unit {0}
IsLeft honest _ _ = ⊥

-- An order was carried out on a meter: the world that it then stands for, the text written, and its calls, with the causes of the
-- faults that it reports. If the store ran, it went well, or a call of it met a device fault.
pub record Did {P A : Type 0} {ghosts : Ghosts P} (honest : Bool) (old new : Option (List ℕ))
    (w : MeterWorld) (bytes : List ℕ) (order : Order) (start meter : Option (Meter P A ghosts))
    : Type 0 where
  pub world : MeterWorld
  pub written : List ℕ
  pub does : Does honest w bytes order world written
  pub calls : AreBoth (LineCalls honest w bytes order world written does) start meter
  pub reaches : Reaches start meter
  pub well : IsRunningIn w.store
      → LineGoesWell honest w bytes order world written does ⊎ MeetsFault start meter
  pub left : IsLeft honest meter (Some world)
  pub appends : Appends old new written

-- The effect of an order whose answer could not be written whole: this was written before the part. A piece of bytes is taken up to
-- the frame with that reply.
abbrev pub DoesPart : Bool → MeterWorld → List ℕ → Order → MeterWorld → (before told : List ℕ)
    → Type 0
DoesPart honest w bytes Feed w' before told =
    (front : List ℕ) × (rest : List ℕ) × (front ++ rest ≡ bytes) × (replies : List (List ℕ))
    × (reply : List ℕ)
    × Comes w front (replies ++ reply ∷ []) w' × (before ≡ reply_lines replies)
    × (told ≡ reply_line reply)
DoesPart honest w bytes order w' before told = (before ≡ []) × Does honest w bytes order w' told

-- it goes well up to there
abbrev pub PartGoesWell : (honest : Bool) (w : MeterWorld) (bytes : List ℕ) (order : Order)
    (w' : MeterWorld) (before told : List ℕ) → DoesPart honest w bytes order w' before told → Type 0
PartGoesWell honest w bytes Feed w' before told
    (front, rest, cut, replies, reply, comes, is, last) = AreServed comes.turns
PartGoesWell honest w bytes Skip w' before told (none, does) =
    LineGoesWell honest w bytes Skip w' told does
PartGoesWell honest w bytes (Pulses channel count) w' before told (none, does) =
    LineGoesWell honest w bytes (Pulses channel count) w' told does
PartGoesWell honest w bytes (Moment second) w' before told (none, does) =
    LineGoesWell honest w bytes (Moment second) w' told does
PartGoesWell honest w bytes Silence w' before told (none, does) =
    LineGoesWell honest w bytes Silence w' told does
PartGoesWell honest w bytes Open w' before told (none, does) =
    LineGoesWell honest w bytes Open w' told does
PartGoesWell honest w bytes Show w' before told (none, does) =
    LineGoesWell honest w bytes Show w' told does

-- the calls that it made up to there
abbrev pub PartCalls : {P A : Type 0} → {ghosts : Ghosts P}
    → (honest : Bool) (w : MeterWorld) (bytes : List ℕ) (order : Order) (w' : MeterWorld)
    (before told : List ℕ)
    → DoesPart honest w bytes order w' before told → (old new : Meter P A ghosts) → Type 0
PartCalls honest w bytes Feed w' before told
    (front, rest, cut, replies, reply, comes, is, last) old new = IsFedBy old front comes.turns new
PartCalls honest w bytes Skip w' before told (none, does) old new =
    LineCalls honest w bytes Skip w' told does old new
PartCalls honest w bytes (Pulses channel count) w' before told (none, does) old new =
    LineCalls honest w bytes (Pulses channel count) w' told does old new
PartCalls honest w bytes (Moment second) w' before told (none, does) old new =
    LineCalls honest w bytes (Moment second) w' told does old new
PartCalls honest w bytes Silence w' before told (none, does) old new =
    LineCalls honest w bytes Silence w' told does old new
PartCalls honest w bytes Open w' before told (none, does) old new =
    LineCalls honest w bytes Open w' told does old new
PartCalls honest w bytes Show w' before told (none, does) old new =
    LineCalls honest w bytes Show w' told does old new

-- so it was done on a meter
pub record DidPart {P A : Type 0} {ghosts : Ghosts P} (honest : Bool) (old new : Option (List ℕ))
    (w : MeterWorld) (bytes : List ℕ) (order : Order) (start meter : Option (Meter P A ghosts))
    : Type 0 where
  pub world : MeterWorld
  pub before : List ℕ
  pub told : List ℕ
  pub does : DoesPart honest w bytes order world before told
  pub calls : AreBoth (PartCalls honest w bytes order world before told does) start meter
  pub reaches : Reaches start meter
  pub well : IsRunningIn w.store
      → PartGoesWell honest w bytes order world before told does ⊎ MeetsFault start meter
  pub left : IsLeft honest meter (Some world)
  pub mid : Option (List ℕ)
  pub appends : Appends old mid before
  pub breaks : AppendsPart mid new told

-- what came of an order on a meter that is there afterwards: the writer may have failed
abbrev pub Obeyed : {P A : Type 0} → {ghosts : Ghosts P} → {T E : Type 0} → Bool → Option (List ℕ)
    → Option (List ℕ) → MeterWorld → List ℕ → Order → Result T E
    → (start meter : Option (Meter P A ghosts)) → Type 0
Obeyed honest old new w bytes order result start meter =
    MatchResult result (λ _. Did honest old new w bytes order start meter)
    (λ _. DidPart honest old new w bytes order start meter)

-- the meter was closed and not recovered: it is gone, and this is left of writing why
pub record Gone {P A : Type 0} {ghosts : Ghosts P} (honest : Bool) (Told : List ℕ
    → Type 0) (order : Order) (start meter : Option (Meter P A ghosts)) : Type 0 where
  pub opens : order ≡ Open
  pub fault : OpenFault
  pub may : MayStayClosed honest fault
  pub old : Meter P A ghosts
  pub is : start ≡ Some old
  pub stays : StaysClosed old fault
  pub gone : IsGone start fault
  pub lacks : LacksMemory honest fault ⊎ MeetsFault start meter
  pub none : IsLeft honest meter None
  pub told : Told (open_fault_line fault)

-- what came of an order
abbrev pub Followed : {P A : Type 0} → {ghosts : Ghosts P} → Bool → Option (List ℕ)
    → Option (List ℕ) → MeterWorld → List ℕ → Order → Result (Unit {0}) ReplayFault
    → (start meter : Option (Meter P A ghosts)) → Type 0
Followed honest old new w bytes order (Ok done) start meter =
    Did honest old new w bytes order start meter
Followed honest old new w bytes order (Err Recovery) start meter =
    Gone honest (Appends old new) order start meter
Followed honest old new w bytes order (Err Io) start meter =
    DidPart honest old new w bytes order start meter
    ⊎ Gone honest (AppendsPart old new) order start meter
Followed honest old new w bytes order (Err _) start meter = ⊥

-- ---- the lines of a text

-- a line that is too long, or says nothing known
abbrev pub IsBad : List ℕ → Type 0
IsBad line = (8192 < length line) ⊎ ((bytes : List ℕ) (order : Order) → Spells line bytes order → ⊥)

-- how a replay ends by its own rules: with the text, at a bad line, or when the meter was closed and not recovered
pub data End : Type 0 where
  Whole : End
  Bad : (number : ℕ) → End
  Closed : (fault : OpenFault) → End

-- From a world, the lines from that number on write this, up to such an end, and lead to that world, or to none if the meter is
-- gone.
abbrev pub Replays : Bool → MeterWorld → ℕ → List (List ℕ) → List ℕ → End → Option MeterWorld
    → Type 0
Replays honest w number [] written end last = (written ≡ []) × (end ≡ Whole) × (last ≡ Some w)
Replays honest w number (line ∷ lines) written end last =
    (IsBad line × (written ≡ []) × (end ≡ Bad number) × (last ≡ Some w))
    ⊎ ((bytes : List ℕ) × Spells line bytes Open × (fault : OpenFault) × MayStayClosed honest fault
    × (written ≡ open_fault_line fault) × (end ≡ Closed fault) × (last ≡ None))
    ⊎ ((length line ≤ 8192) × (bytes : List ℕ) × (order : Order) × (w' : MeterWorld)
    × (first : List ℕ) × (rest : List ℕ)
    × Spells line bytes order × Does honest w bytes order w' first
    × Replays honest w' (number + 1) lines rest end last × (written ≡ first ++ rest))

-- So goes each line that was done. A meter that was closed is not recovered for want of memory alone.
abbrev pub GoesWell : (honest : Bool) (w : MeterWorld) (number : ℕ) (lines : List (List ℕ))
    (written : List ℕ) (end : End) (last : Option MeterWorld)
    → Replays honest w number lines written end last → Type 0
GoesWell honest w number [] written end last replays = Unit {0}
GoesWell honest w number (line ∷ lines) written end last (inl bad) = Unit {0}
GoesWell honest w number (line ∷ lines) written end last
    (inr (inl (bytes, spells, fault, may, is, closed, none))) = LacksMemory honest fault
GoesWell honest w number (line ∷ lines) written end last
    (inr (inr (short, bytes, order, w', first, rest, spells, does, replays, joins))) =
    LineGoesWell honest w bytes order w' first does
    × GoesWell honest w' (number + 1) lines rest end last replays

-- Its calls, line by line, from the first meter to the last: each line's own calls lead from the meter before it to the one after
-- it, which stands for the world that the line led to. So each fault that is written has its cause in its own line.
abbrev pub ReplayCalls : {P A : Type 0} → {ghosts : Ghosts P}
    → (honest : Bool) (w : MeterWorld) (number : ℕ) (lines : List (List ℕ)) (written : List ℕ)
    (end : End)
    (last : Option MeterWorld) → Replays honest w number lines written end last
    → (start : Meter P A ghosts) (finish : Option (Meter P A ghosts)) → Type 0
ReplayCalls honest w number [] written end last replays start finish = finish ≡ Some start
ReplayCalls honest w number (line ∷ lines) written end last (inl bad) start finish =
    finish ≡ Some start
ReplayCalls honest w number (line ∷ lines) written end last
    (inr (inl (bytes, spells, fault, may, is, closed, none))) start finish = StaysClosed start fault
    × (finish ≡ None)
ReplayCalls {P} {A} {ghosts} honest w number (line ∷ lines) written end last
    (inr (inr (short, bytes, order, w', first, rest, spells, does, replays, joins))) start finish =
    (mid : Meter P A ghosts) × LineCalls honest w bytes order w' first does start mid
    × IsAt honest mid w'
    × ReplayCalls honest w' (number + 1) lines rest end last replays mid finish

-- Such a replay. If the store runs initially, it goes well, or this is true.
abbrev pub ReplaysOr : Type 0 → Bool → MeterWorld → ℕ → List (List ℕ) → List ℕ → End
    → Option MeterWorld → Type 0
ReplaysOr Fault honest w number lines written end last =
    (replays : Replays honest w number lines written end last)
    × (IsRunningIn w.store → GoesWell honest w number lines written end last replays ⊎ Fault)

-- Such a replay on a meter, by the calls of its lines. If the store runs initially, it goes well, or a call of it met a device
-- fault.
pub record ReplaysOn {P A : Type 0} {ghosts : Ghosts P} (honest : Bool) (w : MeterWorld)
    (number : ℕ) (lines : List (List ℕ)) (written : List ℕ) (end : End)
    (last : Option MeterWorld) (start finish : Option (Meter P A ghosts)) : Type 0 where
  pub run : ReplaysOr (MeetsFault start finish) honest w number lines written end last
  pub first : Meter P A ghosts
  pub is : start ≡ Some first
  pub calls : ReplayCalls honest w number lines written end last run.0 first finish

-- A replay of these lines came to such an end: it wrote exactly their output, and the meter stands for the world that they led to.
abbrev pub EndedBy : {P A : Type 0} → {ghosts : Ghosts P} → Bool → Option (List ℕ) → Option (List ℕ)
    → MeterWorld → List (List ℕ) → End → (start meter : Option (Meter P A ghosts)) → Type 0
EndedBy honest old new w lines end start meter =
    (written : List ℕ) × (last : Option MeterWorld) × Appends old new written
    × ReplaysOn honest w 1 lines written end last start meter × IsLeft honest meter last

-- the same for the lines of a known text, and for some lines if the text is not known
abbrev pub Ended : {P A : Type 0} → {ghosts : Ghosts P} → Bool → Option (List ℕ) → Option (List ℕ)
    → MeterWorld → Option (List ℕ) → End → (start meter : Option (Meter P A ghosts)) → Type 0
Ended honest old new w None end start meter = (lines : List (List ℕ))
    × EndedBy honest old new w lines end start meter
Ended honest old new w (Some text) end start meter =
    EndedBy honest old new w (lines_of text) end start meter

-- ---- a replay that is broken off

-- The reader gave no more: lines were read and done, and of one more a part was read.
pub record ReadNoMore {P A : Type 0} {ghosts : Ghosts P} (honest : Bool) (old new : Option (List ℕ))
    (w : MeterWorld) (text left : List ℕ) (start meter : Option (Meter P A ghosts)) : Type 0 where
  pub done : List (List ℕ)
  pub part : List ℕ
  pub cut : lines_of text ≡ done ++ lines_of (part ++ left)
  pub no_feed : HasNoFeed part
  pub world : MeterWorld
  pub written : List ℕ
  pub are : ReplaysOn honest w 1 done written Whole (Some world) start meter
  pub left_is : IsLeft honest meter (Some world)
  pub appends : Appends old new written

-- The writer took no more: lines were read and done, and one more was read, whose answer was written in part.
pub record WroteNoMore {P A : Type 0} {ghosts : Ghosts P} (honest : Bool)
    (old new : Option (List ℕ)) (w : MeterWorld) (text left : List ℕ)
    (start meter : Option (Meter P A ghosts)) : Type 0 where
  pub done : List (List ℕ)
  pub line : List ℕ
  pub cut : lines_of text ≡ done ++ line ∷ lines_of left
  pub world : MeterWorld
  pub written : List ℕ
  pub behind : Option (Meter P A ghosts)
  pub reaches : Reaches start behind
  pub are : ReplaysOn honest w 1 done written Whole (Some world) start behind
  pub mid : Option (List ℕ)
  pub appends : Appends old mid written
  pub bytes : List ℕ
  pub order : Order
  pub spells : Spells line bytes order
  pub short : length line ≤ 8192
  pub breaks : Followed honest mid new world bytes order (Err Io) behind meter

-- this statement about known bytes, and about the rest of them
abbrev pub IfKnown : Option (List ℕ) → Option (List ℕ) → (List ℕ → List ℕ → Type 0) → Type 0
IfKnown None left Said = ⊤
IfKnown (Some text) None Said = ⊥
IfKnown (Some text) (Some left) Said = Said text left

-- 2^32 - 1 lines were done, and none of the next one was read
pub record LinesUsedUp {P A : Type 0} {ghosts : Ghosts P} (honest : Bool)
    (old new : Option (List ℕ)) (w : MeterWorld) (text left : List ℕ)
    (start meter : Option (Meter P A ghosts)) : Type 0 where
  pub read : ReadNoMore honest old new w text left start meter
  pub none : read.part ≡ []
  pub many : length read.done ≡ 2 ^ 32 - 1

-- A replay of a text, with this rest, by these calls of the reader and of the writer. `Io` is answered if the last call of one of
-- them failed, or if 2^32 - 1 lines were done, by as many reads or more. In any other case no call failed.
abbrev pub WroteReplay : {P A : Type 0} → {ghosts : Ghosts P} → Bool
    → (reads reads' writes writes' : Option Calls) → Option (List ℕ) → Option (List ℕ) → MeterWorld
    → Option (List ℕ) → Option (List ℕ) → Result (Unit {0}) ReplayFault
    → (start meter : Option (Meter P A ghosts)) → Type 0
WroteReplay honest reads reads' writes writes' old new w text left (Ok done) start meter =
    Passes 0 reads reads' × Passes 0 writes writes' × Ended honest old new w text Whole start meter
WroteReplay honest reads reads' writes writes' old new w text left (Err (Line number)) start meter =
    Passes 0 reads reads' × Passes 0 writes writes'
    × Ended honest old new w text (Bad number) start meter
WroteReplay honest reads reads' writes writes' old new w text left (Err Recovery) start meter =
    Passes 0 reads reads' × Passes 0 writes writes' × (fault : OpenFault) × IsGone start fault
    × Ended honest old new w text (Closed fault) start meter
WroteReplay honest reads reads' writes writes' old new w text left (Err Memory) start meter = ⊥
WroteReplay honest reads reads' writes writes' old new w text left (Err Io) start meter =
    (Fails reads reads' × Passes 0 writes writes'
    × IfKnown text left (λ text left. ReadNoMore honest old new w text left start meter))
    ⊎ (Passes 0 reads reads' × Fails writes writes'
    × IfKnown text left (λ text left. WroteNoMore honest old new w text left start meter))
    ⊎ (Passes (2 ^ 32 - 1) reads reads' × Passes 0 writes writes'
    × IfKnown text left (λ text left. LinesUsedUp honest old new w text left start meter))
