-- Where no call met a fault of the device.
use Rattle.std.proofs.Common.{arith, refl, sym, ap, subst, inl, inr, ◌∙◌, ◌≡◌, ◌⊎◌, ◌+◌, ◌-◌, ◌^◌, min, ℕ, Bool, true, false, List, [], ◌∷◌, ◌++◌}
use Rattle.std.specs.Prelude.{Option, Some, None, Result, Ok, Err, ◌≢◌}
use Rattle.std.proofs.lemmas.Bool.{cases_eq, cases_lt}
use Rattle.dlms_pages.specs.Device.{View, Rose}
use Rattle.dlms_pages.specs.declared.device.Pages.{Ghosts}
use Rattle.dlms_state.specs.declared.event.Event.{Event}
use Rattle.dlms_store.specs.Store.{CommitIsExhausted, IsFull, IsLast, IsStopped, records_in, view_of}
use Rattle.dlms_store.specs.Going.{Knows, IsAdd}
use Rattle.dlms_store.specs.World.{StoreWorld, StoreStep, Next, StoreRun}
use Rattle.dlms_store.specs.World.StoreWorld.{Runs, InDoubt, Rests}
use Rattle.dlms_store.specs.World.StoreStep.{Adds, AddsBehind, Settles, Closes, Opens}
use Rattle.dlms_store.specs.declared.fault.OpenFault.{OpenFault}
use Rattle.dlms_store.specs.declared.fault.OpenFault.TheVariants as opening
use Rattle.dlms_store.specs.Fitting.{DeviceFits, IsRefusal}
use Rattle.dlms_store.specs.declared.fault.AddFault.{AddFault}
use Rattle.dlms_store.specs.declared.fault.AddFault.TheVariants.{Refused, Device, Stopped, Exhausted}
use Rattle.dlms_store.specs.declared.store.Store.{Store}
use Rattle.dlms_meter.specs.declared.meter.Meter.{Meter}
use Rattle.dlms_meter.specs.Healthy.{IsServed, AreServed, IsDecided}
use Rattle.dlms_meter.specs.Run.{MeterWorld, Answers, Choice, Served, DeviceFails, MayChoose, JudgedFor, Judged, IsRunningIn, IsStoppedIn, IsTaking, IsTurn, IsUncalled, Stored, StoredFor, Turn, after_turn, events_in, grown, recovered, silent}
use Rattle.dlms_meter.specs.Steps.{Call, IsCall}
use Rattle.dlms_program.specs.Health.{ClosesIll, IsGone, IsRefused, Leads, MeetsFault, OpensIll, Reaches, ServesIll}
use Rattle.dlms_program.specs.Health.MeetsFault.{InCall, InClose, InOpen}
use Rattle.dlms_program.specs.Health.Reaches.{Here, Further}
use Rattle.dlms_program.specs.Replay.{Does, GoesWell, LineGoesWell, Replays}
use Rattle.dlms_program.specs.Replay.End.{Whole}
use Rattle.dlms_program.specs.declared.orders.Order.{Order}
use Rattle.dlms_program.specs.declared.orders.Order.TheVariants.{Skip, Feed, Pulses, Moment, Silence, Open, Show}
use Rattle.dlms_state.specs.declared.event.Event.TheVariants.{Pulses as PulseEvent, Moment as MomentEvent}

-- ---- moments

pub joined : {P A : Type 0} {ghosts : Ghosts P} (a b c : Option (Meter P A ghosts)) → Reaches a b → Reaches b c → Reaches a c
joined a b c first Here = first
joined a b c first (Further mid new second leads) = Further mid new (joined a b mid first second) leads

pub at_once : {P A : Type 0} {ghosts : Ghosts P} (old new : Option (Meter P A ghosts)) → Leads old new → Reaches old new
at_once old new leads = Further old new Here leads

-- it was gone in a later line
abbrev pub gone_behind : {P A : Type 0} → {ghosts : Ghosts P} → (a b : Option (Meter P A ghosts)) (fault : OpenFault) → Reaches a b → IsGone b fault → IsGone a fault
gone_behind a b fault first gone = record { old = gone.old; reaches = joined a b (Some gone.old) first gone.reaches; device = gone.device; closed = gone.closed; back = gone.back; refused = gone.refused }

pub gone_reaches : {P A : Type 0} {ghosts : Ghosts P} (a : Option (Meter P A ghosts)) (fault : OpenFault) → IsGone a fault → Reaches a None
gone_reaches a fault gone = Further (Some gone.old) None gone.reaches (gone.device, gone.closed, (gone.back, fault, gone.refused))

pub fault_first : {P A : Type 0} {ghosts : Ghosts P} (a b c : Option (Meter P A ghosts)) → Reaches b c → MeetsFault a b → MeetsFault a c
fault_first a b c more (InCall old new call before is behind ill) = InCall old new call before is (joined (Some new) b c behind more) ill
fault_first a b c more (InClose old device new before closed recovered behind ill) = InClose old device new before closed recovered (joined new b c behind more) ill
fault_first a b c more (InOpen fault gone behind ill) = InOpen fault gone (joined None b c behind more) ill

pub fault_last : {P A : Type 0} {ghosts : Ghosts P} (a b c : Option (Meter P A ghosts)) → Reaches a b → MeetsFault b c → MeetsFault a c
fault_last a b c first (InCall old new call before is behind ill) = InCall old new call (joined a b (Some old) first before) is behind ill
fault_last a b c first (InClose old device new before closed recovered behind ill) = InClose old device new (joined a b (Some old) first before) closed recovered behind ill
fault_last a b c first (InOpen fault gone behind ill) = InOpen fault (gone_behind a b fault first gone) behind ill

pub fault_in_call : {P A : Type 0} {ghosts : Ghosts P} (old new : Meter P A ghosts) (call : Call) → IsCall old call new → ServesIll old.store new.store → MeetsFault (Some old) (Some new)
fault_in_call old new call is ill = InCall old new call Here is Here ill

-- either of two
pub well_or : {X Y A B : Type 0} → (X → Y) → (A → B) → X ⊎ A → Y ⊎ B
well_or f g (inl x) = inl (f x)
well_or f g (inr a) = inr (g a)

-- ---- a frame, an event

not_both : (b : Bool) → b ≡ true → b ≡ false → ⊥
not_both b is other = cc

-- a choice that a call may take on a running store
pub served : {P A : Type 0} {ghosts : Ghosts P} (old new : Store P A ghosts) (choice : Choice) → (IsStopped old → ⊥) → MayChoose old new choice → IsServed choice ⊎ ServesIll old new
served old new (Served memory) running may = inl tt
served old new (DeviceFails kept wanted) running (inl rose) = inr (inl rose)
served old new (DeviceFails kept wanted) running (inr (inl stopped)) = absurd (running stopped)
served old new (DeviceFails kept wanted) running (inr (inr (inl commit))) = inr (inr (inl commit))
served old new (DeviceFails kept wanted) running (inr (inr (inr (event, is, exhausted)))) = inr (inr (inr (event, inr exhausted)))

pub one_more : (turns : List Turn) (turn : Turn) → AreServed turns → IsServed turn.choice → AreServed (turns ++ turn ∷ [])
one_more [] turn are is = (is, tt)
one_more (first ∷ turns) turn are is = (are.0, one_more turns turn are.1 is)

-- the store of a running world is not stopped
pub not_stopped : {P A : Type 0} {ghosts : Ghosts P} (store : Store P A ghosts) (w : StoreWorld) → Knows store w → IsRunningIn w → IsStopped store → ⊥
not_stopped store (Runs s p) knows is stopped = not_both store.stopped stopped knows.0
not_stopped store (InDoubt s p) knows is stopped = absurd is
not_stopped store (Rests events) knows is stopped = absurd is

not_doubted : (w : StoreWorld) → IsRunningIn w → IsStoppedIn w → ⊥
not_doubted (Runs s p) is stopped = stopped
not_doubted (InDoubt s p) is stopped = is
not_doubted (Rests events) is stopped = is

pub decided : {P A : Type 0} {ghosts : Ghosts P} (old new : Meter P A ghosts) (event : Event) (outcome : Result (Unit {0}) AddFault) (step : StoreStep) (w w' : MeterWorld) → IsRunningIn w.store
    → Judged w event outcome step w' → JudgedFor event outcome old.store new.store → IsDecided outcome ⊎ ServesIll old.store new.store
decided old new event (Ok done) step w w' running judged cause = inl tt
decided old new event (Err (Refused why)) step w w' running judged cause = inl tt
decided old new event (Err Device) step w w' running judged cause = inr (inl cause)
decided old new event (Err Stopped) step w w' running judged cause = absurd (not_doubted w.store running judged.0)
decided old new event (Err Exhausted) step w w' running judged cause = inr (inr (inr (event, inl cause)))

-- ---- a store that runs on

one_step : (event : Event) (step : StoreStep) (w now : StoreWorld) → IsAdd event step → IsRunningIn w → Next w step now → IsRunningIn now
one_step event step (Runs s p) now (inl is) running next =
    let there : Next (Runs s p) (Adds event) now = subst (λ (x : StoreStep). Next (Runs s p) x now) is next in subst IsRunningIn (sym there.0) tt
one_step event step (Runs s p) now (inr is) running next =
    let there : Next (Runs s p) (AddsBehind event) now = subst (λ (x : StoreStep). Next (Runs s p) x now) is next in subst IsRunningIn (sym there.0) tt
one_step event step (InDoubt s p) now is running next = absurd running
one_step event step (Rests events) now is running next = absurd running

settled_runs : (w now : StoreWorld) → IsRunningIn w → Next w Settles now → IsRunningIn now
settled_runs (Runs s p) now running next = subst IsRunningIn (sym next) tt
settled_runs (InDoubt s p) now running next = absurd running
settled_runs (Rests events) now running next = absurd running

settling_runs : (accepted : List Event) (taking steps : List StoreStep) (w now : StoreWorld) → IsTaking accepted taking → steps ≡ taking ++ Settles ∷ [] → IsRunningIn w → StoreRun w steps now → IsRunningIn now
settling_runs [] taking steps w now none is running run =
    let only : steps ≡ Settles ∷ [] = is ∙ ap (λ (xs : List StoreStep). xs ++ Settles ∷ []) none in
    let there : StoreRun w (Settles ∷ []) now = subst (λ (xs : List StoreStep). StoreRun w xs now) only run in
    subst IsRunningIn (sym there.2) (settled_runs w there.0 running there.1)
settling_runs (event ∷ []) taking steps w now (step, add, one) is running run =
    let only : steps ≡ step ∷ Settles ∷ [] = is ∙ ap (λ (xs : List StoreStep). xs ++ Settles ∷ []) one in
    let there : StoreRun w (step ∷ Settles ∷ []) now = subst (λ (xs : List StoreStep). StoreRun w xs now) only run in
    subst IsRunningIn (sym there.2.2) (settled_runs there.0 there.2.0 (one_step event step w there.0 add running there.1) there.2.1)
settling_runs (event ∷ other ∷ more) taking steps w now taken is running run = absurd taken

uncalled_runs : (accepted : List Event) (steps : List StoreStep) (w now : StoreWorld) → IsUncalled accepted steps → IsRunningIn w → StoreRun w steps now → IsRunningIn now
uncalled_runs accepted steps w now uncalled running run =
    let there : StoreRun w [] now = subst (λ (xs : List StoreStep). StoreRun w xs now) uncalled.1 run in
    subst IsRunningIn (sym there) running

stored_runs : (success : Bool) (accepted : List Event) (steps : List StoreStep) (w now : StoreWorld) → StoredFor success accepted steps → IsRunningIn w → StoreRun w steps now → IsRunningIn now
stored_runs true accepted steps w now (taking, are, is) running run = settling_runs accepted taking steps w now are is running run
stored_runs false accepted steps w now uncalled running run = uncalled_runs accepted steps w now uncalled running run

answer_runs : (choice : Choice) (answer : Option (List ℕ)) (accepted : List Event) (steps : List StoreStep) (w now : StoreWorld) → IsServed choice → Stored choice answer accepted steps → IsRunningIn w → StoreRun w steps now → IsRunningIn now
answer_runs choice None accepted steps w now is uncalled running run = uncalled_runs accepted steps w now uncalled running run
answer_runs (Served memory) (Some answer) accepted steps w now is stored running run = stored_runs _ accepted steps w now stored running run
answer_runs (DeviceFails kept wanted) (Some answer) accepted steps w now is stored running run = absurd is

pub turn_runs : (w : MeterWorld) (turn : Turn) → IsTurn w turn → IsServed turn.choice → IsRunningIn w.store → IsRunningIn turn.store
turn_runs w turn is served running = answer_runs turn.choice turn.answer turn.accepted turn.steps w.store turn.store served is.stored running is.run

answers_run : (w : MeterWorld) (turns : List Turn) (replies : List (List ℕ)) (w' : MeterWorld) → Answers w turns replies w' → AreServed turns → IsRunningIn w.store → IsRunningIn w'.store
answers_run w [] replies w' (free, none, is) are running = subst (λ (v : MeterWorld). IsRunningIn v.store) (sym is) running
answers_run w (turn ∷ turns) replies w' (is_turn, rest, is, answers) are running = answers_run (after_turn w turn) turns rest w' answers are.1 (turn_runs w turn is_turn are.0 running)

judged_runs : (w : MeterWorld) (event : Event) (outcome : Result (Unit {0}) AddFault) (step : StoreStep) (w' : MeterWorld) → Judged w event outcome step w' → IsDecided outcome → IsRunningIn w.store → IsRunningIn w'.store
judged_runs w event (Ok done) step w' (free, add, now, next, is) decided running = subst (λ (v : MeterWorld). IsRunningIn v.store) (sym is) (one_step event step w.store now add running next)
judged_runs w event (Err (Refused why)) step w' (runs, refused, is_step, is) decided running = subst (λ (v : MeterWorld). IsRunningIn v.store) (sym is) running
judged_runs w event (Err Device) step w' judged decided running = absurd decided
judged_runs w event (Err Stopped) step w' judged decided running = absurd decided
judged_runs w event (Err Exhausted) step w' judged decided running = absurd decided

same_runs : (w w' : MeterWorld) → w' ≡ w → IsRunningIn w.store → IsRunningIn w'.store
same_runs w w' is running = subst (λ (v : MeterWorld). IsRunningIn v.store) (sym is) running

line_runs : (honest : Bool) (w : MeterWorld) (bytes : List ℕ) (order : Order) (w' : MeterWorld) (written : List ℕ) (does : Does honest w bytes order w' written) → LineGoesWell honest w bytes order w' written does → IsRunningIn w.store → IsRunningIn w'.store
line_runs honest w bytes Skip w' written does well running = same_runs w w' does.0 running
line_runs honest w bytes Feed w' written (replies, comes, is) well running = answers_run (grown w bytes) comes.turns replies w' comes.answers well running
line_runs honest w bytes (Pulses channel count) w' written (outcome, step, judged, is) well running = judged_runs w (PulseEvent channel count) outcome step w' judged well running
line_runs honest w bytes (Moment second) w' written (outcome, step, judged, is) well running = judged_runs w (MomentEvent second) outcome step w' judged well running
line_runs honest w bytes Silence w' written does well running = same_runs (silent w) w' does.0 running
line_runs honest w bytes Open w' written (found, finds, leads, is) well running = same_runs (recovered found) w' leads tt
line_runs honest w bytes Show w' written does well running = same_runs w w' does.0 running

-- lines that were done and went well leave the store running
pub lines_run : (honest : Bool) (lines : List (List ℕ)) (w m : MeterWorld) (number : ℕ) (written : List ℕ) (replays : Replays honest w number lines written Whole (Some m)) → GoesWell honest w number lines written Whole (Some m) replays
    → IsRunningIn w.store → IsRunningIn m.store
lines_run honest [] w m number written (none, whole, same) well running = (let is : m ≡ w = cc in same_runs w m is running)
lines_run honest (line ∷ lines) w m number written (inl bad) well running = absurd (cc bad.2)
lines_run honest (line ∷ lines) w m number written (inr (inl gone)) well running = absurd (cc gone.5)
lines_run honest (line ∷ lines) w m number written (inr (inr (short, bytes, order, w', first, rest, spells, does, replays, joins))) well running =
    lines_run honest lines w' m (number + 1) rest replays well.1 (line_runs honest w bytes order w' first does well.0 running)

-- ---- closing

-- what is settled when it is closed is found
pub found_all : (before closed now : StoreWorld) (found : List Event) → Next before Closes closed → Next closed (Opens found) now → found ≡ events_in before
found_all (Runs s p) closed now found next opens =
    let there : Next (Rests (s ++ p)) (Opens found) now = subst (λ (c : StoreWorld). Next c (Opens found) now) next opens in there.0
found_all (InDoubt s p) closed now found next opens = absurd next
found_all (Rests events) closed now found next opens = absurd next

pub rose_or_not : (before now : ℕ) → Rose before now ⊎ (Rose before now → ⊥)
rose_or_not before now =
    elim (cases_lt now (min (before + 1) (2 ^ 64 - 1))) [
      | inl less ↦ inr (λ (rose : Rose before now). omega (arith, less, rose))
      | inr most ↦ inl most
    ]

none_or_some : (xs : List ℕ) → (xs ≡ []) ⊎ (xs ≢ [])
none_or_some [] = inl refl
none_or_some (x ∷ xs) = inr (λ (e : x ∷ xs ≡ []). cc)

full_or_not : {P A : Type 0} {ghosts : Ghosts P} (store : Store P A ghosts) → IsFull store ⊎ (IsFull store → ⊥)
full_or_not store = cases_eq store.next _

last_or_not : {P A : Type 0} {ghosts : Ghosts P} (store : Store P A ghosts) → IsLast store ⊎ (IsLast store → ⊥)
last_or_not store = cases_eq store.generation _

pub exhausted_or_not : {P A : Type 0} {ghosts : Ghosts P} (store : Store P A ghosts) → CommitIsExhausted store ⊎ (CommitIsExhausted store → ⊥)
exhausted_or_not store =
    elim (none_or_some (records_in store)) [
      | inl none ↦ inr (λ (is : CommitIsExhausted store). is.0 none)
      | inr some ↦
          elim (full_or_not store) [
            | inr other ↦ inr (λ (is : CommitIsExhausted store). other is.1.0)
            | inl full ↦
                elim (last_or_not store) [
                  | inr other ↦ inr (λ (is : CommitIsExhausted store). other is.1.1)
                  | inl last ↦ inl (some, (full, last))
                ]
          ]
    ]

-- it closed well, or ill
abbrev pub ClosesWell : {P A : Type 0} → {ghosts : Ghosts P} → Store P A ghosts → View → Type 0
ClosesWell old device = (Rose (view_of old).faults device.faults → ⊥) × (CommitIsExhausted old → ⊥)

pub closes_or_not : {P A : Type 0} {ghosts : Ghosts P} (old : Store P A ghosts) (device : View) → ClosesWell old device ⊎ ClosesIll old device
closes_or_not old device =
    elim (rose_or_not (view_of old).faults device.faults) [
      | inl rose ↦ inr (inl rose)
      | inr steady ↦
          elim (exhausted_or_not old) [
            | inl exhausted ↦ inr (inr exhausted)
            | inr settles ↦ inl (steady, settles)
          ]
    ]

pub runs_or_not : (w : StoreWorld) → IsRunningIn w ⊎ (IsRunningIn w → ⊥)
runs_or_not (Runs s p) = inl tt
runs_or_not (InDoubt s p) = inr (λ (h : ⊥). h)
runs_or_not (Rests events) = inr (λ (h : ⊥). h)

-- ---- a meter that was not recovered

pub honest_of : (v : View) (world : StoreWorld) → DeviceFits v world → v.honest ≡ true
honest_of v (Runs s p) fits = absurd fits
honest_of v (InDoubt s p) fits = fits.honest
honest_of v (Rests events) fits = fits.honest

pub lacks_memory : (old new : View) (fault : OpenFault) → IsRefused old new fault → IsRefusal fault → old.honest ≡ true → (fault ≡ opening.Memory) ⊎ OpensIll old new
lacks_memory old new opening.Device refused may honest = inr (inl (refused.device refl))
lacks_memory old new opening.Memory refused may honest = inl refl
lacks_memory old new opening.Exhausted refused may honest = inr (inr (refused.exact honest))
lacks_memory old new opening.NoCheckpoint refused may honest = absurd may
lacks_memory old new (opening.Corrupt page) refused may honest = absurd may
lacks_memory old new opening.Size refused may honest = absurd may

pub no_fault_told : (old new : View) (fault : OpenFault) → IsRefused old new fault → (fault ≢ opening.Device) ⊎ OpensIll old new
no_fault_told old new opening.Device refused = inr (inl (refused.device refl))
no_fault_told old new opening.Memory refused = inl (λ (e : opening.Memory ≡ opening.Device). cc)
no_fault_told old new opening.Exhausted refused = inl (λ (e : opening.Exhausted ≡ opening.Device). cc)
no_fault_told old new opening.NoCheckpoint refused = inl (λ (e : opening.NoCheckpoint ≡ opening.Device). cc)
no_fault_told old new (opening.Corrupt page) refused = inl (λ (e : opening.Corrupt page ≡ opening.Device). cc)
no_fault_told old new opening.Size refused = inl (λ (e : opening.Size ≡ opening.Device). cc)
