-- A poll over a line, whose ends are a poller's calls and a meter's run, is a run of the world.
use Rattle.std.proofs.Common.{◌≡◌, ◌≢◌, ◌⊎◌, ◌∙◌, inl, inr, refl, sym, ap, subst, append-nil, append_assoc, ℕ, Bool, true, List, [], ◌∷◌, ◌++◌, Option, None, Some, Result, Ok, Err}
use Rattle.std.specs.List.{filter_map}
use Rattle.dlms_frame.specs.Frame.{Parts}
use Rattle.dlms_frame.specs.declared.client.Client.{Client}
use Rattle.dlms_frame.specs.declared.client.Client.TheVariants.{Public}
use Rattle.dlms_headend.specs.Asking.{PlanValue}
use Rattle.dlms_headend.specs.Merged.{merged}
use Rattle.dlms_headend.specs.PollerValue.{PollerValue}
use Rattle.dlms_headend.specs.PollRun.{Call, Calls, IsCall}
use Rattle.dlms_headend.specs.PollRun.Call.{Next, On, Timeout}
use Rattle.dlms_headend.specs.Polling.{Fits, FitsIn, HasFailed, Answers, BeginsIn, Continues, GoesDown, PollsBy, PollsIn, TimesOutBy, TimesOutIn, fresh_poll, with_link}
use Rattle.dlms_headend.specs.declared.plan.Columns.TheVariants.{Asked}
use Rattle.dlms_headend.specs.declared.poll_fault.PollFault.{PollFault}
use Rattle.dlms_headend.specs.declared.poll_fault.PollFault.TheVariants.{Line, Protocol}
use Rattle.dlms_headend.specs.declared.row.Row.{Row}
use Rattle.dlms_headend.specs.declared.stage.Course.{Course}
use Rattle.dlms_headend.specs.declared.stage.Course.TheVariants.{Ready, Running, Done, Failed}
use Rattle.dlms_headend.specs.declared.stage.Stage.{Stage}
use Rattle.dlms_headend.specs.declared.stage.Stage.TheVariants.{Associating, Naming, Getting, Checking, Releasing, Leaving}
use Rattle.dlms_headend.specs.declared.step.PollStep.{PollStep}
use Rattle.dlms_headend.specs.declared.step.PollStep.TheVariants as step
use Rattle.dlms_link.specs.Client.{ClientRecord as ClientLink, client_step, client_timeout}
use Rattle.dlms_link.specs.World.{happens, without_first, LostUp, LostDown}
use Rattle.dlms_link.specs.declared.out.ClientOut.{ClientOut}
use Rattle.dlms_link.specs.declared.out.ClientOut.TheVariants as out
use Rattle.dlms_link.specs.declared.phase.Phase.TheVariants.{Closed}
use Rattle.dlms_meter.specs.ClientRecord.{ClientRecord}
use Rattle.dlms_meter.specs.Run.{MeterWorld, Turn as MeterTurn, Answers as MeterAnswers, Choice, DeviceFails, Handles, Handled, IsTurn, Judged, Promised, Takes as MeterTakes, after_turn, client_at, events_in, events_of, grown}
use Rattle.dlms_meter.specs.Steps.{Step, Run as MeterRun}
use Rattle.dlms_meter.specs.Steps.Step.{Piece, Silence, Happens}
use Rattle.dlms_meter.specs.declared.meter.Meter.{Meter}
use Rattle.dlms_meter.proofs.Events.{turn_events, added_one}
use Rattle.dlms_meter.proofs.Feeding.{IsUnsaid, promised, unsaid}
use Rattle.dlms_link.specs.Server.{server_on}
use Rattle.dlms_pages.specs.declared.device.Pages.{Ghosts}
use Rattle.dlms_state.specs.Refusal.{IsLegal}
use Rattle.dlms_state.specs.declared.event.Event.{Event}
use Rattle.dlms_state.proofs.Legal.{IsLegal-beginning}
use Rattle.dlms_store.specs.World.{StoreWorld as Store, StoreStep, Next as StoreNext, StoreRun}
use Rattle.dlms_store.specs.World.StoreWorld.{Runs, InDoubt, Rests}
use Rattle.dlms_store.specs.World.StoreStep.{Adds, AddsBehind, Settles, Refuses, Fails as Fault, Closes, ClosesInDoubt, Stops, Opens, OpenFails}
use Rattle.dlms_store.specs.declared.fault.AddFault.{AddFault}
use Rattle.dlms_store.specs.declared.fault.AddFault.TheVariants as add
use Rattle.dlms_world.specs.Agree.{AreCaptures, BringsBuffer}
use Rattle.dlms_world.specs.PollTurns.{IsPollerOf, IsUnderWay, TurnsInto, taken_by, sent_first, sent_on, sent_again}
use Rattle.dlms_world.specs.Line.{Moment, AtHead, AtMeter, call_at, turn_at, turns_of, OnLine, CallsOver, TakenOver, Own, Other, Carries, Joins, Agree, DoAgree, FirstAgree, AgreeingIsCaptures, RunsAgree, StopsAgree, PollsAgree}
use Rattle.dlms_world.specs.Sublists.{IsSublist}
use Rattle.dlms_world.specs.MeterTurns.{IsMeterOf, AnswersTo, StepsTo, StepsFrom, StepsAt, IsToldIn}
use Rattle.dlms_world.specs.Turn.{Turn, LosesUp, LosesDown, Merges, Restarted, Run, Stays, Goes, IsOver, restarted}
use Rattle.dlms_world.specs.World.{World, IsOn, IsUsual, AreUsual, first_world}
use Rattle.dlms_world.proofs.PollCallsAreTurns.{next_is_turn, on_is_turn, timeout_is_turn}
use Rattle.dlms_world.proofs.Done.{joined}
use Rattle.dlms_world.proofs.HeadEndStops.{can_stop}
use Rattle.dlms_world.proofs.ProgramLaw.{any_step, its_own, others_step, put, same_client, still_meter, still_poller}
use Rattle.dlms_world.proofs.Stopping.{recovered_is, judged_usual}
use Rattle.dlms_world.proofs.CallsAreTurns.{at_client, fault_events, judged, known_on, known_legal, stored_usual}
use Rattle.dlms_world.proofs.LineFrames.{AreFrames, are_frames}
use Rattle.dlms_world.proofs.Telling.{tells}
use Rattle.dlms_world.proofs.Whole.{Start, good_from, readings_are_captures, start_of, told_from}

-- ---- a store that is on stays on in usual steps

on_next : (step : StoreStep) (before now : Store) → IsUsual step → StoreNext before step now → IsOn before → IsOn now
on_next (Adds e) (Runs s p) now usual (is, fits) on = subst IsOn (sym is) tt
on_next (AddsBehind e) (Runs s p) now usual (is, fits) on = subst IsOn (sym is) tt
on_next Settles (Runs s p) now usual is on = subst IsOn (sym is) tt
on_next Refuses (Runs s p) now usual is on = subst IsOn (sym is) tt
on_next Fault (Runs s p) now usual is on = subst IsOn (sym is) tt
on_next Closes (Runs s p) now usual is on = absurd usual
on_next ClosesInDoubt (Runs s p) now usual is on = absurd usual
on_next Stops (Runs s p) now usual is on = absurd usual
on_next (Opens es) (Runs s p) now usual is on = absurd usual
on_next OpenFails (Runs s p) now usual is on = absurd usual
on_next (Adds e) (InDoubt s p) now usual is on = absurd is
on_next (AddsBehind e) (InDoubt s p) now usual is on = absurd is
on_next Settles (InDoubt s p) now usual is on = absurd is
on_next Refuses (InDoubt s p) now usual is on = subst IsOn (sym is) tt
on_next Fault (InDoubt s p) now usual is on = absurd is
on_next Closes (InDoubt s p) now usual is on = absurd usual
on_next ClosesInDoubt (InDoubt s p) now usual is on = absurd usual
on_next Stops (InDoubt s p) now usual is on = absurd usual
on_next (Opens es) (InDoubt s p) now usual is on = absurd usual
on_next OpenFails (InDoubt s p) now usual is on = absurd usual
on_next step (Rests events) now usual is on = absurd on

on_run : (steps : List StoreStep) (before now : Store) → AreUsual steps → StoreRun before steps now → IsOn before → IsOn now
on_run [] before now usual run on = subst IsOn (sym run) on
on_run (step ∷ steps) before now usual (mid, next, run) on = on_run steps mid now usual.1 run (on_next step before mid usual.0 next on)

-- ---- a run of the meter, frame by frame

data Flat (m' : MeterWorld) : MeterWorld → List MeterTurn → Type 0 where
  Over : (m : MeterWorld) (turns : List MeterTurn) → turns ≡ [] → m' ≡ m → Flat m' m turns
  Aside : (m mid : MeterWorld) (turns : List MeterTurn) → mid.records ≡ m.records → mid.store ≡ m.store → Flat m' mid turns → Flat m' m turns
  Told : (m mid : MeterWorld) (turns : List MeterTurn) (event : Event) (outcome : Result (Unit {0}) AddFault) (step : StoreStep) → Judged m event outcome step mid → Flat m' mid turns → Flat m' m turns
  Taken : (m : MeterWorld) (turns rest : List MeterTurn) (turn : MeterTurn) → turns ≡ turn ∷ rest → IsTurn m turn → Flat m' (after_turn m turn) rest → Flat m' m turns

flat_answers : (m' m mid : MeterWorld) (turns rest : List MeterTurn) (replies : List (List ℕ)) → MeterAnswers m turns replies mid → Flat m' mid rest → Flat m' m (turns ++ rest)
flat_answers m' m mid [] rest replies (none, nothing, is) flat = subst (λ (x : MeterWorld). Flat m' x rest) is flat
flat_answers m' m mid (turn ∷ turns) rest replies (is_turn, more, same, answers) flat =
    Taken m (turn ∷ turns ++ rest) (turns ++ rest) turn refl is_turn (flat_answers m' (after_turn m turn) mid turns rest more answers flat)

flat_run : (m : MeterWorld) (steps : List Step) (m' : MeterWorld) (run : MeterRun m steps m') → Flat m' m (turns_of m steps m' run)
flat_run m [] m' run = Over m [] refl run
flat_run m (Piece bytes replies ∷ steps) m' (mid, comes, run) =
    Aside m (grown m bytes) (comes.turns ++ turns_of mid steps m' run) refl refl (flat_answers m' (grown m bytes) mid comes.turns (turns_of mid steps m' run) replies comes.answers (flat_run mid steps m' run))
flat_run m (Silence ∷ steps) m' (mid, leads, run) = Aside m mid (turns_of mid steps m' run) (ap (λ (x : MeterWorld). x.records) leads) (ap (λ (x : MeterWorld). x.store) leads) (flat_run mid steps m' run)
flat_run m (Happens event outcome ∷ steps) m' (mid, (step, is), run) = Told m mid (turns_of mid steps m' run) event outcome step is (flat_run mid steps m' run)

-- ---- what the meter holds grows, and is legal

-- these events are a beginning of those
abbrev Begin : List Event → List Event → Type 0
Begin front all = (more : List Event) × (all ≡ front ++ more)

then_begin : (a b c : List Event) → Begin a b → Begin b c → Begin a c
then_begin a b c (x, is) (y, also) = (x ++ y, also ∙ ap (λ (l : List Event). l ++ y) is ∙ append_assoc a x y)

same_begin : (a b : List Event) → b ≡ a → Begin a b
same_begin a b is = ([], is ∙ sym (append-nil a))

told_begin : (m : MeterWorld) (event : Event) (outcome : Result (Unit {0}) AddFault) (step : StoreStep) (mid : MeterWorld) → Judged m event outcome step mid → Begin (events_of m) (events_of mid)
told_begin m event (Ok done) step mid (free, is_add, now, next, is) = (event ∷ [], ap events_of is ∙ added_one step event m.store now is_add next)
told_begin m event (Err (add.Refused cause)) step mid (runs, refused, none, is) = same_begin (events_of m) (events_of mid) (ap events_of is)
told_begin m event (Err add.Device) step mid (free, fault, now, next, is) = same_begin (events_of m) (events_of mid) (ap events_of is ∙ fault_events m.store now next)
told_begin m event (Err add.Stopped) step mid (stopped, none, is) = same_begin (events_of m) (events_of mid) (ap events_of is)
told_begin m event (Err add.Exhausted) step mid (runs, free, none, is) = same_begin (events_of m) (events_of mid) (ap events_of is)

grew : (m' m : MeterWorld) (turns : List MeterTurn) → Flat m' m turns → Begin (events_of m) (events_of m')
grew m' m turns (Over same same_turns none is) = same_begin (events_of m) (events_of m') (ap events_of is)
grew m' m turns (Aside same mid same_turns records store flat) = then_begin (events_of m) (events_of mid) (events_of m') (same_begin (events_of m) (events_of mid) (ap events_in store)) (grew m' mid turns flat)
grew m' m turns (Told same mid same_turns event outcome step is flat) = then_begin (events_of m) (events_of mid) (events_of m') (told_begin m event outcome step mid is) (grew m' mid turns flat)
grew m' m turns (Taken same same_turns rest turn are is flat) = then_begin (events_of m) (events_of (after_turn m turn)) (events_of m') (turn.accepted, turn_events m turn is) (grew m' (after_turn m turn) rest flat)

legal_at : (m' m : MeterWorld) (turns : List MeterTurn) → Flat m' m turns → IsLegal (events_of m') → IsLegal (events_of m)
legal_at m' m turns flat legal =
    let more = grew m' m turns flat in
    IsLegal-beginning (events_of m) more.0 (subst IsLegal more.1 legal)

-- an answer of success or with data leaves nothing pending
pub keeps_promise : (m : MeterWorld) (turn : MeterTurn) → IsTurn m turn → Promised turn
keeps_promise m turn is = promised turn.choice turn.answer turn.accepted turn.steps m.store turn.store (fails (client_at turn.frame.src) is.takes) is.stored is.run
  where
    fails : (from : Option Client) → MeterTakes (events_of m) m.records turn from → (kept : Bool) (wanted : List Event) → turn.choice ≡ DeviceFails kept wanted → IsUnsaid turn.answer
    fails None (records, reply, none, nothing) kept wanted choice = subst IsUnsaid (sym none) tt
    fails (Some who) (own, handles, records) kept wanted choice =
        let made : Handled = record { own = own; reply = turn.reply; answer = turn.answer; accepted = turn.accepted } in
        unsaid kept wanted (events_of m) (server_on (m.records who).link turn.frame).0 (m.records who).session (server_on (m.records who).link turn.frame).1 made
        (subst (λ (c : Choice). Handles c (events_of m) (m.records who) turn.frame made) choice handles)

-- ---- where a run of the world has come to

lawful_from : (first : Start) (now : World) → Run first.world now → AreFrames now.link.down_line
lawful_from first now run = are_frames now.plan.client now.link (good_from tells first now run).link.sound

pub record At (first : Start) (p : PollerValue) (m : MeterWorld) (l : OnLine) (file : List Row) (w : World) : Type 0 where
  pub run : Run first.world w
  pub on : IsOn m.store
  pub poller : IsPollerOf p w
  pub meter : IsMeterOf m w
  pub up : w.link.up_line ≡ l.up
  pub down : w.link.down_line ≡ l.down
  pub kept : w.file ≡ file

abbrev pub Is : Start → PollerValue → MeterWorld → OnLine → List Row → Type 0
Is first p m l file = (w : World) × At first p m l file w

-- ---- what is on the line is lost

lose_up : (first : Start) (p : PollerValue) (m : MeterWorld) (l : OnLine) (file : List Row) (lost rest : List Parts) → l.up ≡ lost ++ rest → Is first p m l file → Is first p m (record l { up = rest }) file
lose_up first p m l file [] rest line (w, x) = (w, record { run = x.run; on = x.on; poller = x.poller; meter = x.meter; up = x.up ∙ line; down = x.down; kept = x.kept })
lose_up first p m l file (f ∷ lost) rest line (w, x) =
    lose_up first p m (record l { up = lost ++ rest }) file lost rest refl (
      record w { link = happens w.link LostUp },
      record {
        run = Goes w _ x.run (LosesUp w);
        on = x.on;
        poller = record { plan = x.poller.plan; course = x.poller.course; link = x.poller.link; rows = x.poller.rows; fits = x.poller.fits };
        meter = record { own = x.meter.own; others = x.meter.others; store = x.meter.store };
        up = ap without_first (x.up ∙ line);
        down = x.down;
        kept = x.kept;
      },
    )

lose_down : (first : Start) (p : PollerValue) (m : MeterWorld) (l : OnLine) (file : List Row) (lost rest : List Parts) → l.down ≡ lost ++ rest → Is first p m l file → Is first p m (record l { down = rest }) file
lose_down first p m l file [] rest line (w, x) = (w, record { run = x.run; on = x.on; poller = x.poller; meter = x.meter; up = x.up; down = x.down ∙ line; kept = x.kept })
lose_down first p m l file (f ∷ lost) rest line (w, x) =
    lose_down first p m (record l { down = lost ++ rest }) file lost rest refl (
      record w { link = happens w.link LostDown },
      record {
        run = Goes w _ x.run (LosesDown w);
        on = x.on;
        poller = record { plan = x.poller.plan; course = x.poller.course; link = x.poller.link; rows = x.poller.rows; fits = x.poller.fits };
        meter = record { own = x.meter.own; others = x.meter.others; store = x.meter.store };
        up = x.up;
        down = ap without_first (x.down ∙ line);
        kept = x.kept;
      },
    )

abbrev pub nothing_on : OnLine
nothing_on = record { up = []; down = [] }

lose_all : (first : Start) (p : PollerValue) (m : MeterWorld) (l : OnLine) (file : List Row) → Is first p m l file → Is first p m nothing_on file
lose_all first p m l file x =
    lose_down first p m (record l { up = [] }) file l.down [] (sym (append-nil l.down)) (lose_up first p m l file l.up [] (sym (append-nil l.up)) x)

-- ---- steps of the meter

-- with the meter elsewhere in its run, if the world stays
stays : (first : Start) (p : PollerValue) (m mid : MeterWorld) (l : OnLine) (file : List Row) (w : World) → At first p m l file w → IsOn mid.store → IsMeterOf mid w → At first p mid l file w
stays first p m mid l file w x on at = record { run = x.run; on = on; poller = x.poller; meter = at; up = x.up; down = x.down; kept = x.kept }

stepped : (first : Start) (p : PollerValue) (m mid : MeterWorld) (l : OnLine) (file : List Row) (w : World) → At first p m l file w → IsOn mid.store → StepsTo w mid → Is first p mid l file
stepped first p m mid l file w x on (now, turn, at, same, up, down) =
    (now, record { run = Goes w now x.run turn; on = on; poller = still_poller p w now x.poller same; meter = at; up = up ∙ x.up; down = down ∙ x.down; kept = same.file ∙ x.kept })

either : (first : Start) (p : PollerValue) (m mid : MeterWorld) (l : OnLine) (file : List Row) (w : World) → At first p m l file w → IsOn mid.store → IsMeterOf mid w ⊎ StepsTo w mid → Is first p mid l file
either first p m mid l file w x on (inl at) = (w, stays first p m mid l file w x on at)
either first p m mid l file w x on (inr to) = stepped first p m mid l file w x on to

aside : (first : Start) (p : PollerValue) (m mid : MeterWorld) (l : OnLine) (file : List Row) → mid.records ≡ m.records → mid.store ≡ m.store → Is first p m l file → Is first p mid l file
aside first p m mid l file records store (w, x) = (
  w,
  stays first p m mid l file w x (subst IsOn (sym store) x.on) (record {
    own = ap (λ (r : Client → ClientRecord). r w.plan.client) records ∙ x.meter.own;
    others = λ other differs. ap (λ (r : Client → ClientRecord). r other) records ∙ x.meter.others other differs;
    store = store ∙ x.meter.store;
  }),
)

accepted : (first : Start) (p : PollerValue) (m mid : MeterWorld) (l : OnLine) (file : List Row) (w now : World) → At first p m l file w → IsOn mid.store → Turn w now → IsMeterOf mid now → now ≡ record w { memory = now.memory } → Is first p mid l file
accepted first p m mid l file w now x on turn at is = stepped first p m mid l file w x on (
  now,
  turn,
  at,
  record { plan = ap (λ (v : World). v.plan) is; course = ap (λ (v : World). v.course) is; rows = ap (λ (v : World). v.rows) is; file = ap (λ (v : World). v.file) is; client = ap (λ (v : World). v.link.client) is; taken = ap (λ (v : World). v.link.taken) is },
  ap (λ (v : World). v.link.up_line) is,
  ap (λ (v : World). v.link.down_line) is,
)

told_to : (first : Start) (p : PollerValue) (m mid : MeterWorld) (l : OnLine) (file : List Row) (w : World) (event : Event) (outcome : Result (Unit {0}) AddFault) → At first p m l file w → IsOn mid.store → IsToldIn w event outcome mid → Is first p mid l file
told_to first p m mid l file w event (Ok done) x on (now, turn, at, is, events) = accepted first p m mid l file w now x on turn at is
told_to first p m mid l file w event (Err add.Device) x on (now, turn, at, is, events) = accepted first p m mid l file w now x on turn at is
told_to first p m mid l file w event (Err add.Stopped) x on at = (w, stays first p m mid l file w x on at)
told_to first p m mid l file w event (Err add.Exhausted) x on at = (w, stays first p m mid l file w x on at)
told_to first p m mid l file w event (Err (add.Refused cause)) x on at = (w, stays first p m mid l file w x on at)

judged_on : (m : MeterWorld) (event : Event) (outcome : Result (Unit {0}) AddFault) (step : StoreStep) (mid : MeterWorld) → Judged m event outcome step mid → IsOn m.store → IsOn mid.store
judged_on m event (Ok done) step mid (free, is_add, now, next, is) on =
    subst (λ (x : MeterWorld). IsOn x.store) (sym is) (on_next step m.store now (judged_usual m event (Ok done) step mid (free, is_add, now, next, is)) next on)
judged_on m event (Err (add.Refused cause)) step mid (runs, refused, none, is) on = subst (λ (x : MeterWorld). IsOn x.store) (sym is) on
judged_on m event (Err add.Device) step mid (free, fault, now, next, is) on = subst (λ (x : MeterWorld). IsOn x.store) (sym is) (on_next Fault m.store now tt next on)
judged_on m event (Err add.Stopped) step mid (stopped, none, is) on = subst (λ (x : MeterWorld). IsOn x.store) (sym is) on
judged_on m event (Err add.Exhausted) step mid (runs, free, none, is) on = subst (λ (x : MeterWorld). IsOn x.store) (sym is) on

told_at : (first : Start) (p : PollerValue) (m mid : MeterWorld) (l : OnLine) (file : List Row) (event : Event) (outcome : Result (Unit {0}) AddFault) (step : StoreStep) → Judged m event outcome step mid → IsLegal (events_of mid)
    → Is first p m l file → Is first p mid l file
told_at first p m mid l file event outcome step is legal (w, x) =
    told_to first p m mid l file w event outcome x (judged_on m event outcome step mid is x.on) (judged m w event outcome step mid x.meter (subst IsOn x.meter.store x.on) legal is)

-- ---- a frame that the meter takes

on_behind : (m : MeterWorld) (turn : MeterTurn) → IsTurn m turn → IsOn m.store → IsOn turn.store
on_behind m turn is on = on_run turn.steps m.store turn.store (stored_usual turn.choice turn.answer turn.accepted turn.steps is.stored) is.run on

steps_at : (first : Start) (p : PollerValue) (m : MeterWorld) (l : OnLine) (file : List Row) (w : World) (turn : MeterTurn) → At first p m l file w → IsTurn m turn → IsLegal (events_of (after_turn m turn))
    → StepsAt (client_at turn.frame.src) w turn.frame turn.reply (after_turn m turn)
steps_at first p m l file w turn x is legal = at_client (client_at turn.frame.src) m turn w refl x.meter (subst IsOn x.meter.store x.on) is (keeps_promise m turn is) legal is.takes

-- how one frame changes the state of the run
abbrev Takes : Start → PollerValue → OnLine → OnLine → List Row → MeterTurn → Type 0
Takes first p l l' file turn = (m : MeterWorld) → IsTurn m turn → IsLegal (events_of (after_turn m turn)) → Is first p m l file → Is first p (after_turn m turn) l' file

-- of anyone, before the poller begins
takes_any : (first : Start) (p : PollerValue) (l : OnLine) (file : List Row) (turn : MeterTurn) → p.course ≡ Ready → Takes first p l l file turn
takes_any first p l file turn ready m is legal (w, x) =
    either first p m (after_turn m turn) l file w x (on_behind m turn is x.on)
    (any_step (client_at turn.frame.src) w turn.frame turn.reply (after_turn m turn) (sym x.poller.course ∙ ready) closed (steps_at first p m l file w turn x is legal))
  where
    course : w.course ≡ Ready
    course = sym x.poller.course ∙ ready

    closed : w.link.client.phase ≡ Closed
    closed =
        let link : p.link ≡ w.link.client = x.poller.link (subst (λ (c : Course). IsUnderWay c) (sym course) tt) in
        let fits : FitsIn Ready p (taken_by w.course w.link.taken) = subst (λ (c : Course). FitsIn c p (taken_by w.course w.link.taken)) ready x.poller.fits in
        ap (λ (c : ClientLink). c.phase) (sym link) ∙ ap (λ (c : ClientLink). c.phase) fits.0

-- over the line
takes_over : (first : Start) (p : PollerValue) (l l' : OnLine) (file : List Row) (turn : MeterTurn) → TakenOver p.plan.client l turn l' → Takes first p l l' file turn
takes_over first p l l' file turn (Other other same) m is legal (w, x) =
    let differs : client_at turn.frame.src ≢ Some w.plan.client = λ its. other (its ∙ ap (λ (plan : PlanValue). (let some : Option Client = Some plan.client in some)) (sym x.poller.plan)) in
    subst (λ (line : OnLine). Is first p (after_turn m turn) line file) (sym same)
    (either first p m (after_turn m turn) l file w x (on_behind m turn is x.on) (others_step (client_at turn.frame.src) w turn.frame turn.reply (after_turn m turn) differs (steps_at first p m l file w turn x is legal)))
takes_over first p l l' file turn (Own rest sent own (lost, line) reply same) m is legal x0 =
    let it = lose_up first p m l file lost (turn.frame ∷ rest) line x0 in
    let w : World = it.0 in
    let x : At first p m (record l { up = turn.frame ∷ rest }) file w = it.1 in
    let steps : StepsAt (client_at turn.frame.src) w turn.frame turn.reply (after_turn m turn) = steps_at first p m (record l { up = turn.frame ∷ rest }) file w turn x is legal in
    let mine : StepsFrom true w turn.frame turn.reply (after_turn m turn) =
    its_own w p.plan.client (ap (λ (plan : PlanValue). plan.client) x.poller.plan) turn.frame turn.reply (after_turn m turn) (same_client p.plan.client (client_at turn.frame.src) own w turn.frame turn.reply (after_turn m turn) steps) in
    subst (λ (line : OnLine). Is first p (after_turn m turn) line file) (sym same)
    (answered (on_behind m turn is x.on) x (mine.0 rest x.up))
  where
    answered : {w : World} → IsOn turn.store → At first p m (record l { up = turn.frame ∷ rest }) file w → AnswersTo w rest turn.reply (after_turn m turn) → Is first p (after_turn m turn) (record { up = rest; down = l.down ++ sent }) file
    answered {w} on x (now, step, at, poll, up, puts) =
        let run : Run first.world now = Goes w now x.run step in (
          now,
          record {
            run = run;
            on = on;
            poller = still_poller p w now x.poller poll;
            meter = at;
            up = up;
            down = put turn.reply w.link.down_line now.link.down_line sent (lawful_from first now run) puts reply ∙ ap (λ (frames : List Parts). frames ++ sent) x.down;
            kept = poll.file ∙ x.kept;
          },
        )

-- ---- the meter's run up to its next frame, and to its end

first_is : (one other : MeterTurn) (some more : List MeterTurn) → one ∷ some ≡ other ∷ more → (one ≡ other) × (some ≡ more)
first_is one other some more is = (cc is, cc is)

none_is : (turn : MeterTurn) (turns : List MeterTurn) → turn ∷ turns ≡ [] → ⊥
none_is turn turns is = cc is

record Advanced (first : Start) (p : PollerValue) (m' : MeterWorld) (l : OnLine) (file : List Row) (turns : List MeterTurn) : Type 0 where
  mid : MeterWorld
  is : Is first p mid l file
  flat : Flat m' mid turns

advance : (first : Start) (p : PollerValue) (l l' : OnLine) (file : List Row) (turn : MeterTurn) (turns : List MeterTurn) (m' m : MeterWorld) (all : List MeterTurn) → all ≡ turn ∷ turns → Takes first p l l' file turn → IsLegal (events_of m')
    → Flat m' m all → Is first p m l file → Advanced first p m' l' file turns
advance first p l l' file turn turns m' m all are takes legal (Over same same_all none is) x = absurd (none_is turn turns (sym are ∙ none))
advance first p l l' file turn turns m' m all are takes legal (Aside same mid same_all records store flat) x =
    advance first p l l' file turn turns m' mid all are takes legal flat (aside first p m mid l file records store x)
advance first p l l' file turn turns m' m all are takes legal (Told same mid same_all event outcome step is flat) x =
    advance first p l l' file turn turns m' mid all are takes legal flat (told_at first p m mid l file event outcome step is (legal_at m' mid all flat legal) x)
advance first p l l' file turn turns m' m all are takes legal (Taken same same_all rest other others is flat) x =
    let same_one = first_is other turn rest turns (sym others ∙ are) in
    let is_it : IsTurn m turn = subst (λ (t : MeterTurn). IsTurn m t) same_one.0 is in
    let flat_it : Flat m' (after_turn m turn) turns = subst (λ (ts : List MeterTurn). Flat m' (after_turn m turn) ts) same_one.1 (subst (λ (t : MeterTurn). Flat m' (after_turn m t) rest) same_one.0 flat) in
    record { mid = after_turn m turn; is = takes m is_it (legal_at m' (after_turn m turn) turns flat_it legal) x; flat = flat_it }

finish : (first : Start) (p : PollerValue) (l : OnLine) (file : List Row) (m' m : MeterWorld) (all : List MeterTurn) → all ≡ [] → IsLegal (events_of m') → Flat m' m all → Is first p m l file → Is first p m' l file
finish first p l file m' m all none legal (Over same same_all nothing is) x = subst (λ (y : MeterWorld). Is first p y l file) (sym is) x
finish first p l file m' m all none legal (Aside same mid same_all records store flat) x = finish first p l file m' mid all none legal flat (aside first p m mid l file records store x)
finish first p l file m' m all none legal (Told same mid same_all event outcome step is flat) x =
    finish first p l file m' mid all none legal flat (told_at first p m mid l file event outcome step is (legal_at m' mid all flat legal) x)
finish first p l file m' m all none legal (Taken same same_all rest other others is flat) x = absurd (none_is other rest (sym others ∙ none))

-- frames of anyone, before the poller begins
early : (first : Start) (p : PollerValue) (l : OnLine) (file : List Row) (turns rest : List MeterTurn) (m' m : MeterWorld) → p.course ≡ Ready → IsLegal (events_of m') → Flat m' m (turns ++ rest) → Is first p m l file → Advanced first p m' l file rest
early first p l file [] rest m' m ready legal flat x = record { mid = m; is = x; flat = flat }
early first p l file (turn ∷ turns) rest m' m ready legal flat x =
    let one = advance first p l l file turn (turns ++ rest) m' m (turn ∷ turns ++ rest) refl (takes_any first p l file turn ready) legal flat x in
    early first p l file turns rest m' one.mid ready legal one.flat one.is

-- ---- a call of the poller

turned : (first : Start) (p new : PollerValue) (m : MeterWorld) (l : OnLine) (file : List Row) (w : World) (sent left : List Parts) → At first p m l file w → TurnsInto w sent left new → Is first new m (record { up = l.up ++ sent; down = left }) file
turned first p new m l file w sent left x (now, turn, poller, up, down, same) = (
  now,
  record {
    run = Goes w now x.run turn;
    on = x.on;
    poller = poller;
    meter = still_meter m w now x.meter same;
    up = up ∙ ap (λ (frames : List Parts). frames ++ sent) x.up;
    down = down;
    kept = same.file ∙ x.kept;
  },
)

runs_in : (first : Start) (p : PollerValue) (m : MeterWorld) (l : OnLine) (file : List Row) (w : World) → At first p m l file w → p.course ≡ Running → (w.course ≡ Running) × Fits p w.link.taken
runs_in first p m l file w x runs =
    let course : w.course ≡ Running = sym x.poller.course ∙ runs in
    (course, subst (λ (c : Course). Fits p (taken_by c w.link.taken)) course x.poller.fits)

call_runs : (first : Start) (p new : PollerValue) (m : MeterWorld) (l l' : OnLine) (file : List Row) (call : Call) → p.course ≡ Running → IsCall p call new → CallsOver l call l' → Is first p m l file → Is first new m l' file
call_runs first p new m l l' file (Next frame) runs (begins, keeps) same x =
    let here : BeginsIn Running p frame new = subst (λ (c : Course). BeginsIn c p frame new) runs begins in
    let line : l' ≡ nothing_on = same ∙ ap (λ (f : Option Parts). (let on : OnLine = record { up = sent_first f; down = [] } in on)) here.0 in
    subst (λ (y : OnLine). Is first new m y file) (sym line) (subst (λ (q : PollerValue). Is first q m nothing_on file) (sym here.1) (lose_all first p m l file x))
call_runs first p new m l l' file (On frame result) runs polls (rest, (lost, line), same) x0 =
    let it = lose_down first p m l file lost (frame ∷ rest) line x0 in
    let x : At first p m (record l { down = frame ∷ rest }) file it.0 = it.1 in
    let at = runs_in first p m (record l { down = frame ∷ rest }) file it.0 x runs in
    subst (λ (y : OnLine). Is first new m y file) (sym same)
    (turned first p new m (record l { down = frame ∷ rest }) file it.0 (sent_on result) rest x (on_is_turn it.0 frame rest result p new x.poller at.0 x.down (polls it.0.link.taken at.1)))
call_runs first p new m l l' file (Timeout result) runs (can, times_out, keeps) same x0 =
    let it = lose_all first p m l file x0 in
    let x : At first p m nothing_on file it.0 = it.1 in
    let at = runs_in first p m nothing_on file it.0 x runs in
    subst (λ (y : OnLine). Is first new m y file) (sym same)
    (turned first p new m nothing_on file it.0 (sent_again result) [] x (timeout_is_turn it.0 result p new x.poller at.0 can x.up x.down times_out))

-- ---- a poll that runs goes on or is over, by its plan

record GoesOn (p new : PollerValue) : Type 0 where
  plan : new.plan ≡ p.plan
  course : (new.course ≡ Running) ⊎ IsOver new.course

abbrev plan_of : PollerValue → PlanValue
plan_of p = p.plan

abbrev course_of : PollerValue → Course
course_of p = p.course

over : (p new : PollerValue) (course : Course) → new.plan ≡ p.plan → new.course ≡ course → IsOver course → GoesOn p new
over p new course plan is done = record { plan = plan; course = inr (subst IsOver (sym is) done) }

continues : (at : PollerValue) (apdus : List (List ℕ)) (result : Result PollStep PollFault) (new : PollerValue) → Continues at apdus result new → GoesOn at new
continues at apdus (Ok step.Nothing) new none = absurd none
continues at apdus (Ok (step.Send frame)) new sends = record { plan = sends.keeps; course = inl sends.runs }
continues at apdus (Ok step.Done) new none = absurd none
continues at apdus (Err fault) new (memory, wants, is) = over at new (Failed fault) (ap plan_of is) (ap course_of is) tt

answers : (at : PollerValue) (apdus : List (List ℕ)) (result : Result PollStep PollFault) (new : PollerValue) → Answers at apdus result new → GoesOn at new
answers at apdus (Ok step.Nothing) new none = absurd none
answers at apdus (Ok (step.Send frame)) new sends = record { plan = sends.keeps; course = inl sends.runs }
answers at apdus (Ok step.Done) new none = absurd none
answers at apdus (Err fault) new (why, failed) = over at new (Failed fault) failed.plan failed.course tt

fails_on : {X : Type 0} (at : PollerValue) (fault : PollFault) (result : Result X PollFault) (new : PollerValue) → HasFailed at fault result new → GoesOn at new
fails_on at fault result new failed = over at new (Failed fault) (ap plan_of failed.after) (ap course_of failed.after) tt

down : (stage : Stage) (at : PollerValue) (result : Result PollStep PollFault) (new : PollerValue) → GoesDown stage at result new → GoesOn at new
down Associating at result new failed = fails_on at Protocol result new failed
down Naming at result new failed = fails_on at Protocol result new failed
down Checking at result new failed = fails_on at Protocol result new failed
down (Getting taken) at result new failed = fails_on at Protocol result new failed
down Releasing at result new failed = fails_on at Protocol result new failed
down Leaving at result new done = over at new Done (ap plan_of done.after) (ap course_of done.after) tt

same_goes : (p new : PollerValue) → new.plan ≡ p.plan → new.course ≡ p.course → p.course ≡ Running → GoesOn p new
same_goes p new plan course runs = record { plan = plan; course = inl (course ∙ runs) }

hears : (given : ClientOut) (link : ClientLink) (apdus : List (List ℕ)) (p : PollerValue) (result : Result PollStep PollFault) (new : PollerValue) → p.course ≡ Running → PollsBy given link apdus p result new → GoesOn p new
hears out.Nothing link apdus p result new runs (told, is) = same_goes p new (ap plan_of is) (ap course_of is) runs
hears out.Up link apdus p result new runs polls =
    let on = continues (with_link p link) apdus result new polls in
    record { plan = on.plan; course = on.course }
hears (out.Send frame) link apdus p result new runs (told, is, fits) = same_goes p new (ap plan_of is) (ap course_of is) runs
hears out.Apdu link apdus p result new runs polls =
    let on = answers (with_link p link) apdus result new polls in
    record { plan = on.plan; course = on.course }
hears out.Down link apdus p result new runs polls =
    let on = down p.talk.stage (with_link p link) result new polls in
    record { plan = on.plan; course = on.course }

late : (given : ClientLink × Option Parts) (p : PollerValue) (result : Result Parts PollFault) (new : PollerValue) → p.course ≡ Running → TimesOutBy given p result new → GoesOn p new
late (link, Some frame) p result new runs (told, is) = same_goes p new (ap plan_of is) (ap course_of is) runs
late (link, None) p result new runs failed =
    let on = fails_on (with_link p link) Line result new failed in
    record { plan = on.plan; course = on.course }

heard : (p new : PollerValue) (frame : Parts) (result : Result PollStep PollFault) (apdus : List (List ℕ)) → Fits p apdus → p.course ≡ Running → IsCall p (On frame result) new
    → PollsBy (client_step p.link frame).1 (client_step p.link frame).0 apdus p result new
heard p new frame result apdus fits runs polls = subst (λ (c : Course). PollsIn c apdus frame p result new) runs (polls apdus fits)

goes_on : (p new : PollerValue) (call : Call) (apdus : List (List ℕ)) → Fits p apdus → p.course ≡ Running → IsCall p call new → GoesOn p new
goes_on p new (Next frame) apdus fits runs (begins, keeps) =
    let here : BeginsIn Running p frame new = subst (λ (c : Course). BeginsIn c p frame new) runs begins in
    same_goes p new (ap plan_of here.1) (ap course_of here.1) runs
goes_on p new (On frame result) apdus fits runs polls = hears (client_step p.link frame).1 (client_step p.link frame).0 apdus p result new runs (heard p new frame result apdus fits runs polls)
goes_on p new (Timeout result) apdus fits runs (can, times_out, keeps) =
    late (client_timeout p.link) p result new runs (subst (λ (c : Course). TimesOutIn c p result new) runs times_out)

-- the call that answers that the poll is done leaves it done
nothing_apart : (let r : Result PollStep PollFault = Ok step.Nothing in r) ≡ Ok step.Done → ⊥
nothing_apart is = cc is

sent_apart : (frame : Parts) → (let r : Result PollStep PollFault = Ok (step.Send frame) in r) ≡ Ok step.Done → ⊥
sent_apart frame is = cc is

fault_apart : (fault : PollFault) → (let r : Result PollStep PollFault = Err fault in r) ≡ Ok step.Done → ⊥
fault_apart fault is = cc is

down_done : (stage : Stage) (at new : PollerValue) → GoesDown stage at (Ok step.Done) new → new.course ≡ Done
down_done Associating at new failed = absurd (fault_apart Protocol (sym failed.answer))
down_done Naming at new failed = absurd (fault_apart Protocol (sym failed.answer))
down_done Checking at new failed = absurd (fault_apart Protocol (sym failed.answer))
down_done (Getting taken) at new failed = absurd (fault_apart Protocol (sym failed.answer))
down_done Releasing at new failed = absurd (fault_apart Protocol (sym failed.answer))
down_done Leaving at new done = ap course_of done.after

hears_done : (given : ClientOut) (link : ClientLink) (apdus : List (List ℕ)) (p new : PollerValue) → PollsBy given link apdus p (Ok step.Done) new → new.course ≡ Done
hears_done out.Nothing link apdus p new (told, is) = absurd (nothing_apart (sym told))
hears_done out.Up link apdus p new none = absurd none
hears_done (out.Send frame) link apdus p new (told, is, fits) = absurd (sent_apart frame (sym told))
hears_done out.Apdu link apdus p new none = absurd none
hears_done out.Down link apdus p new polls = down_done p.talk.stage (with_link p link) new polls

-- ---- one that is over is never done again

-- the last call answers that the poll is done
abbrev EndDone : List Call → Type 0
EndDone [] = ⊥
EndDone (call ∷ []) = (frame : Parts) × (call ≡ On frame (Ok step.Done))
EndDone (call ∷ other ∷ calls) = EndDone (other ∷ calls)

-- after a call of one that is over it still is, and the call did not answer that it is done
record StillOver (new : PollerValue) (call : Call) : Type 0 where
  over : IsOver new.course
  apdus : List (List ℕ)
  fits : Fits new apdus
  not_done : (frame : Parts) → call ≡ On frame (Ok step.Done) → ⊥

not_next : (given : Option Parts) (frame : Parts) → Next given ≡ On frame (Ok step.Done) → ⊥
not_next given frame is = cc is

not_late : (result : Result Parts PollFault) (frame : Parts) → Timeout result ≡ On frame (Ok step.Done) → ⊥
not_late result frame is = cc is

result_is : (f g : Parts) (a b : Result PollStep PollFault) → On f a ≡ On g b → a ≡ b
result_is f g a b is = cc is

not_done : (f g : Parts) (result given : Result PollStep PollFault) → result ≡ given → (given ≡ Ok step.Done → ⊥) → On f result ≡ On g (Ok step.Done) → ⊥
not_done f g result given told apart is = apart (sym told ∙ result_is f g result (Ok step.Done) is)

late_over : (given : ClientLink × Option Parts) (p : PollerValue) (result : Result Parts PollFault) (new : PollerValue) → p.course ≡ Done → TimesOutBy given p result new → IsOver new.course
late_over (link, Some frame) p result new is (told, same) = subst IsOver (sym (ap (λ (q : PollerValue). q.course) same ∙ is)) tt
late_over (link, None) p result new is failed = subst IsOver (sym (ap (λ (q : PollerValue). q.course) failed.after)) tt

still_over : (p new : PollerValue) (call : Call) (course : Course) (apdus : List (List ℕ)) → p.course ≡ course → IsOver course → Fits p apdus → IsCall p call new → StillOver new call
still_over p new call Ready apdus is done fits calls = absurd done
still_over p new call Running apdus is done fits calls = absurd done
still_over p new (Next frame) Done apdus is done fits (begins, keeps) =
    let here : BeginsIn Done p frame new = subst (λ (c : Course). BeginsIn c p frame new) is begins in
    record { over = subst IsOver (sym (ap (λ (q : PollerValue). q.course) here.1 ∙ is)) tt; apdus = apdus; fits = keeps apdus fits; not_done = λ f e. not_next frame f e }
still_over p new (On frame result) Done apdus is done fits polls =
    let here : PollsIn Done apdus frame p result new = subst (λ (c : Course). PollsIn c apdus frame p result new) is (polls apdus fits) in
    record { over = subst IsOver (sym (ap (λ (q : PollerValue). q.course) here.1 ∙ is)) tt; apdus = apdus; fits = subst (λ (q : PollerValue). Fits q apdus) (sym here.1) fits; not_done = λ f e. not_done frame f result (Ok step.Nothing) here.0 nothing_apart e }
still_over p new (Timeout result) Done apdus is done fits (can, times_out, keeps) =
    record { over = late_over (client_timeout p.link) p result new is (subst (λ (c : Course). TimesOutIn c p result new) is times_out); apdus = apdus; fits = keeps apdus fits; not_done = λ f e. not_late result f e }
still_over p new (Next frame) (Failed fault) apdus is done fits (begins, keeps) =
    let here : BeginsIn (Failed fault) p frame new = subst (λ (c : Course). BeginsIn c p frame new) is begins in
    record { over = subst IsOver (sym (ap (λ (q : PollerValue). q.course) here.1 ∙ is)) tt; apdus = apdus; fits = keeps apdus fits; not_done = λ f e. not_next frame f e }
still_over p new (On frame result) (Failed fault) apdus is done fits polls =
    let here : PollsIn (Failed fault) apdus frame p result new = subst (λ (c : Course). PollsIn c apdus frame p result new) is (polls apdus fits) in
    record { over = subst IsOver (sym (ap (λ (q : PollerValue). q.course) here.1 ∙ is)) tt; apdus = apdus; fits = subst (λ (q : PollerValue). Fits q apdus) (sym here.1) fits; not_done = λ f e. not_done frame f result (Err fault) here.0 (fault_apart fault) e }
still_over p new (Timeout result) (Failed fault) apdus is done fits (can, times_out, keeps) =
    let here : TimesOutIn (Failed fault) p result new = subst (λ (c : Course). TimesOutIn c p result new) is times_out in
    record { over = subst IsOver (sym (ap (λ (q : PollerValue). q.course) here.1 ∙ is)) tt; apdus = apdus; fits = keeps apdus fits; not_done = λ f e. not_late result f e }

never_done : (p done : PollerValue) (calls : List Call) (apdus : List (List ℕ)) → IsOver p.course → Fits p apdus → Calls p calls done → EndDone calls → ⊥
never_done p done [] apdus over fits run ends = ends
never_done p done (call ∷ []) apdus over fits (mid, is, run) (frame, same) = (still_over p mid call p.course apdus refl over fits is).not_done frame same
never_done p done (call ∷ other ∷ calls) apdus over fits (mid, is, run) ends =
    let still = still_over p mid call p.course apdus refl over fits is in
    never_done mid done (other ∷ calls) still.apdus still.over still.fits run ends

-- ---- the whole of it

-- once the poll is done, whatever the meter still takes
behind : (first : Start) (p : PollerValue) (file : List Row) (moments : List Moment) (l : OnLine) (m' m : MeterWorld) → filter_map call_at moments ≡ [] → Carries p.plan.client l moments → IsLegal (events_of m') → Flat m' m (filter_map turn_at moments)
    → Is first p m l file → (last : OnLine) × Is first p m' last file
behind first p file [] l m' m none carries legal flat x = (l, finish first p l file m' m [] refl legal flat x)
behind first p file (AtHead call ∷ moments) l m' m none carries legal flat x = absurd (no_call call (filter_map call_at moments) none)
  where
    no_call : (call : Call) (calls : List Call) → call ∷ calls ≡ [] → ⊥
    no_call call calls is = cc is
behind first p file (AtMeter turn ∷ moments) l m' m none (after, passes, carries) legal flat x =
    let one = advance first p l after file turn (filter_map turn_at moments) m' m (turn ∷ filter_map turn_at moments) refl (takes_over first p l after file turn passes) legal flat x in
    behind first p file moments after m' one.mid none carries legal one.flat one.is

-- the poll is done at this meter and file
pub record IsOverAt (first : Start) (plan : PlanValue) (done : PollerValue) (m' : MeterWorld) (file : List Row) : Type 0 where
  pub last : OnLine
  pub is : Is first done m' last file
  pub own : done.plan ≡ plan
  pub course : done.course ≡ Done

through : (first : Start) (plan : PlanValue) (p done : PollerValue) (file : List Row) (moments : List Moment) (l : OnLine) (m' m : MeterWorld) → p.plan ≡ plan → p.course ≡ Running → Calls p (filter_map call_at moments) done
    → EndDone (filter_map call_at moments) → Carries plan.client l moments → IsLegal (events_of m') → Flat m' m (filter_map turn_at moments) → Is first p m l file → IsOverAt first plan done m' file
through first plan p done file [] l m' m own runs calls ends carries legal flat x = absurd ends
through first plan p done file (AtMeter turn ∷ moments) l m' m own runs calls ends (after, passes, carries) legal flat x =
    let here : TakenOver p.plan.client l turn after = subst (λ (c : PlanValue). TakenOver c.client l turn after) (sym own) passes in
    let one = advance first p l after file turn (filter_map turn_at moments) m' m (turn ∷ filter_map turn_at moments) refl (takes_over first p l after file turn here) legal flat x in
    through first plan p done file moments after m' one.mid own runs calls ends carries legal one.flat one.is
through first plan p done file (AtHead call ∷ moments) l m' m own runs (mid, is, calls) ends (after, passes, carries) legal flat x =
    by_rest (filter_map call_at moments) refl (λ own_still on more. through first plan mid done file moments after m' m own_still on calls more carries legal flat (call_runs first p mid m l after file call runs is passes x))
  where
    now : Is first mid m after file
    now = call_runs first p mid m l after file call runs is passes x

    fits : Fits p x.0.link.taken
    fits = (runs_in first p m l file x.0 x.1 runs).1

    goes : GoesOn p mid
    goes = goes_on p mid call x.0.link.taken fits runs is

    is_done : (frame : Parts) → call ≡ On frame (Ok step.Done) → mid.course ≡ Done
    is_done frame same =
        hears_done (client_step p.link frame).1 (client_step p.link frame).0 x.0.link.taken p mid
        (heard p mid frame (Ok step.Done) x.0.link.taken fits runs (subst (λ (c : Call). IsCall p c mid) same is))

    by_course : (mid.course ≡ Running) ⊎ IsOver mid.course → EndDone (filter_map call_at moments) → (mid.plan ≡ plan → mid.course ≡ Running → EndDone (filter_map call_at moments) → IsOverAt first plan done m' file) → IsOverAt first plan done m' file
    by_course (inl on) more on_it_goes = on_it_goes (goes.plan ∙ own) on more
    by_course (inr over) more on_it_goes = absurd (never_done mid done (filter_map call_at moments) (taken_by now.0.course now.0.link.taken) over now.1.poller.fits calls more)

    by_rest : (rest : List Call) → filter_map call_at moments ≡ rest → (mid.plan ≡ plan → mid.course ≡ Running → EndDone (filter_map call_at moments) → IsOverAt first plan done m' file) → IsOverAt first plan done m' file
    by_rest [] none on_it_goes =
        let own_still : mid.plan ≡ plan = goes.plan ∙ own in
        let same : done ≡ mid = subst (λ (cs : List Call). Calls mid cs done) none calls in
        let end : EndDone (call ∷ []) = subst (λ (cs : List Call). EndDone (call ∷ cs)) none ends in
        let rest = behind first mid file moments after m' m none (subst (λ (c : PlanValue). Carries c.client after moments) (sym own_still) carries) legal flat now in
        record { last = rest.0; is = subst (λ (q : PollerValue). Is first q m' rest.0 file) (sym same) rest.1; own = ap plan_of same ∙ own_still; course = ap course_of same ∙ is_done end.0 end.1 }
    by_rest (other ∷ rest) some on_it_goes =
        by_course goes.course (subst EndDone (sym some) (subst (λ (cs : List Call). EndDone (call ∷ cs)) some ends)) on_it_goes

-- ---- the laws

-- a new poll, wherever the last one stands
fresh : (plan : PlanValue) (m : MeterWorld) (file : List Row) → IsOn m.store → DoAgree m file → (first : PlanValue) × Is (start_of first) (fresh_poll plan) m nothing_on file
fresh plan m file on (w, x) =
    let stop = can_stop plan w in
    let now : World = stop.0 in
    let is = stop.2 in (
      x.plan,
      (
        now,
        record {
          run = joined (first_world x.plan) w now x.run stop.1;
          on = on;
          poller = record {
            plan = sym is.plan;
            course = sym is.course;
            link = λ under. sym is.link;
            rows = λ done. absurd (cc (done, is.course));
            fits = subst (λ (c : Course). Fits (fresh_poll plan) (taken_by c now.link.taken)) (sym is.course) (refl, refl, refl);
          };
          meter = still_meter m w now x.meter (record { records = is.records; memory = is.memory; file = is.file });
          up = is.silent.0;
          down = is.silent.1;
          kept = is.file ∙ x.same;
        },
      ),
    )

agrees : (first : PlanValue) (p : PollerValue) (m : MeterWorld) (l : OnLine) (file : List Row) (w : World) → At (start_of first) p m l file w → Agree m file w
agrees first p m l file w x = record { plan = first; run = x.run; meter = x.meter; same = x.kept }

abbrev no_plan : PlanValue
no_plan = record { client = Public; secret = []; after = None; until = None; columns = Asked }

pub first_agree : FirstAgree
first_agree = (first_world no_plan, record { plan = no_plan; run = Stays; meter = record { own = refl; others = λ other differs. refl; store = refl }; same = refl })

pub agreeing_is_captures : AgreeingIsCaptures
agreeing_is_captures m file (w, x) =
    subst (λ (rows : List Row). AreCaptures (events_of m) rows) x.same (subst (λ (s : Store). AreCaptures (events_in s) w.file) (sym x.meter.store) (readings_are_captures x.plan w x.run))

pub runs_agree : {P A : Type 0} {ghosts : Ghosts P} (old new : Meter P A ghosts) → RunsAgree old new
runs_agree old new m m' steps file stands stands' run agree =
    let legal : IsLegal (events_of m') = known_legal new m'.store stands'.store in
    let turns : List MeterTurn = turns_of m steps m' run in
    let start = fresh no_plan m file (known_on old m.store stands.store) agree in
    let flat : Flat m' m (turns ++ []) = subst (λ (ts : List MeterTurn). Flat m' m ts) (sym (append-nil turns)) (flat_run m steps m' run) in
    let came = early (start_of start.0) (fresh_poll no_plan) nothing_on file turns [] m' m refl legal flat start.1 in
    let there = finish (start_of start.0) (fresh_poll no_plan) nothing_on file m' came.mid [] refl legal came.flat came.is in
    (there.0, agrees start.0 (fresh_poll no_plan) m' nothing_on file there.0 there.1)

pub stops_agree : StopsAgree
stops_agree m left file (w, x) stops =
    let cut : World = restarted w (Rests left) in
    let again : World = restarted cut (Runs left []) in
    let once : Run (first_world x.plan) cut = Goes w cut x.run (Restarted w Stops (Rests left) (λ none. none) (subst (λ (s : Store). StoreNext s Stops (Rests left)) x.meter.store stops)) in
    let twice : Run (first_world x.plan) again = Goes cut again once (Restarted cut (Opens left) (Runs left []) (λ none. none) (refl, refl)) in
    (again, record { plan = x.plan; run = twice; meter = recovered_is x.plan cut (Runs left []) left once refl; same = x.same })

-- the last call is the one that answers that the poll is done
ends_done : (front : List Call) (frame : Parts) → EndDone (front ++ On frame (Ok step.Done) ∷ [])
ends_done [] frame = (frame, refl)
ends_done (call ∷ []) frame = (frame, refl)
ends_done (call ∷ other ∷ front) frame = ends_done (other ∷ front) frame

not_the_first : (frame : Option Parts) (calls : List Call) → EndDone (Next frame ∷ calls) → EndDone calls
not_the_first frame [] (last, is) = absurd (not_next frame last is)
not_the_first frame (call ∷ calls) ends = ends

-- a poll that is done over the line, from where a run starts
pub poll_over : (first : Start) (plan : PlanValue) (front : List Call) (frame : Parts) (done : PollerValue) (m m' : MeterWorld) (steps : List Step) (run : MeterRun m steps m') (file : List Row) → IsLegal (events_of m')
    → Is first (fresh_poll plan) m nothing_on file → Calls (fresh_poll plan) (front ++ On frame (Ok step.Done) ∷ []) done → Joins plan (front ++ On frame (Ok step.Done) ∷ []) (turns_of m steps m' run) → IsOverAt first plan done m' file
poll_over first plan front frame done m m' steps run file legal start calls joins =
    let rest : List MeterTurn = filter_map turn_at joins.moments in
    let flat : Flat m' m (joins.early ++ rest) = subst (λ (ts : List MeterTurn). Flat m' m ts) joins.are_turns (flat_run m steps m' run) in
    let came = early first (fresh_poll plan) nothing_on file joins.early rest m' m refl legal flat start in
    let its : Calls (fresh_poll plan) (Next joins.frame ∷ filter_map call_at joins.moments) done = subst (λ (cs : List Call). Calls (fresh_poll plan) cs done) joins.are_calls calls in
    let ends : EndDone (filter_map call_at joins.moments) = not_the_first joins.frame (filter_map call_at joins.moments) (subst EndDone joins.are_calls (ends_done front frame)) in
    let begins : BeginsIn Ready (fresh_poll plan) joins.frame its.0 = its.1.0 in
    let w : World = came.is.0 in
    let x : At first (fresh_poll plan) came.mid nothing_on file w = came.is.1 in
    let begun : Is first its.0 came.mid (record { up = sent_first joins.frame; down = w.link.down_line }) file =
    turned first (fresh_poll plan) its.0 came.mid nothing_on file w (sent_first joins.frame) w.link.down_line x (next_is_turn w joins.frame (fresh_poll plan) its.0 x.poller (sym x.poller.course) begins) in
    let at : Is first its.0 came.mid (record { up = sent_first joins.frame; down = [] }) file = subst (λ (d : List Parts). Is first its.0 came.mid (record { up = sent_first joins.frame; down = d }) file) x.down begun in
    through first plan its.0 done file joins.moments (record { up = sent_first joins.frame; down = [] }) m' came.mid (ap plan_of begins.1) (ap course_of begins.1) its.2 ends joins.carried legal came.flat at

-- its world, the rows of the buffer, and a merge of them
pub record Ended (first : Start) (plan : PlanValue) (done : PollerValue) (m' : MeterWorld) (file : List Row) : Type 0 where
  pub world : World
  pub run : Run first.world world
  pub meter : IsMeterOf m' world
  pub kept : world.file ≡ file
  pub brings : BringsBuffer plan world.served done.talk.rows
  pub merges : (kept : List Row) → IsSublist kept done.talk.rows → Turn world (record world { file = merged file kept })

pub ended : (first : Start) (plan : PlanValue) (done : PollerValue) (m' : MeterWorld) (file : List Row) → IsOverAt first plan done m' file → Ended first plan done m' file
ended first plan done m' file end =
    let w : World = end.is.0 in
    let x : At first done m' end.last file w = end.is.1 in
    let over : w.course ≡ Done = sym x.poller.course ∙ end.course in
    let rows : done.talk.rows ≡ w.rows = x.poller.rows over in
    let brings : BringsBuffer w.plan w.served w.rows = told_from first w x.run over in
    record {
      world = w;
      run = x.run;
      meter = x.meter;
      kept = x.kept;
      brings = subst (λ (rs : List Row). BringsBuffer plan w.served rs) (sym rows) (subst (λ (p : PlanValue). BringsBuffer p w.served w.rows) (sym x.poller.plan ∙ end.own) brings);
      merges = λ kept some. subst (λ (f : List Row). Turn w (record w { file = merged f kept })) x.kept (Merges w kept over (subst (λ (rs : List Row). IsSublist kept rs) rows some));
    }

pub polls_agree : {P A : Type 0} {ghosts : Ghosts P} (old new : Meter P A ghosts) → PollsAgree old new
polls_agree old new plan front frame done m m' steps run file stands stands' agree calls joins =
    let start = fresh plan m file (known_on old m.store stands.store) agree in
    let end = ended (start_of start.0) plan done m' file (poll_over (start_of start.0) plan front frame done m m' steps run file (known_legal new m'.store stands'.store) start.1 calls joins) in (
      end.world,
      record { plan = start.0; run = end.run; meter = end.meter; same = end.kept },
      end.brings,
      λ kept some. (
        record end.world { file = merged file kept },
        record {
          plan = start.0;
          run = Goes end.world (record end.world { file = merged file kept }) end.run (end.merges kept some);
          meter = record { own = end.meter.own; others = end.meter.others; store = end.meter.store };
          same = refl;
        },
      ),
    )
