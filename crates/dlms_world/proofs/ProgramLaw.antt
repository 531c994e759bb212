-- A program that makes the calls of a meter, a poller and a readings file is a run of the world.
use Rattle.std.proofs.Common.{◌≡◌, ◌≢◌, ◌⊎◌, ◌∙◌, inl, inr, refl, sym, ap, subst, append-nil, ℕ, Bool, true, false, if◌then◌else◌, List, [], ◌∷◌, ◌++◌, Option, None, Some, Result, Ok, Err}
use Rattle.dlms_frame.specs.Frame.{Parts, IsFrame}
use Rattle.dlms_frame.specs.declared.client.Client.{Client}
use Rattle.dlms_frame.proofs.LawLemmas.{one_frame, one_next}
use Rattle.dlms_headend.specs.Asking.{PlanValue}
use Rattle.dlms_headend.specs.Merged.{merged}
use Rattle.dlms_headend.specs.PollerValue.{PollerValue}
use Rattle.dlms_headend.specs.Polling.{Fits, FitsIn, fresh_poll}
use Rattle.dlms_headend.specs.declared.row.Row.{Row}
use Rattle.dlms_headend.specs.declared.stage.Course.{Course}
use Rattle.dlms_headend.specs.declared.stage.Course.TheVariants.{Ready, Running, Done}
use Rattle.dlms_link.specs.World.{happens, without_first, LostUp, LostDown}
use Rattle.dlms_link.specs.declared.phase.Phase.TheVariants.{Closed}
use Rattle.dlms_meter.specs.declared.meter.Meter.{Meter}
use Rattle.dlms_meter.specs.Run.{MeterWorld, client_at, events_in, events_of, is_same, recovered, silent, first_world as first_of_meter, Stands}
use Rattle.dlms_meter.proofs.Apart.{is_itself, same-is, not_same}
use Rattle.dlms_meter.specs.ClientRecord.{ClientRecord}
use Rattle.dlms_pages.specs.Device.{Image, View}
use Rattle.dlms_pages.specs.Stops.{IsFixed}
use Rattle.dlms_pages.specs.declared.device.Pages.{Ghosts}
use Rattle.dlms_state.specs.declared.event.Event.{Event}
use Rattle.dlms_store.specs.Fitting.{DeviceFits, StoreFits, LeftBy}
use Rattle.dlms_store.specs.Image.{IsLeftFor}
use Rattle.dlms_store.specs.World.{StoreWorld}
use Rattle.dlms_store.specs.World.StoreWorld.{Rests}
use Rattle.dlms_store.specs.World.StoreStep.{Stops as StopsStore}
use Rattle.dlms_store.specs.declared.store.Store.{Store}
use Rattle.dlms_store.proofs.Keeping.{left_between_calls}
use Rattle.dlms_store.specs.declared.fault.AddFault.{AddFault}
use Rattle.dlms_store.specs.declared.fault.AddFault.TheVariants as add
use Rattle.dlms_world.specs.Agree.{AreCaptures}
use Rattle.dlms_world.specs.World.{World, first_world}
use Rattle.dlms_world.specs.Sublists.{IsSublist}
use Rattle.dlms_world.specs.Turn.{Turn, LosesUp, LosesDown, Merges as MergesTurn, Restarted, Run, Stays, Goes, restarted, records_in}
use Rattle.dlms_world.specs.PollTurns.{IsPollerOf, IsUnderWay, taken_by, IsAsideSame, TurnsInto, sent_first, sent_on, sent_again}
use Rattle.dlms_world.specs.MeterTurns.{IsMeterOf, IsPollSame, AnswersTo, StepsTo, StepsFrom, StepsAt, Puts, IsToldIn, IsLeftInStep}
use Rattle.dlms_world.specs.Programs.{Held, IsReply, Recovers, Made, Failed, CutOff, CutOffMaking, Act, Begins, Hears, Waits, Renews, Merges, LosesGoing, LosesComing, Arrives, Feeds, Intrudes, Idles, Tells, Stops, StopsFeeding, StopsTelling, Acts, Begun, Then, IsFirst, FilesAreCaptures}
use Rattle.dlms_world.proofs.PollCallsAreTurns.{new_is_first, next_is_turn, on_is_turn, timeout_is_turn}
use Rattle.dlms_world.proofs.LineFrames.{AreFrames, are_frames}
use Rattle.dlms_world.proofs.Records.{its_record, other_record}
use Rattle.dlms_world.proofs.Renewed.{new_is_turn}
use Rattle.dlms_world.proofs.Stopping.{stops_are_turns, recoveries_are_turns}
use Rattle.dlms_world.proofs.Telling.{tells}
use Rattle.dlms_world.proofs.CallsAreTurns.{feeds_are_turns, events_are_turns}
use Rattle.dlms_world.proofs.Whole.{good, readings_are_captures}

-- a run of the world that represents the state of such a program
record Matches {P A : Type 0} {ghosts : Ghosts P} (plan : PlanValue) (h : Held P A ghosts) (w : World) : Type 0 where
  run : Run (first_world plan) w
  m : MeterWorld
  stands : Stands h.meter m
  fits : StoreFits h.meter.store m.store
  meter : IsMeterOf m w
  poller : IsPollerOf h.poller w
  going : w.link.up_line ≡ h.going
  coming : w.link.down_line ≡ h.coming
  file : w.file ≡ h.file

-- ---- calls of the poller

-- what the meter keeps of each client, together
all_of : (m : MeterWorld) (w : World) → IsMeterOf m w → (who : Client) → m.records who ≡ records_in w who
all_of m w at who = by_test (is_same w.plan.client who) refl
  where
    by_test : (b : Bool) → is_same w.plan.client who ≡ b → m.records who ≡ (let own : ClientRecord = record { link = w.link.meter; session = w.session } in if b then own else w.others who)
    by_test true e = ap m.records (sym (same-is w.plan.client who e)) ∙ at.own
    by_test false e = at.others who (not_same w.plan.client who e)

pub still_meter : (m : MeterWorld) (w now : World) → IsMeterOf m w → IsAsideSame w now → IsMeterOf m now
still_meter m w now at same =
    let all : (who : Client) → m.records who ≡ records_in now who = λ who. all_of m w at who ∙ sym (same.records who) in
    record { own = all now.plan.client ∙ its_record now; others = λ other differs. all other ∙ other_record now other differs; store = at.store ∙ sym same.memory }

turned : {P A : Type 0} {ghosts : Ghosts P} (plan : PlanValue) (h now : Held P A ghosts) (w : World) (sent left : List Parts) → Matches plan h w → TurnsInto w sent left now.poller → now.meter ≡ h.meter → now.file ≡ h.file
    → w.link.up_line ++ sent ≡ now.going → left ≡ now.coming → (w' : World) × Matches plan now w'
turned plan h now w sent left x (w', turn, poller, up, down, same) meter file going coming = (
  w',
  record {
    run = Goes w w' x.run turn;
    m = x.m;
    stands = subst (λ y. Stands y x.m) (sym meter) x.stands;
    fits = subst (λ y. StoreFits y.store x.m.store) (sym meter) x.fits;
    meter = still_meter x.m w w' x.meter same;
    poller = poller;
    going = up ∙ going;
    coming = down ∙ coming;
    file = same.file ∙ x.file ∙ sym file;
  },
)

runs : {P A : Type 0} {ghosts : Ghosts P} (plan : PlanValue) (h : Held P A ghosts) (w : World) (course : Course) → Matches plan h w → h.poller.course ≡ course → w.course ≡ course
runs plan h w course x is = sym x.poller.course ∙ is

-- ---- calls of the meter

pub still_poller : (p : PollerValue) (w now : World) → IsPollerOf p w → IsPollSame w now → IsPollerOf p now
still_poller p w now is same = record {
  plan = is.plan ∙ sym same.plan;
  course = is.course ∙ sym same.course;
  link = λ under. is.link (subst IsUnderWay same.course under) ∙ sym same.client;
  rows = λ done. is.rows (sym same.course ∙ done) ∙ sym same.rows;
  fits = subst (λ c. Fits p (taken_by c now.link.taken)) (sym same.course) (subst (λ l. Fits p (taken_by w.course l)) (sym same.taken) is.fits);
}

-- what the meter put on the line is the frame that its reply spells
pub put : (reply : Option (List ℕ)) (before after sent : List Parts) → AreFrames after → Puts reply before after → IsReply reply sent → after ≡ before ++ sent
put None before after sent lawful puts is = puts ∙ sym (append-nil before) ∙ ap (λ (l : List Parts). before ++ l) (sym is)
put (Some reply) before after sent lawful (f, spells, puts) (g, is, one) =
    let fits : IsFrame f = last_of before f (subst (λ (l : List Parts). AreFrames l) puts lawful) in
    let same : f ≡ g = one_frame reply f g (record { fits = fits; text = spells }) is in
    puts ∙ ap (λ (x : Parts). before ++ x ∷ []) same ∙ ap (λ (l : List Parts). before ++ l) (sym one)
  where
    last_of : (front : List Parts) (f : Parts) → AreFrames (front ++ f ∷ []) → IsFrame f
    last_of [] f all = all.0
    last_of (x ∷ front) f all = last_of front f all.1

pub lawful : (plan : PlanValue) (now : World) → Run (first_world plan) now → AreFrames now.link.down_line
lawful plan now run = are_frames now.plan.client now.link (good tells plan now run).link.sound

answered : {P A : Type 0} {ghosts : Ghosts P} (plan : PlanValue) (h : Held P A ghosts) (w : World) (new : Meter P A ghosts) (m : MeterWorld) (left sent : List Parts) (reply : Option (List ℕ)) → Matches plan h w
    → AnswersTo w left reply m → IsReply reply sent → Stands new m → StoreFits new.store m.store → (w' : World) × Matches plan (record h { meter = new; going = left; coming = h.coming ++ sent }) w'
answered plan h w new m left sent reply x (w', turn, meter, same, up, puts) is stands fits =
    let run : Run (first_world plan) w' = Goes w w' x.run turn in (
      w',
      record {
        run = run;
        m = m;
        stands = stands;
        fits = fits;
        meter = meter;
        poller = still_poller h.poller w w' x.poller same;
        going = up;
        coming = put reply w.link.down_line w'.link.down_line sent (lawful plan w' run) puts is ∙ ap (λ (l : List Parts). l ++ sent) x.coming;
        file = same.file ∙ x.file;
      },
    )

stepped : {P A : Type 0} {ghosts : Ghosts P} (plan : PlanValue) (h : Held P A ghosts) (w : World) (new : Meter P A ghosts) (m : MeterWorld) → Matches plan h w → StepsTo w m → Stands new m → StoreFits new.store m.store
    → (w' : World) × Matches plan (record h { meter = new }) w'
stepped plan h w new m x (w', turn, meter, same, up, down) stands fits = (
  w',
  record {
    run = Goes w w' x.run turn;
    m = m;
    stands = stands;
    fits = fits;
    meter = meter;
    poller = still_poller h.poller w w' x.poller same;
    going = up ∙ x.going;
    coming = down ∙ x.coming;
    file = same.file ∙ x.file;
  },
)

stayed : {P A : Type 0} {ghosts : Ghosts P} (plan : PlanValue) (h : Held P A ghosts) (w : World) (new : Meter P A ghosts) (m : MeterWorld) → Matches plan h w → IsMeterOf m w → Stands new m → StoreFits new.store m.store
    → (w' : World) × Matches plan (record h { meter = new }) w'
stayed plan h w new m x at stands fits = (w, record { run = x.run; m = m; stands = stands; fits = fits; meter = at; poller = x.poller; going = x.going; coming = x.coming; file = x.file })

-- ---- stops and recoveries

rested : {P A : Type 0} {ghosts : Ghosts P} (plan : PlanValue) (h : Held P A ghosts) (w : World) (memory : StoreWorld) → Turn w (restarted w memory) → IsPollSame w (restarted w memory)
rested plan h w memory turn = record { plan = refl; course = refl; rows = refl; file = refl; client = refl; taken = refl }

-- what a device after a stop fits
fixed : (after : View) (events : List Event) (image : Image) → IsFixed after image → IsLeftFor events image → DeviceFits after (Rests events)
fixed after events image is left = record { honest = is.honest; each = λ c may. subst (λ (i : Image). IsLeftFor events i) (sym (is.only c may)) left }

-- the rest of what such a program holds
record Apart {P A : Type 0} {ghosts : Ghosts P} (plan : PlanValue) (h : Held P A ghosts) (w : World) : Type 0 where
  run : Run (first_world plan) w
  poller : IsPollerOf h.poller w
  going : w.link.up_line ≡ h.going
  coming : w.link.down_line ≡ h.coming
  file : w.file ≡ h.file

parts : {P A : Type 0} {ghosts : Ghosts P} (plan : PlanValue) (h : Held P A ghosts) (w : World) → Matches plan h w → Apart plan h w
parts plan h w x = record { run = x.run; poller = x.poller; going = x.going; coming = x.coming; file = x.file }

apart : {P A : Type 0} {ghosts : Ghosts P} (plan : PlanValue) (h : Held P A ghosts) (w : World) (memory : StoreWorld) → Apart plan h w → Turn w (restarted w memory) → Apart plan h (restarted w memory)
apart plan h w memory x turn = record {
  run = Goes w (restarted w memory) x.run turn;
  poller = still_poller h.poller w (restarted w memory) x.poller (rested plan h w memory turn);
  going = x.going;
  coming = x.coming;
  file = x.file;
}

recovers : {P A : Type 0} {ghosts : Ghosts P} (plan : PlanValue) (h : Held P A ghosts) (new : Meter P A ghosts) (device : P) (w : World) → Recovers new device → Apart plan h w → DeviceFits (ghosts.view device) w.memory
    → (w' : World) × Matches plan (record h { meter = new }) w'
recovers plan h new device w (Made same opens) x fits =
    let it = recoveries_are_turns new plan w device x.run (opens.opens w.memory fits) opens.stands in
    let rest = apart plan h w it.1 x it.2 in (
      restarted w it.1,
      record {
        run = rest.run;
        m = recovered it.0;
        stands = it.3;
        fits = subst (λ (s : StoreWorld). StoreFits new.store s) (sym it.4.store) it.5;
        meter = it.4;
        poller = rest.poller;
        going = rest.going;
        coming = rest.coming;
        file = rest.file;
      },
    )
recovers plan h new device w (Failed same back fault gives rest) x fits =
    let it = gives w.memory fits in
    recovers plan h new back (restarted w it.now) rest (apart plan h w it.now x (Restarted w _ it.now (λ none. none) it.next)) it.fits
recovers {P} {A} {ghosts} plan h new device w (CutOff same back after fault image gives left is rest) x fits =
    let it = gives w.memory fits in
    let cut : LeftBy w.memory image = it.any_moment.each image left in
    recovers plan h new after (restarted w (Rests cut.0)) rest (apart plan h w (Rests cut.0) x (Restarted w StopsStore (Rests cut.0) (λ none. none) cut.1)) (fixed (ghosts.view after) cut.0 image is cut.2)
recovers {P} {A} {ghosts} plan h new device w (CutOffMaking same after other image opens left is rest) x fits =
    let cut : LeftBy w.memory image = (opens.opens w.memory fits).any_moment.each image left in
    recovers plan h new after (restarted w (Rests cut.0)) rest (apart plan h w (Rests cut.0) x (Restarted w StopsStore (Rests cut.0) (λ none. none) cut.1)) (fixed (ghosts.view after) cut.0 image is cut.2)

-- ---- what such a program does

-- a client is the one that an address is of
pub same_client : (who : Client) (of : Option Client) → of ≡ Some who → (w : World) (frame : Parts) (reply : Option (List ℕ)) (m : MeterWorld) → StepsAt of w frame reply m → StepsFrom (is_same w.plan.client who) w frame reply m
same_client who None is w frame reply m steps = cc
same_client who (Some other) is w frame reply m steps = subst (λ (c : Option Client). StepsAt c w frame reply m) is steps

pub its_own : (w : World) (who : Client) → who ≡ w.plan.client → (frame : Parts) (reply : Option (List ℕ)) (m : MeterWorld) → StepsFrom (is_same w.plan.client who) w frame reply m → StepsFrom true w frame reply m
its_own w who is frame reply m steps =
    subst (λ (b : Bool). StepsFrom b w frame reply m) (ap (λ (c : Client). is_same w.plan.client c) is ∙ is_itself w.plan.client) steps

-- bytes of nobody of the poller's client are a step, or none
pub others_step : (from : Option Client) (w : World) (frame : Parts) (reply : Option (List ℕ)) (m : MeterWorld) → from ≢ Some w.plan.client → StepsAt from w frame reply m → IsMeterOf m w ⊎ StepsTo w m
others_step None w frame reply m other steps = inl steps.0
others_step (Some who) w frame reply m other steps = by_test (is_same w.plan.client who) refl steps
  where
    by_test : (b : Bool) → is_same w.plan.client who ≡ b → StepsFrom b w frame reply m → IsMeterOf m w ⊎ StepsTo w m
    by_test true same taken = absurd (other (ap (λ (c : Client). (let some : Option Client = Some c in some)) (sym (same-is w.plan.client who same))))
    by_test false same taken = inr taken

-- of anyone, before the poller begins
pub any_step : (from : Option Client) (w : World) (frame : Parts) (reply : Option (List ℕ)) (m : MeterWorld) → w.course ≡ Ready → w.link.client.phase ≡ Closed → StepsAt from w frame reply m → IsMeterOf m w ⊎ StepsTo w m
any_step None w frame reply m ready closed steps = inl steps.0
any_step (Some who) w frame reply m ready closed steps = by_test (is_same w.plan.client who) steps
  where
    idle : w.course ≡ Running → ⊥
    idle runs = cc

    by_test : (b : Bool) → StepsFrom b w frame reply m → IsMeterOf m w ⊎ StepsTo w m
    by_test true taken = inr (taken.1 idle closed)
    by_test false taken = inr taken

either : {P A : Type 0} {ghosts : Ghosts P} (plan : PlanValue) (h : Held P A ghosts) (w : World) (new : Meter P A ghosts) (m : MeterWorld) → Matches plan h w → Stands new m → StoreFits new.store m.store → IsMeterOf m w ⊎ StepsTo w m
    → (w' : World) × Matches plan (record h { meter = new }) w'
either plan h w new m x stands fits (inl at) = stayed plan h w new m x at stands fits
either plan h w new m x stands fits (inr to) = stepped plan h w new m x to stands fits

accepted : {P A : Type 0} {ghosts : Ghosts P} (plan : PlanValue) (h : Held P A ghosts) (w : World) (new : Meter P A ghosts) (m : MeterWorld) (now : World) → Matches plan h w → Stands new m → StoreFits new.store m.store → Turn w now
    → IsMeterOf m now → now ≡ record w { memory = now.memory } → (w' : World) × Matches plan (record h { meter = new }) w'
accepted plan h w new m now x stands fits turn at is =
    stepped plan h w new m x (
      now,
      turn,
      at,
      record { plan = ap (λ (v : World). v.plan) is; course = ap (λ (v : World). v.course) is; rows = ap (λ (v : World). v.rows) is; file = ap (λ (v : World). v.file) is; client = ap (λ (v : World). v.link.client) is; taken = ap (λ (v : World). v.link.taken) is },
      ap (λ (v : World). v.link.up_line) is,
      ap (λ (v : World). v.link.down_line) is,
    ) stands fits

told : {P A : Type 0} {ghosts : Ghosts P} (plan : PlanValue) (h : Held P A ghosts) (w : World) (new : Meter P A ghosts) (m : MeterWorld) (event : Event) (outcome : Result (Unit {0}) AddFault) → Matches plan h w → Stands new m
    → StoreFits new.store m.store → IsToldIn w event outcome m → (w' : World) × Matches plan (record h { meter = new }) w'
told plan h w new m event (Ok done) x stands fits (now, turn, at, is, events) = accepted plan h w new m now x stands fits turn at is
told plan h w new m event (Err add.Device) x stands fits (now, turn, at, is, events) = accepted plan h w new m now x stands fits turn at is
told plan h w new m event (Err add.Stopped) x stands fits at = stayed plan h w new m x at stands fits
told plan h w new m event (Err add.Exhausted) x stands fits at = stayed plan h w new m x at stands fits
told plan h w new m event (Err (add.Refused cause)) x stands fits at = stayed plan h w new m x at stands fits

-- the poller's end of the line of a poll that has not begun
not_begun : {P A : Type 0} {ghosts : Ghosts P} (plan : PlanValue) (h : Held P A ghosts) (w : World) → Matches plan h w → h.poller.course ≡ Ready → w.link.client.phase ≡ Closed
not_begun plan h w x ready =
    let course : w.course ≡ Ready = runs plan h w Ready x ready in
    let link : h.poller.link ≡ w.link.client = x.poller.link (subst (λ (c : Course). IsUnderWay c) (sym course) tt) in
    let fits : FitsIn Ready h.poller (taken_by w.course w.link.taken) = subst (λ (c : Course). FitsIn c h.poller (taken_by w.course w.link.taken)) ready x.poller.fits in
    ap (λ c. c.phase) (sym link) ∙ ap (λ c. c.phase) fits.0

act : {P A : Type 0} {ghosts : Ghosts P} (plan : PlanValue) (h now : Held P A ghosts) (w : World) → Act h now → Matches plan h w → (w' : World) × Matches plan now w'
act plan h now w (Begins same result new ready begins) x =
    turned plan h (record h { poller = new; going = h.going ++ sent_first result }) w (sent_first result) w.link.down_line x
    (next_is_turn w result h.poller new x.poller (runs plan h w Ready x ready) begins) refl refl (ap (λ (l : List Parts). l ++ sent_first result) x.going) x.coming
act plan h now w (Hears same frame rest result new running line polls) x =
    let course : w.course ≡ Running = runs plan h w Running x running in
    let fits : Fits h.poller w.link.taken = subst (λ (c : Course). Fits h.poller (taken_by c w.link.taken)) course x.poller.fits in
    turned plan h (record h { poller = new; going = h.going ++ sent_on result; coming = rest }) w (sent_on result) rest x
    (on_is_turn w frame rest result h.poller new x.poller course (x.coming ∙ line) (polls w.link.taken fits)) refl refl (ap (λ (l : List Parts). l ++ sent_on result) x.going) refl
act plan h now w (Waits same result new running can none nothing times_out) x =
    turned plan h (record h { poller = new; going = sent_again result }) w (sent_again result) [] x
    (timeout_is_turn w result h.poller new x.poller (runs plan h w Running x running) can (x.going ∙ none) (x.coming ∙ nothing) times_out) refl refl (ap (λ (l : List Parts). l ++ sent_again result) (x.going ∙ none)) (sym nothing)
act plan h now w (Renews same next none nothing) x =
    turned plan h (record h { poller = fresh_poll next }) w [] [] x
    (new_is_turn next w (x.going ∙ none) (x.coming ∙ nothing)) refl refl (append-nil w.link.up_line ∙ x.going) (sym nothing)
act plan h now w (Merges same kept done some) x =
    let over : w.course ≡ Done = runs plan h w Done x done in
    let of_world : IsSublist kept w.rows = subst (λ (rows : List Row). IsSublist kept rows) (x.poller.rows over) some in (
      record w { file = merged w.file kept },
      record {
        run = Goes w (record w { file = merged w.file kept }) x.run (MergesTurn w kept over of_world);
        m = x.m;
        stands = x.stands;
        fits = x.fits;
        meter = record { own = x.meter.own; others = x.meter.others; store = x.meter.store };
        poller = record { plan = x.poller.plan; course = x.poller.course; link = x.poller.link; rows = x.poller.rows; fits = x.poller.fits };
        going = x.going;
        coming = x.coming;
        file = ap (λ (f : List Row). merged f kept) x.file;
      },
    )
act plan h now w (LosesGoing same frame rest line) x = (
  record w { link = happens w.link LostUp },
  record {
    run = Goes w _ x.run (LosesUp w);
    m = x.m;
    stands = x.stands;
    fits = x.fits;
    meter = record { own = x.meter.own; others = x.meter.others; store = x.meter.store };
    poller = record { plan = x.poller.plan; course = x.poller.course; link = x.poller.link; rows = x.poller.rows; fits = x.poller.fits };
    going = ap without_first (x.going ∙ line);
    coming = x.coming;
    file = x.file;
  },
)
act plan h now w (LosesComing same frame rest line) x = (
  record w { link = happens w.link LostDown },
  record {
    run = Goes w _ x.run (LosesDown w);
    m = x.m;
    stands = x.stands;
    fits = x.fits;
    meter = record { own = x.meter.own; others = x.meter.others; store = x.meter.store };
    poller = record { plan = x.poller.plan; course = x.poller.course; link = x.poller.link; rows = x.poller.rows; fits = x.poller.fits };
    going = x.going;
    coming = ap without_first (x.coming ∙ line);
    file = x.file;
  },
)
act plan h now w (Arrives same frame rest sent taken reply new line own ends feeds is) x =
    let fed = feeds_are_turns h.meter new taken reply x.m w feeds x.stands x.meter in
    let at = ends x.m x.stands in
    elim fed.3 [
      | inl free ↦ absurd (free.0 at.0 at.1 frame at.2.behind at.2.stands)
      | inr found ↦ (
          let same_frame : found.2 ≡ frame = (one_next (x.m.stretch ++ taken) x.m.place found.0 found.1 at.0 at.1 found.2 frame found.3 at.2).1 in
          let steps : StepsAt (client_at frame.src) w frame reply fed.0 = subst (λ (f : Parts). StepsAt (client_at f.src) w f reply fed.0) same_frame found.5 in
          let mine : StepsFrom true w frame reply fed.0 =
          its_own w h.poller.plan.client (ap (λ (p : PlanValue). p.client) x.poller.plan) frame reply fed.0 (same_client h.poller.plan.client (client_at frame.src) own w frame reply fed.0 steps) in
          answered plan h w new fed.0 rest sent reply x (mine.0 rest (x.going ∙ line)) is fed.1 (fed.2 x.fits)
          )
    ]
act plan h now w (Feeds same taken reply new none feeds) x =
    let fed = feeds_are_turns h.meter new taken reply x.m w feeds x.stands x.meter in
    elim fed.3 [
      | inl free ↦ stayed plan h w new fed.0 x free.2 fed.1 (fed.2 x.fits)
      | inr found ↦ (
          let other : client_at found.2.src ≢ Some w.plan.client = λ is. none x.m found.0 found.1 found.2 x.stands found.3 found.4 (is ∙ ap (λ (p : PlanValue). (let some : Option Client = Some p.client in some)) (sym x.poller.plan)) in
          either plan h w new fed.0 x fed.1 (fed.2 x.fits) (others_step (client_at found.2.src) w found.2 reply fed.0 other found.5)
          )
    ]
act plan h now w (Intrudes same taken reply new ready feeds) x =
    let fed = feeds_are_turns h.meter new taken reply x.m w feeds x.stands x.meter in
    elim fed.3 [
      | inl free ↦ stayed plan h w new fed.0 x free.2 fed.1 (fed.2 x.fits)
      | inr found ↦ either plan h w new fed.0 x fed.1 (fed.2 x.fits) (any_step (client_at found.2.src) w found.2 reply fed.0 (runs plan h w Ready x ready) (not_begun plan h w x ready) found.5)
    ]
act {P} {A} {ghosts} plan h now w (Idles same new idles store) x =
    stayed plan h w new (silent x.m) x (record { own = x.meter.own; others = x.meter.others; store = x.meter.store }) (idles x.m x.stands) (subst (λ (s : Store P A ghosts). StoreFits s x.m.store) (sym store) x.fits)
act plan h now w (Tells same event outcome new judges) x =
    let done = events_are_turns h.meter new event outcome x.m w judges x.stands x.meter in
    told plan h w new done.0 event outcome x done.1 (done.2 x.fits) done.3
act {P} {A} {ghosts} plan h now w (Stops same image after new may is rest) x =
    let cut : LeftBy x.m.store image = left_between_calls x.m.store h.meter.store x.fits image may in
    let here : LeftBy w.memory image = subst (λ (s : StoreWorld). LeftBy s image) x.meter.store cut in
    recovers plan h new after (restarted w (Rests here.0)) rest (apart plan h w (Rests here.0) (parts plan h w x) (Restarted w StopsStore (Rests here.0) (λ none. none) here.1)) (fixed (ghosts.view after) here.0 image is here.2)
act {P} {A} {ghosts} plan h now w (StopsFeeding same taken reply cut image after new feeds left is rest) x =
    let here : IsLeftInStep w image = ((stops_are_turns h.meter cut x.m w x.stands x.fits x.meter).0 taken reply feeds).each image left in
    recovers plan h new after (restarted w (Rests here.0)) rest (apart plan h w (Rests here.0) (parts plan h w x) here.1) (fixed (ghosts.view after) here.0 image is here.2)
act {P} {A} {ghosts} plan h now w (StopsTelling same event outcome cut image after new judges left is rest) x =
    let here : IsLeftInStep w image = ((stops_are_turns h.meter cut x.m w x.stands x.fits x.meter).1 event outcome judges).each image left in
    recovers plan h new after (restarted w (Rests here.0)) rest (apart plan h w (Rests here.0) (parts plan h w x) here.1) (fixed (ghosts.view after) here.0 image is here.2)

begun : {P A : Type 0} {ghosts : Ghosts P} (plan : PlanValue) (h : Held P A ghosts) → IsFirst plan h → Matches plan h (first_world plan)
begun plan h is = record {
  run = Stays;
  m = first_of_meter;
  stands = is.stands;
  fits = is.fits;
  meter = record { own = refl; others = λ other differs. refl; store = refl };
  poller = subst (λ (p : PollerValue). IsPollerOf p (first_world plan)) (sym is.poller) (new_is_first plan);
  going = sym is.going;
  coming = sym is.coming;
  file = sym is.file;
}

acts : {P A : Type 0} {ghosts : Ghosts P} (plan : PlanValue) (first now : Held P A ghosts) → IsFirst plan first → Acts first now → (w : World) × Matches plan now w
acts plan first now is Begun = (first_world plan, begun plan first is)
acts plan first now is (Then mid last before one) =
    let there = acts plan first mid is before in
    act plan mid last there.0 one there.1

pub files_are_captures : {P A : Type 0} {ghosts : Ghosts P} (meter : Meter P A ghosts) → FilesAreCaptures meter
files_are_captures meter plan first now is done same =
    let at = acts plan first now is done in
    let x = at.1 in (
      x.m,
      subst (λ m. Stands m x.m) same x.stands,
      subst (λ m. StoreFits m.store x.m.store) same x.fits,
      subst (λ (f : List Row). AreCaptures (events_of x.m) f) x.file
          (subst (λ (s : StoreWorld). AreCaptures (events_in s) at.0.file) (sym x.meter.store) (readings_are_captures plan at.0 x.run)),
    )
