-- A poll over a line, turn by turn.
use Rattle.std.proofs.Common.{arith, refl, sym, ap, subst, inl, inr, append-nil, append_assoc, ◌∙◌, ◌≡◌, ◌+◌, ℕ, List, [], ◌∷◌, ◌++◌, length, length-append}
use Rattle.std.specs.Prelude.{Option, Some, Result, Ok, Err, IsErrAnd}
use Rattle.std.specs.declared.io.Error.{Error}
use Rattle.dlms_frame.specs.Frame.{Parts, spelling}
use Rattle.dlms_headend.specs.Asking.{PlanValue}
use Rattle.dlms_headend.specs.Poll.{HasReleased}
use Rattle.dlms_headend.specs.Polling.{fresh_poll}
use Rattle.dlms_headend.specs.PollRun.{Call, Calls, ComesIn, Hears as HearsBy, HearsEarly, IsCall, Poll as PollOf, PollRun, first_poll}
use Rattle.dlms_headend.specs.PollRun.Call.{Next, On}
use Rattle.dlms_headend.specs.PollerValue.{PollerValue}
use Rattle.dlms_headend.specs.declared.stage.Course.{Course}
use Rattle.dlms_headend.specs.declared.stage.Course.TheVariants as course
use Rattle.dlms_headend.specs.declared.step.PollStep.TheVariants as step
use Rattle.dlms_headend.proofs.Running.{calls_are_a_poll, done_is_told}
use Rattle.dlms_meter.specs.Run.{MeterWorld, Stands}
use Rattle.dlms_meter.specs.Steps.{Step}
use Rattle.dlms_meter.specs.declared.meter.Meter.{Meter}
use Rattle.dlms_pages.specs.declared.device.Pages.{Ghosts}
use Rattle.dlms_ends.specs.BothEnds.{CallFails, Called, IsDonePoll, IsPolled, PollFails, Polls}
use Rattle.dlms_ends.specs.BothEnds.PollFails.{HeadFails, MeterBreaks, Tires, Unbegun}
use Rattle.dlms_ends.specs.Calling.{Act, Acts, AreListening, Begins, Did, Fails, HeadWorld, IsIn, TakesTurn as HeadTakes, calls_by, calls_of, frames_by, frames_of, goes_out, listed, moments_of}
use Rattle.dlms_ends.specs.Calling.Act.{Gets, Skips, Hears, Waits}
use Rattle.dlms_ends.specs.Faults.{IsOfSystem, TellsError}
use Rattle.dlms_ends.specs.Moments.{Moment, Breaks}
use Rattle.dlms_ends.specs.Serving.{Broken, Served, Turned as MeterTurned, Unturned, moments_of as moments_in, unanswered}
use Rattle.dlms_ends.specs.declared.fault.RunFault.{RunFault}
use Rattle.dlms_ends.specs.declared.fault.RunFault.TheVariants.{Poll}
use Rattle.dlms_ends.specs.declared.head_end.HeadEnd.{HeadEnd}
use Rattle.dlms_ends.specs.declared.head_end.PollTurn.{PollTurn}
use Rattle.dlms_ends.specs.declared.head_end.PollTurn.TheVariants.{Sent, Done}
use Rattle.dlms_ends.specs.declared.polling.TheConstants.{TURNS}
use Rattle.dlms_headend.specs.declared.poll_fault.PollFault.TheVariants as poll
use Rattle.dlms_ends.proofs.CallingLemmas.{acts_more, did_one, frames_append, moments_append}
use Rattle.dlms_ends.proofs.MomentLemmas.{adds_as, adds_more, adds_none}
use Rattle.dlms_ends.proofs.ServingLemmas.{run_more, served_more, moments_append as moments_joined}

-- ---- the head end's side

-- this many frames went out after the first one
pub record HeadSide {A : Type 0} (old now : Option (List Moment)) (poller : PollerValue) (head : HeadEnd A) (count : ℕ) : Type 0 where
  pub acts : List Act
  pub world : HeadWorld
  pub called : Called old now poller acts world
  pub stands : IsIn head world
  pub sent : length (frames_of acts) ≡ count

pub side_begins : (E : Type 0) {A : Type 0} (old now : Option (List Moment)) (poller : PollerValue) (head : HeadEnd A) → Begins {E = E} old now poller (Ok head) → HeadSide old now poller head 0
side_begins E old now poller head (frame, begun, call, adds, stands) = record {
  acts = [];
  world = _;
  called = record { frame = frame; begun = begun; call = call; does = refl; happened = adds_as old now (goes_out (listed frame)) (goes_out (listed frame) ++ []) (sym (append-nil (goes_out (listed frame)))) adds };
  stands = stands;
  sent = refl;
}

called_more : (old now new : Option (List Moment)) (poller : PollerValue) (m h' : HeadWorld) (xs ys : List Act) → Called old now poller xs m → Did now new m ys h' → Called old new poller (xs ++ ys) h'
called_more old now new poller m h' xs ys c did =
    let first = goes_out (listed c.frame) in
    let parted : (first ++ moments_of xs) ++ moments_of ys ≡ first ++ moments_of (xs ++ ys) = append_assoc first (moments_of xs) (moments_of ys) ∙ ap (λ (t : List Moment). first ++ t) (sym (moments_append xs ys)) in
    record {
      frame = c.frame;
      begun = c.begun;
      call = c.call;
      does = acts_more _ m h' xs ys c.does did.does;
      happened = adds_as old new ((first ++ moments_of xs) ++ moments_of ys) (first ++ moments_of (xs ++ ys)) parted (adds_more old now new (first ++ moments_of xs) (moments_of ys) c.happened did.happened);
    }

-- if nothing is answered no frame goes out
no_frames : (acts : List Act) → AreListening acts → frames_of acts ≡ []
no_frames [] listens = refl
no_frames (Gets bytes ∷ acts) (one, listens) = no_frames acts listens
no_frames (Skips bytes ∷ acts) (one, listens) = no_frames acts listens
no_frames (Hears bytes frame (Ok step.Nothing) ∷ acts) (one, listens) = no_frames acts listens
no_frames (Hears bytes frame (Ok (step.Send f)) ∷ acts) (one, listens) = absurd (cc one)
no_frames (Hears bytes frame (Ok step.Done) ∷ acts) (one, listens) = absurd (cc one)
no_frames (Hears bytes frame (Err e) ∷ acts) (one, listens) = absurd (cc one)
no_frames (Waits result ∷ acts) (one, listens) = absurd one

-- a turn at which a frame went out
pub side_sends : {A : Type 0} (old now new : Option (List Moment)) (poller : PollerValue) (head head' : HeadEnd A) (count : ℕ) → (s : HeadSide old now poller head count) → HeadTakes now new s.world head' (Ok Sent)
    → HeadSide old new poller head' (count + 1)
side_sends old now new poller head head' count s (pieces, t) =
    let front : Called old t.now poller (s.acts ++ t.front) t.mid = called_more old now t.now poller s.world t.mid s.acts t.front s.called t.did in
    let frames : frames_of (t.ends.act ∷ []) ≡ t.ends.frame ∷ [] = append-nil (frames_by t.ends.act) ∙ t.ends.gives in
    let long : length (frames_of (t.ends.act ∷ [])) ≡ 1 = ap (λ (xs : List Parts). length xs) frames in
    let none : length (frames_of t.front) ≡ 0 = ap (λ (xs : List Parts). length xs) (no_frames t.front t.listens) in
    let before : length (frames_of (s.acts ++ t.front)) ≡ length (frames_of s.acts) + length (frames_of t.front) = ap (λ (xs : List Parts). length xs) (frames_append s.acts t.front) ∙ length-append (frames_of s.acts) (frames_of t.front) in
    let whole : length (frames_of ((s.acts ++ t.front) ++ t.ends.act ∷ [])) ≡ length (frames_of (s.acts ++ t.front)) + length (frames_of (t.ends.act ∷ [])) =
    ap (λ (xs : List Parts). length xs) (frames_append (s.acts ++ t.front) (t.ends.act ∷ [])) ∙ length-append (frames_of (s.acts ++ t.front)) (frames_of (t.ends.act ∷ [])) in
    record {
      acts = (s.acts ++ t.front) ++ t.ends.act ∷ [];
      world = t.ends.world;
      called = called_more old t.now new poller t.mid t.ends.world (s.acts ++ t.front) (t.ends.act ∷ []) front (did_one t.now new t.mid t.ends.world t.ends.act t.ends.does t.ends.happened);
      stands = t.ends.stands;
      sent = omega (arith, whole, before, none, long, s.sent);
    }

-- one at which the poll was done
pub side_done : {A : Type 0} (old now new : Option (List Moment)) (poller done : PollerValue) (head head' : HeadEnd A) (count : ℕ) → (s : HeadSide old now poller head count) → HeadTakes now new s.world head' (Ok Done)
    → done ≡ head'.poller → IsPolled old new poller done
side_done old now new poller done head head' count s (pieces, t) same =
    let front : Called old t.now poller (s.acts ++ t.front) t.mid = called_more old now t.now poller s.world t.mid s.acts t.front s.called t.did in
    let last : Act = Hears t.ends.bytes t.ends.frame (Ok step.Done) in
    record {
      front = s.acts ++ t.front;
      bytes = t.ends.bytes;
      frame = t.ends.frame;
      world = t.ends.world;
      called = called_more old t.now new poller t.mid t.ends.world (s.acts ++ t.front) (last ∷ []) front (did_one t.now new t.mid t.ends.world last t.ends.does t.ends.happened);
      same = same ∙ t.ends.stands.at.poller;
    }

-- one that failed
pub side_fails : {A : Type 0} (old now new : Option (List Moment)) (poller : PollerValue) (head head' : HeadEnd A) (count : ℕ) (fault : RunFault) → (s : HeadSide old now poller head count) → HeadTakes now new s.world head' (Err fault)
    → CallFails old new poller fault
side_fails old now new poller head head' count fault s (pieces, t) = record {
  front = s.acts;
  last = t.front;
  mid = t.mid;
  now = t.now;
  after = head'.poller;
  called = called_more old now t.now poller s.world t.mid s.acts t.front s.called t.did;
  listens = t.listens;
  fails = subst (λ (n : ℕ). Fails n t.now new t.mid head'.poller fault) t.pieces t.ends;
}

-- ---- the meter's side

abbrev pub MeterSide : {P A : Type 0} → {ghosts : Ghosts P} → Option (List Moment) → Option (List Moment) → Meter P A ghosts → Meter P A ghosts → Type 0
MeterSide old now start meter = (w : MeterWorld) → Stands start w → (steps : List Step) × Served old now w steps start meter

pub meter_begins : {P A : Type 0} {ghosts : Ghosts P} (past : Option (List Moment)) (meter : Meter P A ghosts) → MeterSide past past meter meter
meter_begins past meter w stands = ([], record { world = w; run = refl; stands = stands; fits = λ fits. fits; happened = adds_none past })

pub meter_turns : {P A : Type 0} {ghosts : Ghosts P} (old now new : Option (List Moment)) (start meter meter' : Meter P A ghosts) → MeterSide old now start meter
    → ((w : MeterWorld) → Stands meter w → MeterTurned now new w meter meter') → MeterSide old new start meter'
meter_turns old now new start meter meter' side takes w stands =
    let s = side w stands in
    let t = takes s.1.world s.1.stands in
    let more = unanswered t.pieces ++ t.last in
    (s.0 ++ more, served_more old now new w s.1.world t.served.world s.0 more start meter' s.1.run s.1.happened t.served.run t.served.happened t.served.stands (λ fits. t.served.fits (s.1.fits fits)))

pub meter_breaks : {P A : Type 0} {ghosts : Ghosts P} (old now new : Option (List Moment)) (start meter meter' : Meter P A ghosts) → MeterSide old now start meter
    → ((w : MeterWorld) → Stands meter w → Unturned now new w meter') → (w : MeterWorld) → Stands start w → (steps : List Step) × Broken old new w steps meter'
meter_breaks old now new start meter meter' side takes w stands =
    let s = side w stands in
    let t = takes s.1.world s.1.stands in
    let b = t.broken in
    let more = unanswered t.pieces in (
      s.0 ++ more,
      record {
        mid = b.mid;
        now = b.now;
        run = run_more w s.1.world b.mid s.0 more s.1.run b.run;
        happened = adds_as old b.now (moments_in s.0 ++ moments_in more) (moments_in (s.0 ++ more)) (sym (moments_joined s.0 more)) (adds_more old now b.now (moments_in s.0) (moments_in more) s.1.happened b.happened);
        breaks = b.breaks;
      },
    )

-- ---- a poll that is done

-- the calls of the acts
acts_call : (h h' : HeadWorld) (acts : List Act) → Acts h acts h' → Calls h.poller (calls_of acts) h'.poller
acts_call h h' [] same = ap (λ (x : HeadWorld). x.poller) same
acts_call h h' (Gets bytes ∷ acts) (mid, does, rest) = subst (λ (p : PollerValue). Calls p (calls_of acts) h'.poller) does.1 (acts_call mid h' acts rest)
acts_call h h' (Skips bytes ∷ acts) (mid, does, rest) = subst (λ (p : PollerValue). Calls p (calls_of acts) h'.poller) does.1 (acts_call mid h' acts rest)
acts_call h h' (Hears bytes frame result ∷ acts) (mid, does, rest) = (mid.poller, does.call, acts_call mid h' acts rest)
acts_call h h' (Waits result ∷ acts) (mid, does, rest) = (mid.poller, does.call, acts_call mid h' acts rest)

calls_append : (xs ys : List Act) → calls_of (xs ++ ys) ≡ calls_of xs ++ calls_of ys
calls_append [] ys = refl
calls_append (x ∷ xs) ys = ap (λ (t : List Call). calls_by x ++ t) (calls_append xs ys) ∙ sym (append_assoc (calls_by x) (calls_of xs) (calls_of ys))

-- a call that is answered so leaves a poll that is done
heard_done : (o : _) (p now : PollOf) (link : _) → HearsBy o p link (Ok step.Done) now → now.course ≡ course.Done
heard_done o p now link h = grind arith

early_done : (o : _) (p now : PollOf) (link : _) → HearsEarly o p link (Ok step.Done) now → now.course ≡ course.Done
early_done o p now link h = grind arith

came_done : (c : Course) (p now : PollOf) (frame : Parts) → ComesIn c p frame (Ok step.Done) now → now.course ≡ course.Done
came_done course.Ready p now frame h = early_done _ p now _ h
came_done course.Running p now frame h = heard_done _ p now _ h
came_done course.Done p now frame h = absurd (cc h.0)
came_done (course.Failed fault) p now frame h = absurd (cc h.0)

run_done : (calls : List Call) (p now : PollOf) (frame : Parts) → PollRun p (calls ++ On frame (Ok step.Done) ∷ []) now → now.course ≡ course.Done
run_done [] p now frame (mid, leads, same) = ap (λ (x : PollOf). x.course) same ∙ came_done p.course p mid frame leads
run_done (call ∷ calls) p now frame (mid, leads, rest) = run_done calls mid now frame rest

-- the calls of the poller of a poll that is done
pub polled_calls : (old new : Option (List Moment)) (plan : PlanValue) (done : PollerValue) (is : IsPolled old new (fresh_poll plan) done)
    → Calls (fresh_poll plan) ((Next is.called.frame ∷ calls_of is.front) ++ On is.frame (Ok step.Done) ∷ []) done
polled_calls old new plan done is =
    let c = is.called in
    let made : Calls c.begun (calls_of (is.front ++ Hears is.bytes is.frame (Ok step.Done) ∷ [])) is.world.poller = acts_call _ is.world (is.front ++ Hears is.bytes is.frame (Ok step.Done) ∷ []) c.does in
    let made' : Calls c.begun (calls_of is.front ++ On is.frame (Ok step.Done) ∷ []) is.world.poller =
    subst (λ (xs : List Call). Calls c.begun xs is.world.poller) (calls_append is.front (Hears is.bytes is.frame (Ok step.Done) ∷ [])) made in
    subst (λ (p : PollerValue). Calls (fresh_poll plan) (Next c.frame ∷ (calls_of is.front ++ On is.frame (Ok step.Done) ∷ [])) p) (sym is.same) (c.begun, c.call, made')

done_fresh : (old new : Option (List Moment)) (plan : PlanValue) (done : PollerValue) → IsPolled old new (fresh_poll plan) done → IsDonePoll plan done
done_fresh old new plan done is =
    let calls = (Next is.called.frame ∷ calls_of is.front) ++ On is.frame (Ok step.Done) ∷ [] in
    let run = calls_are_a_poll plan calls done (polled_calls old new plan done is) in
    let over = run_done (Next is.called.frame ∷ calls_of is.front) (first_poll plan) run.0 is.frame run.1 in
    record {
      calls = calls;
      poll = run.0;
      run = run.1;
      at = run.2;
      course = over;
      told = subst (λ (rows : _). HasReleased plan.columns run.0.taken rows) (sym (run.2.rows over)) (done_is_told plan calls run.0 run.1 over);
    }

pub done_poll : (old new : Option (List Moment)) (plan : PlanValue) (poller done : PollerValue) → poller ≡ fresh_poll plan → IsPolled old new poller done → IsDonePoll plan done
done_poll old new plan poller done fresh is = done_fresh old new plan done (subst (λ (p : PollerValue). IsPolled old new p done) fresh is)

-- ---- how a poll ends

pub system_told : (fault : RunFault) (error : Error) → TellsError error fault → IsOfSystem fault
system_told fault error (inl told) = inl told.1
system_told fault error (inr told) = inr told.1

pub poll_unbegun : {P A : Type 0} {ghosts : Ghosts P} (head_old head_new tail : Option (List Moment)) (poller : PollerValue) (w : MeterWorld) (meter : Meter P A ghosts) (r : Result PollerValue RunFault) (error : Error)
    → IsErrAnd r (TellsError error) → (frame : Parts) (begun : PollerValue) → IsCall poller (Next (Some frame)) begun → Breaks head_old head_new (spelling frame) → Stands meter w → Polls head_old head_new tail tail poller w meter meter r
poll_unbegun head_old head_new tail poller w meter (Ok done) error told frame begun call broke stands = absurd told
poll_unbegun head_old head_new tail poller w meter (Err fault) error told frame begun call broke stands =
    Unbegun (system_told fault error told) frame begun call broke (record { world = w; run = refl; stands = stands; fits = λ fits. fits; happened = adds_none tail })

pub poll_breaks : {P A B : Type 0} {ghosts : Ghosts P} (head_old head_new tail_old tail_new : Option (List Moment)) (poller : PollerValue) (w : MeterWorld) (was meter : Meter P A ghosts) (head : HeadEnd B) (count : ℕ) (r : Result PollerValue RunFault) (error : Error)
    → IsErrAnd r (TellsError error) → HeadSide head_old head_new poller head count → ((steps : List Step) × Broken tail_old tail_new w steps meter) → Polls head_old head_new tail_old tail_new poller w was meter r
poll_breaks head_old head_new tail_old tail_new poller w was meter head count (Ok done) error told side broken = absurd told
poll_breaks head_old head_new tail_old tail_new poller w was meter head count (Err fault) error told side (steps, broken) = MeterBreaks (system_told fault error told) side.acts side.world side.called steps broken

pub poll_fails : {P A : Type 0} {ghosts : Ghosts P} (head_old head_new tail_old tail_new : Option (List Moment)) (poller : PollerValue) (w : MeterWorld) (was meter : Meter P A ghosts) (r : Result PollerValue RunFault) (fault : RunFault)
    → IsErrAnd r (λ given. given ≡ fault) → CallFails head_old head_new poller fault → ((steps : List Step) × Served tail_old tail_new w steps was meter) → Polls head_old head_new tail_old tail_new poller w was meter r
poll_fails head_old head_new tail_old tail_new poller w was meter (Ok done) fault told fails served = absurd told
poll_fails head_old head_new tail_old tail_new poller w was meter (Err given) fault told fails (steps, served) =
    subst (λ (f : RunFault). PollFails head_old head_new tail_old tail_new poller w was meter f) (sym told) (HeadFails fails steps served)

pub poll_tires : {P A B : Type 0} {ghosts : Ghosts P} (head_old head_new tail_old tail_new : Option (List Moment)) (poller : PollerValue) (w : MeterWorld) (was meter : Meter P A ghosts) (head : HeadEnd B) (count : ℕ)
    → HeadSide head_old head_new poller head count → count ≡ TURNS → ((steps : List Step) × Served tail_old tail_new w steps was meter) → PollFails head_old head_new tail_old tail_new poller w was meter (Poll poll.Line)
poll_tires head_old head_new tail_old tail_new poller w was meter head count side all (steps, served) = Tires refl side.acts side.world side.called (side.sent ∙ all) steps served

pub takes_as : {A : Type 0} (old new : Option (List Moment)) (h : HeadWorld) (head : HeadEnd A) (t t' : PollTurn) → t ≡ t' → HeadTakes old new h head (Ok t) → HeadTakes old new h head (Ok t')
takes_as old new h head t t' is takes = subst (λ (x : PollTurn). HeadTakes old new h head (Ok x)) is takes
