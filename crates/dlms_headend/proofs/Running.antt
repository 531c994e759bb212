-- The calls of a poller are a poll.
use Rattle.std.proofs.Common.{◌≡◌, ◌∙◌, refl, sym, ap, subst, inl, inr, ℕ, List, [], ◌∷◌, ◌++◌, Option, Some, None, Result, Ok, Err}
use Rattle.dlms_blocks.specs.Joining.{Joining}
use Rattle.dlms_frame.specs.Frame.{Parts}
use Rattle.dlms_link.specs.Client.{ClientRecord, snrm_of, client_connect, client_step, client_timeout}
use Rattle.dlms_link.specs.declared.out.ClientOut.{ClientOut}
use Rattle.dlms_link.specs.declared.out.ClientOut.TheVariants as out
use Rattle.dlms_headend.specs.declared.stage.Stage.{Stage}
use Rattle.dlms_headend.specs.declared.stage.Stage.TheVariants.{Associating, Naming, Getting, Checking, Releasing, Leaving}
use Rattle.dlms_headend.specs.declared.stage.Course.{Course}
use Rattle.dlms_headend.specs.declared.stage.Course.TheVariants.{Ready, Running, Done, Failed}
use Rattle.dlms_headend.specs.declared.step.PollStep.{PollStep}
use Rattle.dlms_headend.specs.declared.step.PollStep.TheVariants as step
use Rattle.dlms_headend.specs.declared.poll_fault.PollFault.{PollFault}
use Rattle.dlms_headend.specs.declared.poll_fault.PollFault.TheVariants.{Line, Protocol}
use Rattle.dlms_headend.specs.declared.row.Row.{Row}
use Rattle.dlms_headend.specs.Asking.{PlanValue}
use Rattle.dlms_headend.specs.Poll.{HasReleased}
use Rattle.dlms_headend.specs.Talk.{FitsAt, Ends}
use Rattle.dlms_headend.specs.PollerValue.{PollerValue}
use Rattle.dlms_headend.specs.Polling.{Goes, WantsRequest, FitsIn, Fits, SendsOn, HasFailed, Continues, Answers, GoesDown as DownBy, PollsBy, PollsEarly, PollsIn, BeginsIn, TimesOutBy, TimesOutIn, with_link}
use Rattle.dlms_headend.specs.PollRun.{Poll, first_poll, Call, Next, On, Timeout, failed, GoesOn, Takes, GoesDown, Hears, HearsEarly, ComesIn, StartsIn, RepeatsBy, RepeatsIn, Leads, PollRun, IsCall, Calls, IsAt, CallsAreAPoll, DoneIsTold}
use Rattle.dlms_headend.proofs.Told.{stage_told}

-- a step after which the poller is at this poll
abbrev Reaches : (Poll → Type 0) → PollerValue → Type 0
Reaches Step new = (now : Poll) × Step now × IsAt new now

-- ---- where the poller is then

at_running : (p : Poll) (v : PollerValue) → v.plan ≡ p.plan → v.link ≡ p.link → v.course ≡ Running → p.course ≡ Running → Fits v p.taken → IsAt v p
at_running p v plan link course runs fits = record { plan = plan; link = link; course = course ∙ sym runs; fits = fits; rows = λ e. absurd (cc) }

at_failed : (p : Poll) (v : PollerValue) (link : ClientRecord) (fault : PollFault) → v.plan ≡ p.plan → v.link ≡ link → v.course ≡ Failed fault → IsAt v (failed p link fault)
at_failed p v link fault plan link_is course = record { plan = plan; link = link_is; course = course; fits = subst (λ (c : Course). FitsIn c v p.taken) (sym course) tt; rows = λ e. absurd (cc) }

-- it failed, with the link as this
has_failed : {X : Type 0} (p : Poll) (old new : PollerValue) (link : ClientRecord) (fault : PollFault) (result : Result X PollFault) → IsAt old p → HasFailed (with_link old link) fault result new
    → Reaches (λ now. (result ≡ Err fault) × (now ≡ failed p link fault)) new
has_failed p old new link fault result is h = (
  failed p link fault,
  (h.answer, refl),
  at_failed p new link fault (ap (λ (v : PollerValue). v.plan) h.after ∙ is.plan) (ap (λ (v : PollerValue). v.link) h.after) (ap (λ (v : PollerValue). v.course) h.after),
)

-- nothing changed
stays : {X : Type 0} (p : Poll) (old new : PollerValue) (answer : X) (result : X) → IsAt old p → result ≡ answer → new ≡ old → Reaches (λ now. (result ≡ answer) × (now ≡ p)) new
stays p old new answer result is told same = (p, (told, refl), subst (λ (v : PollerValue). IsAt v p) (sym same) is)

-- ---- a frame

module _ (p : Poll) (old new : PollerValue) (is : IsAt old p) (runs : p.course ≡ Running) where
  sends : (link : ClientRecord) (taken : List (List ℕ)) (frame : Parts) → SendsOn old.plan taken link frame new → Reaches (λ now. GoesOn p link taken (Ok (step.Send frame)) now) new
  sends link taken frame s = (
    record p { link = new.link; taken = taken },
    (new.link, subst (λ (plan : PlanValue). Goes plan taken link frame new.link) is.plan s.goes, refl),
    at_running (record p { link = new.link; taken = taken }) new (s.keeps ∙ is.plan) refl s.runs runs s.fits,
  )

  continues : (link : ClientRecord) (taken : List (List ℕ)) (result : Result PollStep PollFault) → Continues (with_link old link) taken result new → Reaches (λ now. GoesOn p link taken result now) new
  continues link taken (Ok step.Nothing) k = absurd k
  continues link taken (Ok (step.Send frame)) k = sends link taken frame k
  continues link taken (Ok step.Done) k = absurd k
  continues link taken (Err fault) k = (
    failed p link fault,
    (k.0, subst (λ (plan : PlanValue). WantsRequest plan.columns taken) is.plan k.1, refl),
    at_failed p new link fault (ap (λ (v : PollerValue). v.plan) k.2 ∙ is.plan) (ap (λ (v : PollerValue). v.link) k.2) (ap (λ (v : PollerValue). v.course) k.2),
  )

  answers : (link : ClientRecord) (result : Result PollStep PollFault) → Answers (with_link old link) p.taken result new → Reaches (λ now. Takes p link result now) new
  answers link (Ok step.Nothing) k = absurd k
  answers link (Ok (step.Send frame)) k = let s = sends link (p.taken ++ link.apdu ∷ []) frame k in (s.0, inl s.1, s.2)
  answers link (Ok step.Done) k = absurd k
  answers link (Err fault) (inl ends, f) =
      (failed p link fault, inr (fault, subst (λ (plan : PlanValue). Ends plan.columns p.taken link.apdu fault) is.plan ends, refl, refl), at_failed p new link fault (f.plan ∙ is.plan) f.link f.course)
  answers link (Err fault) (inr wants, f) =
      (failed p link fault, inl (wants.0, subst (λ (plan : PlanValue). WantsRequest plan.columns (p.taken ++ link.apdu ∷ [])) is.plan wants.1, refl), at_failed p new link fault (f.plan ∙ is.plan) f.link f.course)

  -- the link goes down
  early : (link : ClientRecord) (result : Result PollStep PollFault) → ((rows : List Row) → HasReleased p.plan.columns p.taken rows → ⊥) → HasFailed (with_link old link) Protocol result new → Reaches (λ now. GoesDown p link result now) new
  early link result none h = let f = has_failed p old new link Protocol result is h in (f.0, inr (none, f.1.0, f.1.1), f.2)

  down : (stage : Stage) (blocks : Joining) (link : ClientRecord) (result : Result PollStep PollFault) → FitsAt p.plan.columns stage blocks old.talk.rows p.taken → DownBy stage (with_link old link) result new → Reaches (λ now. GoesDown p link result now) new
  down Associating blocks link result fits h = early link result (λ rows k. let bad = (stage_told p.plan.columns Associating blocks old.talk.rows rows p.taken fits k).0 in absurd (cc)) h
  down Naming blocks link result fits h = early link result (λ rows k. let bad = (stage_told p.plan.columns Naming blocks old.talk.rows rows p.taken fits k).0 in absurd (cc)) h
  down Checking blocks link result fits h = early link result (λ rows k. let bad = (stage_told p.plan.columns Checking blocks old.talk.rows rows p.taken fits k).0 in absurd (cc)) h
  down (Getting taken) blocks link result fits h = early link result (λ rows k. let bad = (stage_told p.plan.columns (Getting taken) blocks old.talk.rows rows p.taken fits k).0 in absurd (cc)) h
  down Releasing blocks link result fits h = early link result (λ rows k. let bad = (stage_told p.plan.columns Releasing blocks old.talk.rows rows p.taken fits k).0 in absurd (cc)) h
  down Leaving blocks link result fits h =
      let rows : new.talk.rows ≡ old.talk.rows = ap (λ (v : PollerValue). v.talk.rows) h.after in
      let course : new.course ≡ Done = ap (λ (v : PollerValue). v.course) h.after in
      let plan : new.plan ≡ p.plan = ap (λ (v : PollerValue). v.plan) h.after ∙ is.plan in (
        record p { link = link; course = Done; rows = old.talk.rows },
        inl (old.talk.rows, fits, h.answer, refl),
        record {
          plan = plan;
          link = ap (λ (v : PollerValue). v.link) h.after;
          course = course;
          fits = subst (λ (c : Course). FitsIn c new p.taken) (sym course)
              (subst (λ (x : PlanValue). HasReleased x.columns p.taken new.talk.rows) (sym plan) (subst (HasReleased p.plan.columns p.taken) (sym rows) fits));
          rows = λ e. rows;
        },
      )

  hears : (o : ClientOut) (link : ClientRecord) (result : Result PollStep PollFault) → PollsBy o link p.taken old result new → Reaches (λ now. Hears o p link result now) new
  hears out.Nothing link result k = stays p old new (Ok step.Nothing) result is k.0 k.1
  hears out.Up link result k = continues link p.taken result k
  hears (out.Send frame) link result k = (
    record p { link = link },
    (k.0, refl),
    at_running (record p { link = link }) new (ap (λ (v : PollerValue). v.plan) k.1 ∙ is.plan) (ap (λ (v : PollerValue). v.link) k.1)
        (ap (λ (v : PollerValue). v.course) k.1 ∙ is.course ∙ runs) runs k.2,
  )
  hears out.Apdu link result k = answers link result k
  hears out.Down link result k =
      let fits : FitsIn Running old p.taken = subst (λ (c : Course). FitsIn c old p.taken) (is.course ∙ runs) is.fits in
      down old.talk.stage old.talk.blocks link result (subst (λ (x : PlanValue). FitsAt x.columns old.talk.stage old.talk.blocks old.talk.rows p.taken) is.plan fits.0) k

hears_early : (o : ClientOut) (p : Poll) (old new : PollerValue) (link : ClientRecord) (result : Result PollStep PollFault) → IsAt old p → PollsEarly o link old result new → Reaches (λ now. HearsEarly o p link result now) new
hears_early out.Nothing p old new link result is k = stays p old new (Ok step.Nothing) result is k.0 k.1
hears_early out.Up p old new link result is k = has_failed p old new link Protocol result is k
hears_early (out.Send frame) p old new link result is k = has_failed p old new link Protocol result is k
hears_early out.Apdu p old new link result is k = has_failed p old new link Protocol result is k
hears_early out.Down p old new link result is k = has_failed p old new link Protocol result is k

comes : (course : Course) (p : Poll) (old new : PollerValue) (frame : Parts) (result : Result PollStep PollFault) → IsAt old p → p.course ≡ course → PollsIn course p.taken frame old result new
    → Reaches (λ now. ComesIn course p frame result now) new
comes Ready p old new frame result is stands k =
    hears_early (client_step p.link frame).1 p old new (client_step p.link frame).0 result is
    (subst (λ (c : ClientRecord). PollsEarly (client_step c frame).1 (client_step c frame).0 old result new) is.link k)
comes Running p old new frame result is stands k =
    hears p old new is stands (client_step p.link frame).1 (client_step p.link frame).0 result
    (subst (λ (c : ClientRecord). PollsBy (client_step c frame).1 (client_step c frame).0 p.taken old result new) is.link k)
comes Done p old new frame result is stands k = stays p old new (Ok step.Nothing) result is k.0 k.1
comes (Failed fault) p old new frame result is stands k = stays p old new (Err fault) result is k.0 k.1

-- ---- the first frame, and time-outs

starts : (course : Course) (p : Poll) (old new : PollerValue) (frame : Option Parts) → IsAt old p → p.course ≡ course → Fits new p.taken → BeginsIn course old frame new → Reaches (λ now. StartsIn course p frame now) new
starts Ready p old new frame is stands fits k = (
  record p { link = client_connect p.link; course = Running },
  (k.0 ∙ ap (λ (c : ClientRecord). Some (snrm_of c)) is.link, refl),
  at_running (record p { link = client_connect p.link; course = Running }) new (ap (λ (v : PollerValue). v.plan) k.1 ∙ is.plan) (ap (λ (v : PollerValue). v.link) k.1 ∙ ap client_connect is.link)
      (ap (λ (v : PollerValue). v.course) k.1) refl fits,
)
starts Running p old new frame is stands fits k = stays p old new None frame is k.0 k.1
starts Done p old new frame is stands fits k = stays p old new None frame is k.0 k.1
starts (Failed fault) p old new frame is stands fits k = stays p old new None frame is k.0 k.1

-- with the same talk and course, and another link
relinked : (p : Poll) (old new : PollerValue) (link : ClientRecord) → IsAt old p → new ≡ with_link old link → Fits new p.taken → IsAt new (record p { link = link })
relinked p old new link is same fits = record {
  plan = ap (λ (v : PollerValue). v.plan) same ∙ is.plan;
  link = ap (λ (v : PollerValue). v.link) same;
  course = ap (λ (v : PollerValue). v.course) same ∙ is.course;
  fits = fits;
  rows = λ e. ap (λ (v : PollerValue). v.talk.rows) same ∙ is.rows e;
}

repeats_by : (late : ClientRecord × Option Parts) (p : Poll) (old new : PollerValue) (result : Result Parts PollFault) → IsAt old p → Fits new p.taken → TimesOutBy late old result new → Reaches (λ now. RepeatsBy late p result now) new
repeats_by (link, Some frame) p old new result is fits k = (record p { link = link }, (k.0, refl), relinked p old new link is k.1 fits)
repeats_by (link, None) p old new result is fits k = has_failed p old new link Line result is k

repeats_so : (p : Poll) (old new : PollerValue) (result : Result Parts PollFault) → IsAt old p → Fits new p.taken → TimesOutBy (client_timeout old.link) old result new → Reaches (λ now. RepeatsBy (client_timeout p.link) p result now) new
repeats_so p old new result is fits k = repeats_by (client_timeout p.link) p old new result is fits (subst (λ (c : ClientRecord). TimesOutBy (client_timeout c) old result new) is.link k)

repeats : (course : Course) (p : Poll) (old new : PollerValue) (result : Result Parts PollFault) → IsAt old p → Fits new p.taken → TimesOutIn course old result new → Reaches (λ now. RepeatsIn course p result now) new
repeats (Failed fault) p old new result is fits k = stays p old new (Err fault) result is k.0 k.1
repeats Ready p old new result is fits k = repeats_so p old new result is fits k
repeats Running p old new result is fits k = repeats_so p old new result is fits k
repeats Done p old new result is fits k = repeats_so p old new result is fits k

-- ---- all calls

leads : (call : Call) (p : Poll) (old new : PollerValue) → IsAt old p → IsCall old call new → Reaches (λ now. Leads p call now) new
leads (Next frame) p old new is (begins, keeps) =
    starts p.course p old new frame is refl (keeps p.taken is.fits) (subst (λ (c : Course). BeginsIn c old frame new) is.course begins)
leads (On frame result) p old new is polls =
    comes p.course p old new frame result is refl (subst (λ (c : Course). PollsIn c p.taken frame old result new) is.course (polls p.taken is.fits))
leads (Timeout result) p old new is (can, late, keeps) =
    repeats p.course p old new result is (keeps p.taken is.fits) (subst (λ (c : Course). TimesOutIn c old result new) is.course late)

run_of : (calls : List Call) (p : Poll) (old new : PollerValue) → IsAt old p → Calls old calls new → (now : Poll) × PollRun p calls now × IsAt new now
run_of [] p old new is same = (p, refl, subst (λ (v : PollerValue). IsAt v p) (sym same) is)
run_of (call ∷ calls) p old new is (mid, made, rest) =
    let first = leads call p old mid is made in
    let more = run_of calls first.0 mid new first.2 rest in
    (more.0, (first.0, first.1, more.1), more.2)

pub calls_are_a_poll : CallsAreAPoll
calls_are_a_poll plan calls new made = run_of calls (first_poll plan) _ new (record { plan = refl; link = refl; course = refl; fits = (refl, refl, refl); rows = λ e. absurd (cc) }) made

-- ---- one that is done

module _ (plan : PlanValue) where
  -- its plan is the one that it began with, and if it is done its rows are those of its APDUs
  abbrev Told : Poll → Type 0
  Told p = (p.plan ≡ plan) × (p.course ≡ Done → HasReleased plan.columns p.taken p.rows)

  told_as : (p now : Poll) → now ≡ p → Told p → Told now
  told_as p now same told = subst Told (sym same) told

  -- one that is not done
  told_not : (p now : Poll) → now ≡ p → p.plan ≡ plan → (p.course ≡ Done → ⊥) → Told now
  told_not p now same kept none = told_as p now same (kept, λ e. absurd (none e))

  fails_told : (p now : Poll) (link : ClientRecord) (fault : PollFault) → p.plan ≡ plan → now ≡ failed p link fault → Told now
  fails_told p now link fault kept same = told_not (failed p link fault) now same kept (λ e. cc)

  told_on : (p now : Poll) (link : ClientRecord) (taken : List (List ℕ)) (result : Result PollStep PollFault) → p.plan ≡ plan → p.course ≡ Running → GoesOn p link taken result now → Told now
  told_on p now link taken (Ok step.Nothing) kept runs h = absurd h
  told_on p now link taken (Ok (step.Send frame)) kept runs h = told_not (record p { link = h.0; taken = taken }) now h.2 kept (λ e. cc (runs, e))
  told_on p now link taken (Ok step.Done) kept runs h = absurd h
  told_on p now link taken (Err fault) kept runs h = fails_told p now link fault kept h.2

  told_heard : (o : ClientOut) (p now : Poll) (link : ClientRecord) (result : Result PollStep PollFault) → p.plan ≡ plan → p.course ≡ Running → Hears o p link result now → Told now
  told_heard out.Nothing p now link result kept runs h = told_not p now h.1 kept (λ e. cc (runs, e))
  told_heard out.Up p now link result kept runs h = told_on p now link p.taken result kept runs h
  told_heard (out.Send frame) p now link result kept runs h = told_not (record p { link = link }) now h.1 kept (λ e. cc (runs, e))
  told_heard out.Apdu p now link result kept runs (inl on) = told_on p now link (p.taken ++ link.apdu ∷ []) result kept runs on
  told_heard out.Apdu p now link result kept runs (inr (fault, ends, told, same)) = fails_told p now link fault kept same
  told_heard out.Down p now link result kept runs (inl (rows, released, told, same)) =
      told_as (record p { link = link; course = Done; rows = rows }) now same (kept, λ e. subst (λ (x : PlanValue). HasReleased x.columns p.taken rows) kept released)
  told_heard out.Down p now link result kept runs (inr (none, told, same)) = fails_told p now link Protocol kept same

  told_early : (o : ClientOut) (p now : Poll) (link : ClientRecord) (result : Result PollStep PollFault) → Told p → HearsEarly o p link result now → Told now
  told_early out.Nothing p now link result told h = told_as p now h.1 told
  told_early out.Up p now link result told h = fails_told p now link Protocol told.0 h.1
  told_early (out.Send frame) p now link result told h = fails_told p now link Protocol told.0 h.1
  told_early out.Apdu p now link result told h = fails_told p now link Protocol told.0 h.1
  told_early out.Down p now link result told h = fails_told p now link Protocol told.0 h.1

  told_came : (course : Course) (p now : Poll) (frame : Parts) (result : Result PollStep PollFault) → p.course ≡ course → Told p → ComesIn course p frame result now → Told now
  told_came Ready p now frame result at told h = told_early (client_step p.link frame).1 p now (client_step p.link frame).0 result told h
  told_came Running p now frame result at told h = told_heard (client_step p.link frame).1 p now (client_step p.link frame).0 result told.0 at h
  told_came Done p now frame result at told h = told_as p now h.1 told
  told_came (Failed fault) p now frame result at told h = told_as p now h.1 told

  told_started : (course : Course) (p now : Poll) (frame : Option Parts) → Told p → StartsIn course p frame now → Told now
  told_started Ready p now frame told h = told_not (record p { link = client_connect p.link; course = Running }) now h.1 told.0 (λ e. cc)
  told_started Running p now frame told h = told_as p now h.1 told
  told_started Done p now frame told h = told_as p now h.1 told
  told_started (Failed fault) p now frame told h = told_as p now h.1 told

  told_late : (late : ClientRecord × Option Parts) (p now : Poll) (result : Result Parts PollFault) → Told p → RepeatsBy late p result now → Told now
  told_late (link, Some frame) p now result told h = told_as (record p { link = link }) now h.1 told
  told_late (link, None) p now result told h = fails_told p now link Line told.0 h.1

  told_repeated : (course : Course) (p now : Poll) (result : Result Parts PollFault) → Told p → RepeatsIn course p result now → Told now
  told_repeated (Failed fault) p now result told h = told_as p now h.1 told
  told_repeated Ready p now result told h = told_late (client_timeout p.link) p now result told h
  told_repeated Running p now result told h = told_late (client_timeout p.link) p now result told h
  told_repeated Done p now result told h = told_late (client_timeout p.link) p now result told h

  told_after : (call : Call) (p now : Poll) → Told p → Leads p call now → Told now
  told_after (Next frame) p now told h = told_started p.course p now frame told h
  told_after (On frame result) p now told h = told_came p.course p now frame result refl told h
  told_after (Timeout result) p now told h = told_repeated p.course p now result told h

  told_run : (calls : List Call) (p now : Poll) → Told p → PollRun p calls now → Told now
  told_run [] p now told same = told_as p now same told
  told_run (call ∷ calls) p now told (mid, leads, rest) = told_run calls mid now (told_after call p mid told leads) rest

pub done_is_told : DoneIsTold
done_is_told plan calls p run e = (told_run plan calls (first_poll plan) p (refl, λ e. absurd (cc)) run).1 e
