-- A stop inside a call, a recovery and a close are steps of the world.
use Rattle.std.proofs.Common.{◌≡◌, ◌∙◌, inl, inr, refl, sym, ap, subst, append-nil, append_assoc, List, [], ◌∷◌, ◌++◌, Option, Result, Ok, Err, ℕ}
use Rattle.dlms_frame.specs.declared.client.Client.{Client}
use Rattle.dlms_headend.specs.Asking.{PlanValue}
use Rattle.dlms_link.specs.Server.{fresh_server}
use Rattle.dlms_meter.specs.ClientRecord.{ClientRecord}
use Rattle.dlms_meter.specs.Run.{MeterWorld, Choice, Fed, Judged, events_in, recovered}
use Rattle.dlms_meter.specs.declared.meter.Meter.{Meter}
use Rattle.dlms_meter.proofs.LifeLaw.{ends_opened}
use Rattle.dlms_meter.proofs.StoreLaw.{runs_on}
use Rattle.dlms_pages.specs.Device.{Image}
use Rattle.dlms_pages.specs.declared.device.Pages.{Ghosts}
use Rattle.dlms_pages.proofs.Moments.{weaker}
use Rattle.dlms_service.specs.Session.{fresh}
use Rattle.dlms_state.specs.Refusal.{IsLegal}
use Rattle.dlms_state.specs.declared.event.Event.{Event}
use Rattle.dlms_store.specs.Fitting.{LeftBy, StoreFits}
use Rattle.dlms_store.specs.Going.{LeftDuring}
use Rattle.dlms_store.specs.World.{StoreWorld as Store, StoreStep, Next, StoreRun, IsBeginning}
use Rattle.dlms_store.specs.World.StoreWorld.{Runs, InDoubt, Rests}
use Rattle.dlms_store.specs.World.StoreStep.{Adds, AddsBehind, Settles, Refuses, Fails, Closes, ClosesInDoubt, Stops, Opens, OpenFails}
use Rattle.dlms_store.specs.declared.fault.AddFault.{AddFault}
use Rattle.dlms_store.specs.declared.fault.AddFault.TheVariants as add
use Rattle.dlms_world.specs.World.{World, IsOn, IsUsual, AreUsual, Remembers, first_world}
use Rattle.dlms_world.specs.Turn.{Run, StopsInside, Restarted, restarted}
use Rattle.dlms_world.specs.MeterTurns.{IsLeftInStep, IsMeterOf, StopsAreTurns, RecoveriesAreTurns, RestsAreTurns}
use Rattle.dlms_world.proofs.Lawful.{beginning_legal}
use Rattle.dlms_world.proofs.Telling.{tells}
use Rattle.dlms_world.proofs.CallsAreTurns.{known_on, known_legal, add_usual, stored_usual}
use Rattle.dlms_world.proofs.Keeping.{whose_meter}
use Rattle.dlms_world.proofs.Whole.{good}

-- ---- what a store holds while the meter is on

-- a usual step only adds to the events
more : (before : Store) (step : StoreStep) (now : Store) → IsUsual step → Next before step now → IsBeginning (events_in before) (events_in now)
more (Runs s p) (Adds e) now usual next = (e ∷ [], append_assoc s p (e ∷ []) ∙ sym (ap events_in next.0))
more (Runs s p) (AddsBehind e) now usual next = (e ∷ [], sym (ap events_in next.0))
more (Runs s p) Settles now usual next = ([], sym (ap events_in next))
more (Runs s p) Refuses now usual next = ([], append-nil (s ++ p) ∙ sym (ap events_in next))
more (Runs s p) Fails now usual next = ([], append-nil (s ++ p) ∙ sym (ap events_in next))
more (InDoubt s p) Refuses now usual next = ([], append-nil (s ++ p) ∙ sym (ap events_in next))
more (InDoubt s p) (Adds e) now usual next = absurd next
more (InDoubt s p) (AddsBehind e) now usual next = absurd next
more (InDoubt s p) Settles now usual next = absurd next
more (InDoubt s p) Fails now usual next = absurd next
more (Rests events) (Adds e) now usual next = absurd next
more (Rests events) (AddsBehind e) now usual next = absurd next
more (Rests events) Settles now usual next = absurd next
more (Rests events) Refuses now usual next = absurd next
more (Rests events) Fails now usual next = absurd next
more before Closes now usual next = absurd usual
more before ClosesInDoubt now usual next = absurd usual
more before Stops now usual next = absurd usual
more before (Opens e) now usual next = absurd usual
more before OpenFails now usual next = absurd usual

-- and it has one outcome
same : (before : Store) (step : StoreStep) (one other : Store) → IsUsual step → Next before step one → Next before step other → one ≡ other
same (Runs s p) (Adds e) one other usual a b = a.0 ∙ sym b.0
same (Runs s p) (AddsBehind e) one other usual a b = a.0 ∙ sym b.0
same (Runs s p) Settles one other usual a b = a ∙ sym b
same (Runs s p) Refuses one other usual a b = a ∙ sym b
same (Runs s p) Fails one other usual a b = a ∙ sym b
same (InDoubt s p) Refuses one other usual a b = a ∙ sym b
same (InDoubt s p) (Adds e) one other usual a b = absurd a
same (InDoubt s p) (AddsBehind e) one other usual a b = absurd a
same (InDoubt s p) Settles one other usual a b = absurd a
same (InDoubt s p) Fails one other usual a b = absurd a
same (Rests events) (Adds e) one other usual a b = absurd a
same (Rests events) (AddsBehind e) one other usual a b = absurd a
same (Rests events) Settles one other usual a b = absurd a
same (Rests events) Refuses one other usual a b = absurd a
same (Rests events) Fails one other usual a b = absurd a
same before Closes one other usual a b = absurd usual
same before ClosesInDoubt one other usual a b = absurd usual
same before Stops one other usual a b = absurd usual
same before (Opens e) one other usual a b = absurd usual
same before OpenFails one other usual a b = absurd usual

joined : (a b c : List Event) → IsBeginning a b → IsBeginning b c → IsBeginning a c
joined a b c (x, ab) (y, bc) = (x ++ y, sym (append_assoc a x y) ∙ ap (λ (l : List Event). l ++ y) ab ∙ bc)

run_more : (steps : List StoreStep) (before now : Store) → AreUsual steps → StoreRun before steps now → IsBeginning (events_in before) (events_in now)
run_more [] before now usual is = ([], append-nil (events_in before) ∙ sym (ap events_in is))
run_more (step ∷ steps) before now usual (mid, next, run) = joined (events_in before) (events_in mid) (events_in now) (more before step mid usual.0 next) (run_more steps mid now usual.1 run)

both_usual : (first rest : List StoreStep) → AreUsual first → AreUsual rest → AreUsual (first ++ rest)
both_usual [] rest a b = b
both_usual (step ∷ first) rest a b = (a.0, both_usual first rest a.1 b)

-- ---- a stop among these steps

-- those that were taken of a call, and that the whole of it is lawful
record Halfway (w : World) (mid now : Store) (rest : List StoreStep) : Type 0 where
  done : List StoreStep
  usual : AreUsual done
  run : StoreRun w.memory done mid
  goes : AreUsual rest
  on : StoreRun mid rest now
  legal : IsLegal (events_in now)

stops_here : (w : World) (mid now : Store) (rest : List StoreStep) (image : Image) → IsOn w.memory → Halfway w mid now rest → LeftBy mid image → IsLeftInStep w image
stops_here w mid now rest image on half (events, next, left) =
    let grown = run_more half.done w.memory mid half.usual half.run in
    let remembers : Remembers w.memory grown.0 mid = record {
      steps = half.done;
      usual = half.usual;
      run = half.run;
      all = sym grown.1;
      legal = beginning_legal (events_in mid) (events_in now) (run_more rest mid now half.goes half.on) half.legal;
    } in
    (events, StopsInside w grown.0 mid (Rests events) on remembers next, left)

stops_in : (w : World) (mid now : Store) (rest : List StoreStep) (image : Image) → IsOn w.memory → Halfway w mid now rest → LeftDuring mid rest image → IsLeftInStep w image
stops_in w mid now [] image on half left = stops_here w mid now [] image on half left
stops_in w mid now (step ∷ []) image on half left = stops_here w mid now (step ∷ []) image on half left
stops_in w mid now (step ∷ other ∷ steps) image on half (inl left) = stops_here w mid now (step ∷ other ∷ steps) image on half left
stops_in w mid now (step ∷ other ∷ steps) image on half (inr (next, takes, left)) =
    let it : half.on.0 ≡ next = same mid step half.on.0 next half.goes.0 half.on.1 takes in
    stops_in w next now (other ∷ steps) image on
    (record {
      done = half.done ++ step ∷ [];
      usual = both_usual half.done (step ∷ []) half.usual (half.goes.0, tt);
      run = runs_on half.done (step ∷ []) w.memory mid next half.run (next, takes, refl);
      goes = half.goes.1;
      on = subst (λ (x : Store). StoreRun x (other ∷ steps) now) it half.on.2;
      legal = half.legal;
    }) left

begins : (w : World) (m now : Store) (steps : List StoreStep) → m ≡ w.memory → AreUsual steps → StoreRun m steps now → IsLegal (events_in now) → Halfway w m now steps
begins w m now steps is usual run legal = record { done = []; usual = tt; run = is; goes = usual; on = run; legal = legal }

-- the steps of a call of feed, and of an event
fed_usual : (May : Choice → Type 0) (m : MeterWorld) (taken : List ℕ) (reply : Option (List ℕ)) (steps : List StoreStep) (m' : MeterWorld) → Fed May m taken reply steps m' → AreUsual steps
fed_usual May m taken reply steps m' (inl (free, none, no_steps, is)) = subst AreUsual (sym no_steps) tt
fed_usual May m taken reply steps m' (inr (turn, is_turn, may, promise, ends, told, same_steps, is)) = subst AreUsual (sym same_steps) (stored_usual turn.choice turn.answer turn.accepted turn.steps is_turn.stored)

pub judged_usual : (m : MeterWorld) (event : Event) (outcome : Result (Unit {0}) AddFault) (step : StoreStep) (m' : MeterWorld) → Judged m event outcome step m' → IsUsual step
judged_usual m event (Ok done) step m' (free, is_add, now, next, is) = add_usual event step is_add
judged_usual m event (Err add.Device) step m' (free, is, now, next, same_world) = subst IsUsual (sym is) tt
judged_usual m event (Err add.Stopped) step m' (at, is, same_world) = subst IsUsual (sym is) tt
judged_usual m event (Err add.Exhausted) step m' (at, free, is, same_world) = subst IsUsual (sym is) tt
judged_usual m event (Err (add.Refused cause)) step m' (at, told, is, same_world) = subst IsUsual (sym is) tt

pub stops_are_turns : {P A : Type 0} {ghosts : Ghosts P} (old new : Meter P A ghosts) → StopsAreTurns old new
stops_are_turns old new m w stands fits at =
    let on : IsOn w.memory = subst IsOn at.store (known_on old m.store stands.store) in (
      λ taken reply feeds.
          let fed = feeds m stands in
          let half = begins w m.store fed.0.store fed.1 at.store (fed_usual _ m taken reply fed.1 fed.0 fed.2) fed.4.run (known_legal new fed.0.store fed.3.store) in
          weaker _ _ _ _ (λ image left. stops_in w m.store fed.0.store fed.1 image on half left) (fed.4.any_moment fits),
      λ event outcome judges.
          let told = judges m stands in
          let half = begins w m.store told.0.store (told.1 ∷ []) at.store (judged_usual m event outcome told.1 told.0 told.2, tt) told.5.run (known_legal new told.0.store told.4.store) in
          weaker _ _ _ _ (λ image left. stops_in w m.store told.0.store (told.1 ∷ []) image on half left) (told.5.any_moment fits),
    )

-- ---- recoveries

-- a meter that was recovered with these events
pub recovered_is : (first : PlanValue) (w : World) (memory : Store) (found : List Event) → Run (first_world first) w → memory ≡ Runs found [] → IsMeterOf (recovered found) (restarted w memory)
recovered_is first w memory found run here =
    let all = good tells first w run in
    let meter : w.plan.client ≡ w.link.meter.client = sym (whose_meter w.plan.client w.link all.link.sound) in
    let session : w.plan.client ≡ w.session.client = sym all.link.session in
    record {
      own = ap (λ (c : Client). (let r : ClientRecord = record { link = fresh_server c; session = fresh w.plan.client } in r)) meter
          ∙ ap (λ (c : Client). (let r : ClientRecord = record { link = fresh_server w.link.meter.client; session = fresh c } in r)) session;
      others = λ other differs. refl;
      store = sym here;
    }

pub recoveries_are_turns : {P A : Type 0} {ghosts : Ghosts P} (new : Meter P A ghosts) → RecoveriesAreTurns new
recoveries_are_turns new first w device run opens stands =
    let here : opens.now ≡ Runs opens.found [] = ends_opened [] w.memory opens.now opens.found (opens.now, opens.next, refl) in
    let fits : StoreFits new.store (Runs opens.found []) = subst (λ (x : Store). StoreFits new.store x) here opens.fits in (
      opens.found,
      opens.now,
      Restarted w (Opens opens.found) opens.now (λ none. none) opens.next,
      stands opens.found fits.1,
      recovered_is first w opens.now opens.found run here,
      opens.fits,
    )

pub rests_are_turns : {P A : Type 0} {ghosts : Ghosts P} (meter : Meter P A ghosts) → RestsAreTurns meter
rests_are_turns meter w old new = (
  λ fault back. (back.now, Restarted w OpenFails back.now (λ none. none) back.next, back.fits),
  λ gives. elim gives [
    | inl closed ↦ (closed.now, Restarted w Closes closed.now (λ none. none) closed.next, closed.fits)
    | inr doubt ↦ (doubt.now, Restarted w ClosesInDoubt doubt.now (λ none. none) doubt.next, doubt.fits)
  ],
)
