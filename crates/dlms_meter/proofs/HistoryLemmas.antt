-- The calls of a meter are a history, and its store's steps are a run of the store.
use Rattle.std.proofs.Common.{◌≡◌, ◌∙◌, inl, inr, refl, sym, ap, subst, append_assoc, ℕ, true, List, [], ◌∷◌, ◌++◌}
use Rattle.std.specs.Prelude.{map}
use Rattle.dlms_pages.specs.declared.device.Pages.{Ghosts}
use Rattle.dlms_service.specs.Stake.{is_success}
use Rattle.dlms_state.specs.declared.event.Event.{Event}
use Rattle.dlms_store.specs.World.{StoreWorld, StoreStep, StoreRun, IsBeginning}
use Rattle.dlms_store.specs.World.StoreStep.{Opens}
use Rattle.dlms_store.specs.declared.store.Store.{Store}
use Rattle.dlms_store.proofs.Runs.{recovers, at_start}
use Rattle.dlms_meter.specs.declared.meter.Meter.{Meter}
use Rattle.dlms_meter.specs.Healthy.{AreServed, IsHealthy}
use Rattle.dlms_meter.specs.Histories.{Act, OverLinks, Asks, Disconnects, Makes, History, AnyCall, Linked, Requested, Disconnected, act_of, IsAnyCall, AnyCalls, IsCaused, AreCaused, AllHealthy, GoesWellBy, AllGoWell, steps_by, all_steps, Era, IsEra, Eras, steps_before, steps_of_eras, RecoversInEras, AnswersBy, AnyAnswers, AllFind, NoneIsTakenBack}
use Rattle.dlms_meter.specs.Messages.{disconnected}
use Rattle.dlms_meter.specs.Run.{MeterWorld, Turn, Stands, first_world, recovered, silent}
use Rattle.dlms_meter.specs.Steps.{AllMayChoose, Fed, Idled, Told}
use Rattle.dlms_meter.proofs.BillingLaw.{Holds, answer_holds, at, none_pending, run_holds}
use Rattle.dlms_meter.proofs.CauseLaw.{fed}
use Rattle.dlms_meter.proofs.HealthLaw.{decided, served}
use Rattle.dlms_meter.proofs.LifeLaw.{ends_opened}
use Rattle.dlms_meter.proofs.StoreLaw.{runs_on, step_run}

-- ---- calls

module _ {P A : Type 0} {ghosts : Ghosts P} where
  one_call : (call : AnyCall) (old new : Meter P A ghosts) (w : MeterWorld) → IsAnyCall old call new → Stands old w
      → (w' : MeterWorld) × (makes : Makes w (act_of call) w') × IsCaused old new call w w' makes × Stands new w'
  one_call (Linked (Fed taken reply)) old new w is stands =
      let here = is.0 w stands in
      let piece = fed old new here.1 w taken reply here.0 here.2 here.3 in
      (here.0, piece.0, piece.1, here.3)
  one_call (Linked Idled) old new w is stands = (silent w, refl, tt, is.0 w stands)
  one_call (Linked (Told event outcome)) old new w is stands = let here = is.0 w stands in (here.0, (here.1, here.2), here.3, here.4)
  one_call (Requested who apdu answer) old new w is stands = let here = is.0 w stands in (here.0, here.1, here.2, here.3)
  one_call (Disconnected who) old new w is stands = (disconnected w who, refl, tt, is.0 w stands)

  pub caused : (calls : List AnyCall) (old new : Meter P A ghosts) (w : MeterWorld) (is : AnyCalls old calls new) → Stands old w
      → (w' : MeterWorld) × (history : History w (map act_of calls) w') × AreCaused old calls new is w w' history × Stands new w'
  caused [] old new w is stands = (w, refl, tt, subst (λ m. Stands m w) (sym is) stands)
  caused (call ∷ calls) old new w (mid, is, rest) stands =
      let here = one_call call old mid w is stands in
      let after = caused calls mid new here.0 rest here.3 in
      (after.0, (here.0, here.1, after.1), (here.2, here.3, after.2), after.3)

  all_served : (old new : Store P A ghosts) (turns : List Turn) → IsHealthy old new → AllMayChoose old new turns → AreServed turns
  all_served old new [] healthy may = tt
  all_served old new (turn ∷ turns) healthy may = (served old new turn.choice healthy may.0, all_served old new turns healthy may.1)

  one_well : (call : AnyCall) (old new : Meter P A ghosts) (w w' : MeterWorld) (makes : Makes w (act_of call) w') → IsHealthy old.store new.store → Stands old w → IsCaused old new call w w' makes
      → GoesWellBy w (act_of call) w' makes
  one_well (Linked (Fed taken reply)) old new w w' leads healthy stands may = all_served old.store new.store leads.turns healthy may
  one_well (Linked Idled) old new w w' leads healthy stands may = tt
  one_well (Linked (Told event outcome)) old new w w' (step, judged) healthy stands cause = decided old new event outcome step w w' healthy stands judged cause
  one_well (Requested who apdu answer) old new w w' is healthy stands may = served old.store new.store is.choice healthy may
  one_well (Disconnected who) old new w w' is healthy stands may = tt

  pub go_well : (calls : List AnyCall) (old new : Meter P A ghosts) (w : MeterWorld) (is : AnyCalls old calls new) → AllHealthy old calls new is → Stands old w
      → (w' : MeterWorld) × (history : History w (map act_of calls) w') × AllGoWell w (map act_of calls) w' history × Stands new w'
  go_well [] old new w is healthy stands = (w, refl, tt, subst (λ m. Stands m w) (sym is) stands)
  go_well (call ∷ calls) old new w (mid, is, rest) (healthy, others) stands =
      let here = one_call call old mid w is stands in
      let after = go_well calls mid new here.0 rest others here.3 in
      (after.0, (here.0, here.1, after.1), (one_well call old mid w here.0 here.1 healthy stands here.2, after.2), after.3)

-- ---- the store

act_run : (w : MeterWorld) (act : Act) (w' : MeterWorld) (makes : Makes w act w') → StoreRun w.store (steps_by w act w' makes) w'.store
act_run w (OverLinks step) w' leads = step_run w step w' leads
act_run w (Asks who apdu answer) w' is = subst (λ (x : MeterWorld). StoreRun w.store is.steps x.store) (sym is.same) is.run
act_run w (Disconnects who) w' is = ap (λ (x : MeterWorld). x.store) is

history_run : (w w' : MeterWorld) (acts : List Act) (history : History w acts w') → StoreRun w.store (all_steps w acts w' history) w'.store
history_run w w' [] history = ap (λ (x : MeterWorld). x.store) history
history_run w w' (act ∷ acts) (mid, makes, more) =
    runs_on (steps_by w act mid makes) (all_steps mid acts w' more) w.store mid.store w'.store (act_run w act mid makes) (history_run mid w' acts more)

-- an era, with its recovery
era_run : (w : MeterWorld) (era : Era) (is : IsEra w era) → StoreRun w.store (steps_before w era is ++ Opens era.found ∷ []) is.now
era_run w era is =
    let front = all_steps w era.acts is.last is.history in
    let all = runs_on front (era.cut ++ era.quiet ++ Opens era.found ∷ []) w.store is.last.store is.now (history_run w is.last era.acts is.history) is.store in
    let end : List StoreStep = Opens era.found ∷ [] in
    subst (λ (xs : List StoreStep). StoreRun w.store xs is.now)
    (sym (append_assoc front (era.cut ++ era.quiet) end) ∙ ap (λ (xs : List StoreStep). xs ++ end) (sym (append_assoc front era.cut era.quiet))) all

era_found : (w : MeterWorld) (era : Era) (is : IsEra w era) → is.now ≡ (recovered era.found).store
era_found w era is = ends_opened (steps_before w era is) w.store is.now era.found (era_run w era is)

eras_run : (w w' : MeterWorld) (eras : List Era) (is : Eras w eras w') → StoreRun w.store (steps_of_eras w eras w' is) w'.store
eras_run w w' [] is = ap (λ (x : MeterWorld). x.store) is
eras_run w w' (era ∷ eras) (is, more) =
    runs_on (steps_before w era is ++ Opens era.found ∷ []) (steps_of_eras (recovered era.found) eras w' more) w.store (recovered era.found).store w'.store
    (subst (λ (x : StoreWorld). StoreRun w.store (steps_before w era is ++ Opens era.found ∷ []) x) (era_found w era is) (era_run w era is))
    (eras_run (recovered era.found) w' eras more)

pub recovers_in_eras : RecoversInEras
recovers_in_eras w eras earlier era is =
    let before = steps_of_eras first_world eras w earlier in
    let all = runs_on before (steps_before w era is ++ Opens era.found ∷ []) first_world.store w.store is.now (eras_run first_world w eras earlier) (era_run w era is) in
    let whole = subst (λ (xs : List StoreStep). StoreRun first_world.store xs is.now) (sym (append_assoc before (steps_before w era is) (Opens era.found ∷ []))) all in
    let found = recovers (before ++ steps_before w era is) first_world.store is.now era.found [] [] at_start whole in
    record { missing = found.missing; beginning = found.beginning; answered = found.answered; page = found.page }

-- ---- what was answered is never taken back

act_holds : (w : MeterWorld) (act : Act) (w' : MeterWorld) (makes : Makes w act w') (events : List Event) → AnswersBy w act w' makes events → Holds events w'.store
act_holds w (OverLinks step) w' leads events answers = answer_holds w step w' leads events answers
act_holds w (Asks who apdu answer) w' is events (success, accepted) =
    at events w'.store is.store (ap (λ (x : MeterWorld). x.store) is.same)
    (none_pending events is.store (is.promise (subst (λ (bytes : List ℕ). is_success bytes ≡ true) is.answered success)) accepted)
act_holds w (Disconnects who) w' is events none = absurd none

answers_hold : (w : MeterWorld) (acts : List Act) (w' : MeterWorld) (history : History w acts w') (events : List Event) → AnyAnswers w acts w' history events → Holds events w'.store
answers_hold w [] w' history events none = absurd none
answers_hold w (act ∷ acts) w' (mid, makes, more) events (inl here) = run_holds events (all_steps mid acts w' more) mid.store w'.store (history_run mid w' acts more) (act_holds w act mid makes events here)
answers_hold w (act ∷ acts) w' (mid, makes, more) events (inr later) = answers_hold mid acts w' more events later

found_holds : (w : MeterWorld) (era : Era) (is : IsEra w era) (events : List Event) → Holds events is.last.store → IsBeginning events era.found
found_holds w era is events h =
    subst (λ (x : StoreWorld). Holds events x) (era_found w era is) (run_holds events (era.cut ++ era.quiet ++ Opens era.found ∷ []) is.last.store is.now is.store h)

eras_hold : (events : List Event) (w : MeterWorld) (eras : List Era) (last : MeterWorld) → Eras w eras last → Holds events w.store → AllFind events eras
eras_hold events w [] last is h = tt
eras_hold events w (era ∷ eras) last (is, more) h =
    let here : IsBeginning events era.found = found_holds w era is events (run_holds events (all_steps w era.acts is.last is.history) w.store is.last.store (history_run w is.last era.acts is.history) h) in
    (here, eras_hold events (recovered era.found) eras last more here)

pub none_is_taken_back : NoneIsTakenBack
none_is_taken_back w era is events answered later last more =
    let here : IsBeginning events era.found = found_holds w era is events (answers_hold w era.acts is.last is.history events answered) in
    (here, eras_hold events (recovered era.found) later last more here)
