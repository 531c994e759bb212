-- The store's steps in a life of the meter are a run of the store.
use Rattle.std.proofs.Common.{◌≡◌, refl, sym, ap, subst, ◌∙◌, append_assoc, List, [], ◌∷◌, ◌++◌}
use Rattle.dlms_state.specs.declared.event.Event.{Event}
use Rattle.dlms_store.specs.World.{StoreWorld, StoreStep, Next, StoreRun}
use Rattle.dlms_store.specs.World.StoreWorld.{Runs, InDoubt, Rests}
use Rattle.dlms_store.specs.World.StoreStep.{Stops, Opens}
use Rattle.dlms_store.proofs.Runs.{recovers, at_start, ends_at_rest, stays_found}
use Rattle.dlms_meter.specs.Run.{MeterWorld, first_world, recovered}
use Rattle.dlms_meter.specs.Storing.{store_steps}
use Rattle.dlms_meter.specs.Lives.{Leg, IsLeg, Lives, before_recovery, life_steps, RecoversInLives, NoFurtherStopInLives}
use Rattle.dlms_meter.proofs.StoreLaw.{runs_on, stores_in_turn}

-- a recovery leads to what it found, with nothing pending
opened : (before now : StoreWorld) (found : List Event) → Next before (Opens found) now → now ≡ Runs found []
opened (Runs s p) now found next = absurd next
opened (InDoubt s p) now found next = next.1
opened (Rests events) now found next = next.1

pub ends_opened : (steps : List StoreStep) (before now : StoreWorld) (found : List Event) → StoreRun before (steps ++ Opens found ∷ []) now → now ≡ Runs found []
ends_opened [] before now found (mid, next, same) = same ∙ opened before mid found next
ends_opened (step ∷ steps) before now found (mid, next, run) = ends_opened steps mid now found run

-- a leg, with its recovery
leg_run : (w : MeterWorld) (leg : Leg) (is : IsLeg w leg) → StoreRun w.store (before_recovery w leg is ++ Opens leg.found ∷ []) is.now
leg_run w leg is =
    let front = store_steps w leg.steps is.last is.run in
    let all = runs_on front (leg.cut ++ leg.quiet ++ Opens leg.found ∷ []) w.store is.last.store is.now (stores_in_turn w is.last leg.steps is.run) is.store in
    let end : List StoreStep = Opens leg.found ∷ [] in
    subst (λ (xs : List StoreStep). StoreRun w.store xs is.now)
    (sym (append_assoc front (leg.cut ++ leg.quiet) end) ∙ ap (λ (xs : List StoreStep). xs ++ end) (sym (append_assoc front leg.cut leg.quiet))) all

pub leg_found : (w : MeterWorld) (leg : Leg) (is : IsLeg w leg) → is.now ≡ (recovered leg.found).store
leg_found w leg is = ends_opened (before_recovery w leg is) w.store is.now leg.found (leg_run w leg is)

life_run : (w w' : MeterWorld) (legs : List Leg) (lives : Lives w legs w') → StoreRun w.store (life_steps w legs w' lives) w'.store
life_run w w' [] lives = ap (λ (x : MeterWorld). x.store) lives
life_run w w' (leg ∷ legs) (is, lives) =
    runs_on (before_recovery w leg is ++ Opens leg.found ∷ []) (life_steps (recovered leg.found) legs w' lives) w.store (recovered leg.found).store w'.store
    (subst (λ (x : StoreWorld). StoreRun w.store (before_recovery w leg is ++ Opens leg.found ∷ []) x) (leg_found w leg is) (leg_run w leg is))
    (life_run (recovered leg.found) w' legs lives)

pub recovers_in_lives : RecoversInLives
recovers_in_lives w legs lives leg is =
    let before = life_steps first_world legs w lives in
    let all = runs_on before (before_recovery w leg is ++ Opens leg.found ∷ []) first_world.store w.store is.now (life_run first_world w legs lives) (leg_run w leg is) in
    let whole = subst (λ (xs : List StoreStep). StoreRun first_world.store xs is.now) (sym (append_assoc before (before_recovery w leg is) (Opens leg.found ∷ []))) all in
    let found = recovers (before ++ before_recovery w leg is) first_world.store is.now leg.found [] [] at_start whole in
    record { missing = found.missing; beginning = found.beginning; answered = found.answered; page = found.page }

pub no_further_stop : NoFurtherStopInLives
no_further_stop w last legs steps cut quiet at_stop now found lives run cut_off stops is again =
    let front = store_steps w steps last run in
    let here = runs_on front (cut ++ Stops ∷ []) w.store last.store at_stop (stores_in_turn w last steps run) stops in
    let before = subst (λ (xs : List StoreStep). StoreRun w.store xs at_stop) (sym (append_assoc front cut (Stops ∷ []))) here in
    let rest = ends_at_rest (front ++ cut) w.store at_stop before in
    let same = stays_found quiet rest.0 found (Rests rest.0) now is refl (subst (λ (x : StoreWorld). StoreRun x (quiet ++ Opens found ∷ []) now) rest.1 again) in
    rest.1 ∙ ap Rests (sym same)
