-- The store's steps in a run of the meter are a run of the store.
use Rattle.std.proofs.Common.{◌≡◌, ◌⊎◌, inl, inr, refl, sym, ap, subst, ℕ, List, [], ◌∷◌, ◌++◌, Result, Ok, Err}
use Rattle.dlms_state.specs.declared.event.Event.{Event}
use Rattle.dlms_store.specs.World.{StoreWorld, StoreStep, Next, StoreRun}
use Rattle.dlms_store.specs.World.StoreWorld.{Runs, InDoubt, Rests}
use Rattle.dlms_store.specs.World.StoreStep.{Refuses, Stops, Opens}
use Rattle.dlms_store.specs.declared.fault.AddFault.{AddFault}
use Rattle.dlms_store.specs.declared.fault.AddFault.TheVariants as add
use Rattle.dlms_meter.specs.Run.{MeterWorld, Turn, Answers, Judged, IsRunningIn, IsStoppedIn, with_store, first_world, after_turn, grown}
use Rattle.dlms_meter.specs.Steps.{Step, Piece, Silence, Happens, Leads, Run}
use Rattle.dlms_meter.specs.Storing.{steps_of, steps_in, store_steps, RecoversInRuns}
use Rattle.dlms_store.proofs.Runs.{recovers, at_start}

pub runs_on : (first second : List StoreStep) (before mid now : StoreWorld) → StoreRun before first mid → StoreRun mid second now → StoreRun before (first ++ second) now
runs_on [] second before mid now same run = subst (λ (x : StoreWorld). StoreRun x second now) same run
runs_on (step ∷ first) second before mid now (between, next, rest) run = (between, next, runs_on first second between mid now rest run)

pub turns_run : (w : MeterWorld) (turns : List Turn) (replies : List (List ℕ)) (w' : MeterWorld) → Answers w turns replies w' → StoreRun w.store (steps_of turns) w'.store
turns_run w [] replies w' (free, none, same) = ap (λ (x : MeterWorld). x.store) same
turns_run w (turn ∷ turns) replies w' (is_turn, rest, is, answers) = runs_on turn.steps (steps_of turns) w.store turn.store w'.store is_turn.run (turns_run (after_turn w turn) turns rest w' answers)

one_step : (w w' : MeterWorld) (step : StoreStep) (now : StoreWorld) → Next w.store step now → w' ≡ with_store w now → StoreRun w.store (step ∷ []) w'.store
one_step w w' step now next same = (now, next, ap (λ (x : MeterWorld). x.store) same)

refused_while : (before : StoreWorld) → IsRunningIn before ⊎ IsStoppedIn before → Next before Refuses before
refused_while (Runs s p) at = refl
refused_while (InDoubt s p) at = refl
refused_while (Rests events) (inl at) = absurd at
refused_while (Rests events) (inr at) = absurd at

refused : (w w' : MeterWorld) (step : StoreStep) → IsRunningIn w.store ⊎ IsStoppedIn w.store → step ≡ Refuses → w' ≡ w → StoreRun w.store (step ∷ []) w'.store
refused w w' step at is same = (w.store, subst (λ (x : StoreStep). Next w.store x w.store) (sym is) (refused_while w.store at), ap (λ (x : MeterWorld). x.store) same)

pub judged_run : (w : MeterWorld) (event : Event) (outcome : Result (Unit {0}) AddFault) (step : StoreStep) (w' : MeterWorld) → Judged w event outcome step w' → StoreRun w.store (step ∷ []) w'.store
judged_run w event (Ok done) step w' (free, is_add, now, next, same) = one_step w w' step now next same
judged_run w event (Err add.Device) step w' (free, is, now, next, same) = one_step w w' step now (subst (λ (x : StoreStep). Next w.store x now) (sym is) next) same
judged_run w event (Err add.Stopped) step w' (at, is, same) = refused w w' step (inr at) is same
judged_run w event (Err add.Exhausted) step w' (at, free, is, same) = refused w w' step (inl at) is same
judged_run w event (Err (add.Refused cause)) step w' (at, told, is, same) = refused w w' step (inl at) is same

pub step_run : (w : MeterWorld) (step : Step) (w' : MeterWorld) (leads : Leads w step w') → StoreRun w.store (steps_in w step w' leads) w'.store
step_run w (Piece bytes replies) w' leads = turns_run (grown w bytes) leads.turns replies w' leads.answers
step_run w Silence w' leads = ap (λ (x : MeterWorld). x.store) leads
step_run w (Happens event outcome) w' leads = judged_run w event outcome leads.0 w' leads.1

pub stores_in_turn : (w w' : MeterWorld) (steps : List Step) (run : Run w steps w') → StoreRun w.store (store_steps w steps w' run) w'.store
stores_in_turn w w' [] run = ap (λ (x : MeterWorld). x.store) run
stores_in_turn w w' (step ∷ steps) (mid, leads, rest) = runs_on (steps_in w step mid leads) (store_steps mid steps w' rest) w.store mid.store w'.store (step_run w step mid leads) (stores_in_turn mid w' steps rest)

pub recovers_in_runs : RecoversInRuns
recovers_in_runs w steps run stopped now found stops opens =
    let before = store_steps first_world steps w run in
    let after : StoreRun first_world.store (before ++ Stops ∷ []) stopped = runs_on before (Stops ∷ []) first_world.store w.store stopped (stores_in_turn first_world w steps run) (stopped, stops, refl) in
    let all = runs_on (before ++ Stops ∷ []) (Opens found ∷ []) first_world.store stopped now after (now, opens, refl) in
    let is = recovers (before ++ Stops ∷ []) first_world.store now found [] [] at_start all in
    record { missing = is.missing; beginning = is.beginning; answered = is.answered; page = is.page }
