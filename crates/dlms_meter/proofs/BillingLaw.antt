-- An answer stays in whatever a store is later found to contain.
use Rattle.std.proofs.Common.{◌≡◌, ⊎_elim, inl, inr, sym, ap, subst, ◌∙◌, append_assoc, append-nil, ℕ, List, [], ◌∷◌, ◌++◌, take, Bool, true, Option, Some, None}
use Rattle.std.specs.Prelude.{IfSome}
use Rattle.dlms_frame.specs.declared.client.Client.{Client}
use Rattle.dlms_link.specs.Server.{server_on}
use Rattle.dlms_service.specs.Stake.{is_success}
use Rattle.dlms_state.specs.declared.event.Event.{Event}
use Rattle.dlms_store.specs.World.{StoreWorld, StoreStep, Next, StoreRun, IsBetween, IsBeginning}
use Rattle.dlms_store.specs.World.StoreWorld.{Runs, InDoubt, Rests}
use Rattle.dlms_store.specs.World.StoreStep.{Adds, AddsBehind, Settles, Refuses, Fails, Closes, ClosesInDoubt, Stops, Opens, OpenFails}
use Rattle.dlms_meter.specs.Run.{MeterWorld, Turn, Choice, DeviceFails, Handled, Handles, IsTurn, Answers, Takes, after_turn, grown, client_at, events_of, events_in, pending_in, recovered}
use Rattle.dlms_meter.specs.Steps.{Step, Piece, Silence, Happens, Leads, Run}
use Rattle.dlms_meter.specs.Storing.{steps_of, store_steps}
use Rattle.dlms_meter.specs.Lives.{Leg, IsLeg, Lives}
use Rattle.dlms_meter.specs.Billing.{IsAnswered, OneIsAnswered, AnswersIn, HasAnswered, EachFinds, NothingIsTakenBack}
use Rattle.dlms_meter.proofs.Feeding.{IsUnsaid, unsaid, promised}
use Rattle.dlms_meter.proofs.StoreLaw.{turns_run, stores_in_turn}
use Rattle.dlms_meter.proofs.LifeLaw.{leg_found}

-- these events are settled, and so none of them can be lost
abbrev pub Holds : List Event → StoreWorld → Type 0
Holds events (Runs s p) = IsBeginning events s
Holds events (InDoubt s p) = IsBeginning events s
Holds events (Rests e) = IsBeginning events e

longer : (events s more : List Event) → IsBeginning events s → IsBeginning events (s ++ more)
longer events s more (rest, is) = (rest ++ more, sym (append_assoc events rest more) ∙ ap (λ (l : List Event). l ++ more) is)

between : (events s p found : List Event) → IsBeginning events s → IsBetween s p found → IsBeginning events found
between events s p found h (n, is) = subst (λ (l : List Event). IsBeginning events l) (sym is) (longer events s (take n p) h)

pub at : (events : List Event) (mid now : StoreWorld) → mid ≡ now → Holds events now → Holds events mid
at events mid now same holds = subst (λ (w : StoreWorld). Holds events w) (sym same) holds

-- each step keeps them
step_holds : (events : List Event) (before : StoreWorld) (step : StoreStep) (mid : StoreWorld) → Next before step mid → Holds events before → Holds events mid
step_holds events (Runs s p) (Adds e) mid next h = at events mid (Runs s (p ++ e ∷ [])) next.0 h
step_holds events (Runs s p) (AddsBehind e) mid next h = at events mid (Runs (s ++ p) (e ∷ [])) next.0 (longer events s p h)
step_holds events (Runs s p) Settles mid next h = at events mid (Runs (s ++ p) []) next (longer events s p h)
step_holds events (Runs s p) Refuses mid next h = at events mid (Runs s p) next h
step_holds events (Runs s p) Fails mid next h = at events mid (InDoubt s p) next h
step_holds events (Runs s p) Closes mid next h = at events mid (Rests (s ++ p)) next (longer events s p h)
step_holds events (Runs s p) ClosesInDoubt mid next h = at events mid (InDoubt s p) next h
step_holds events (Runs s p) Stops mid next h = at events mid (Rests next.0) next.2 (between events s p next.0 h next.1)
step_holds events (Runs s p) (Opens e) mid none h = absurd none
step_holds events (Runs s p) OpenFails mid none h = absurd none
step_holds events (InDoubt s p) Refuses mid next h = at events mid (InDoubt s p) next h
step_holds events (InDoubt s p) ClosesInDoubt mid next h = at events mid (InDoubt s p) next h
step_holds events (InDoubt s p) Stops mid next h = at events mid (Rests next.0) next.2 (between events s p next.0 h next.1)
step_holds events (InDoubt s p) (Opens e) mid next h = at events mid (Runs e []) next.1 (between events s p e h next.0)
step_holds events (InDoubt s p) OpenFails mid next h =
    ⊎_elim (λ same. at events mid (InDoubt s p) same h) (λ fixed. at events mid (Rests fixed.0) fixed.2 (between events s p fixed.0 h fixed.1)) next
step_holds events (InDoubt s p) (Adds e) mid none h = absurd none
step_holds events (InDoubt s p) (AddsBehind e) mid none h = absurd none
step_holds events (InDoubt s p) Settles mid none h = absurd none
step_holds events (InDoubt s p) Fails mid none h = absurd none
step_holds events (InDoubt s p) Closes mid none h = absurd none
step_holds events (Rests e) Stops mid next h = at events mid (Rests e) next h
step_holds events (Rests e) (Opens found) mid next h = at events mid (Runs found []) next.1 (subst (λ (l : List Event). IsBeginning events l) (sym next.0) h)
step_holds events (Rests e) OpenFails mid next h = at events mid (Rests e) next h
step_holds events (Rests e) (Adds x) mid none h = absurd none
step_holds events (Rests e) (AddsBehind x) mid none h = absurd none
step_holds events (Rests e) Settles mid none h = absurd none
step_holds events (Rests e) Refuses mid none h = absurd none
step_holds events (Rests e) Fails mid none h = absurd none
step_holds events (Rests e) Closes mid none h = absurd none
step_holds events (Rests e) ClosesInDoubt mid none h = absurd none

pub run_holds : (events : List Event) (steps : List StoreStep) (before now : StoreWorld) → StoreRun before steps now → Holds events before → Holds events now
run_holds events [] before now same h = at events now before same h
run_holds events (step ∷ steps) before now (mid, next, run) h = run_holds events steps mid now run (step_holds events before step mid next h)

-- ---- an answer of success leaves all settled

pub none_pending : (events : List Event) (store : StoreWorld) → pending_in store ≡ [] → events_in store ≡ events → Holds events store
none_pending events (Runs s p) none is = ([], append-nil events ∙ sym is ∙ ap (λ (l : List Event). s ++ l) none ∙ append-nil s)
none_pending events (InDoubt s p) none is = ([], append-nil events ∙ sym is ∙ ap (λ (l : List Event). s ++ l) none ∙ append-nil s)
none_pending events (Rests e) none is = ([], append-nil events ∙ sym is)

-- no answer of success reports a device that failed
never_said : (kept : Bool) (wanted : List Event) (w : MeterWorld) (turn : Turn) (who : Option Client) → Takes (events_of w) w.records turn who → turn.choice ≡ DeviceFails kept wanted → IsUnsaid turn.answer
never_said kept wanted w turn None takes failed = subst (λ (a : Option (List ℕ)). IsUnsaid a) (sym takes.2) tt
never_said kept wanted w turn (Some who) (own, handles, same) failed =
    let made : Handled = record { own = own; reply = turn.reply; answer = turn.answer; accepted = turn.accepted } in
    unsaid kept wanted (events_of w) (server_on (w.records who).link turn.frame).0 (w.records who).session (server_on (w.records who).link turn.frame).1 made
    (subst (λ (c : Choice). Handles c (events_of w) (w.records who) turn.frame made) failed handles)

abbrev IsPromised : Option (List ℕ) → StoreWorld → Type 0
IsPromised answer store = IfSome answer (λ bytes. is_success bytes ≡ true → pending_in store ≡ [])

turn_holds : (w : MeterWorld) (turn : Turn) (events : List Event) → IsTurn w turn → IsAnswered turn events → Holds events turn.store
turn_holds w turn events is (answer, said, success, accepted) =
    let promise = promised turn.choice turn.answer turn.accepted turn.steps w.store turn.store (λ kept wanted failed. never_said kept wanted w turn (client_at turn.frame.src) is.takes failed) is.stored is.run in
    let settled : pending_in turn.store ≡ [] = subst (λ (a : Option (List ℕ)). IsPromised a turn.store) said promise success in
    none_pending events turn.store settled accepted

turns_hold : (w : MeterWorld) (turns : List Turn) (replies : List (List ℕ)) (w' : MeterWorld) (events : List Event) → Answers w turns replies w' → OneIsAnswered turns events → Holds events w'.store
turns_hold w [] replies w' events answers one = absurd one
turns_hold w (turn ∷ turns) replies w' events (is_turn, rest, is, answers) (inl here) =
    run_holds events (steps_of turns) turn.store w'.store (turns_run (after_turn w turn) turns rest w' answers) (turn_holds w turn events is_turn here)
turns_hold w (turn ∷ turns) replies w' events (is_turn, rest, is, answers) (inr later) = turns_hold (after_turn w turn) turns rest w' events answers later

pub answer_holds : (w : MeterWorld) (step : Step) (w' : MeterWorld) (leads : Leads w step w') (events : List Event) → AnswersIn w step w' leads events → Holds events w'.store
answer_holds w (Piece bytes replies) w' leads events one = turns_hold (grown w bytes) leads.turns replies w' events leads.answers one
answer_holds w Silence w' leads events none = absurd none
answer_holds w (Happens event outcome) w' leads events none = absurd none

run_answers : (w : MeterWorld) (steps : List Step) (w' : MeterWorld) (run : Run w steps w') (events : List Event) → HasAnswered w steps w' run events → Holds events w'.store
run_answers w [] w' run events none = absurd none
run_answers w (step ∷ steps) w' (mid, leads, rest) events (inl here) = run_holds events (store_steps mid steps w' rest) mid.store w'.store (stores_in_turn mid w' steps rest) (answer_holds w step mid leads events here)
run_answers w (step ∷ steps) w' (mid, leads, rest) events (inr later) = run_answers mid steps w' rest events later

-- ---- what each recovery finds

found_holds : (w : MeterWorld) (leg : Leg) (is : IsLeg w leg) (events : List Event) → Holds events is.last.store → IsBeginning events leg.found
found_holds w leg is events h =
    subst (λ (x : StoreWorld). Holds events x) (leg_found w leg is) (run_holds events (leg.cut ++ leg.quiet ++ Opens leg.found ∷ []) is.last.store is.now is.store h)

lives_hold : (events : List Event) (w : MeterWorld) (legs : List Leg) (last : MeterWorld) → Lives w legs last → Holds events w.store → EachFinds events legs
lives_hold events w [] last lives h = tt
lives_hold events w (leg ∷ legs) last (is, lives) h =
    let here : IsBeginning events leg.found = found_holds w leg is events (run_holds events (store_steps w leg.steps is.last is.run) w.store is.last.store (stores_in_turn w is.last leg.steps is.run) h) in
    (here, lives_hold events (recovered leg.found) legs last lives here)

pub nothing_is_taken_back : NothingIsTakenBack
nothing_is_taken_back w leg is events answered later last lives =
    let here : IsBeginning events leg.found = found_holds w leg is events (run_answers w leg.steps is.last is.run events answered) in
    (here, lives_hold events (recovered leg.found) later last lives here)
