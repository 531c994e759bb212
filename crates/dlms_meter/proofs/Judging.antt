-- A pulse or a moment, judged.
use Rattle.std.proofs.Common.{◌≡◌, refl, sym, ◌∙◌, ap, subst, Bool, true, false, [], ◌∷◌, Option, Some, None, Result, Ok, Err}
use Rattle.dlms_frame.specs.declared.client.Client.{Client}
use Rattle.dlms_frame.specs.Stream.{Fits, Kept}
use Rattle.dlms_pages.specs.declared.device.Pages.{Ghosts}
use Rattle.dlms_state.specs.declared.event.Event.{Event}
use Rattle.dlms_state.specs.declared.event.Refused.{Refused}
use Rattle.dlms_state.specs.Refusal.{refusal, refusal_after}
use Rattle.dlms_state.specs.StateValue.{StateValue, IsStateOf}
use Rattle.dlms_store.specs.Store.{IsRunning, IsStopped, refusal_in, state_in}
use Rattle.dlms_store.specs.World.{StoreWorld, StoreStep, Next}
use Rattle.dlms_store.specs.World.StoreWorld.{Runs, InDoubt, Rests}
use Rattle.dlms_store.specs.World.StoreStep.{Fails as Fault, Refuses}
use Rattle.dlms_store.specs.Going.{Knows, Goes}
use Rattle.dlms_store.specs.declared.fault.AddFault.{AddFault}
use Rattle.dlms_store.specs.declared.fault.AddFault.TheVariants as add
use Rattle.dlms_store.specs.declared.store.Store.{Store}
use Rattle.dlms_store.proofs.Going.{Added, add_goes}
use Rattle.dlms_meter.specs.declared.meter.Meter.{Meter}
use Rattle.dlms_meter.specs.Run.{MeterWorld, Stands, Judged, JudgedFor, IsRunningIn, IsStoppedIn, with_store, events_in, record_for}
use Rattle.dlms_meter.proofs.RunLemmas.{state_known}

not_true : (b : Bool) → (b ≡ true → ⊥) → b ≡ false
not_true true h = absurd (h refl)
not_true false h = refl

running_in : {P A : Type 0} {ghosts : Ghosts P} (before : StoreWorld) (store : Store P A ghosts) → Knows store before → IsRunning store → IsRunningIn before
running_in (Runs s p) store knows runs = tt
running_in (InDoubt s p) store knows runs = absurd (cc (knows.0, runs))
running_in (Rests events) store knows runs = absurd knows

stopped_in : {P A : Type 0} {ghosts : Ghosts P} (before : StoreWorld) (store : Store P A ghosts) → Knows store before → IsStopped store → IsStoppedIn before
stopped_in (Runs s p) store knows stopped = absurd (cc (knows.0, stopped))
stopped_in (InDoubt s p) store knows stopped = tt
stopped_in (Rests events) store knows stopped = absurd knows

-- the table on the accepted events, and on the store's state
table : {P A : Type 0} {ghosts : Ghosts P} (before : StoreWorld) (store : Store P A ghosts) (event : Event) → Knows store before → refusal_in store event ≡ refusal_after (events_in before) event
table before store event knows =
    let of : IsStateOf (events_in before) (state_in store) = state_known before store (state_in store) knows (λ s p remembers. remembers.state) in
    ap (λ (s : StateValue). refusal s.last s.offset event) of.value

-- what is not refused
passes_by : (o : Option Refused) → ((cause : Refused) → o ≡ Some cause → ⊥) → o ≡ None
passes_by None never = refl
passes_by (Some cause) never = absurd (never cause refl)

passes : {P A : Type 0} {ghosts : Ghosts P} (result : Result (Unit {0}) AddFault) (event : Event) (old new : Store P A ghosts) → Added result event old new
    → (result ≡ Err add.Stopped → ⊥) → ((cause : Refused) → result ≡ Err (add.Refused cause) → ⊥) → refusal_in old event ≡ None
passes result event old new is runs unrefused =
    let running = not_true old.stopped (λ stopped. runs (is.stopped.1 stopped)) in
    passes_by (refusal_in old event) (λ cause e. unrefused cause ((is.refused cause).1 (running, e)))

-- the meter with the store's world changed
stands_on : {P A : Type 0} {ghosts : Ghosts P} (w : MeterWorld) (now : StoreWorld) (old new : Meter P A ghosts) → Stands old w → new.deframer ≡ old.deframer → ((who : Client) → record_for old who ≡ record_for new who)
    → Knows new.store now → Stands new (with_store w now)
stands_on w now old new stands line own knows = record {
  line = subst (λ (kept : Kept). Fits kept.bytes w.stretch w.place) (sym line) stands.line;
  own = λ who. stands.own who ∙ own who;
  store = knows;
}

pub judged : {P A : Type 0} {ghosts : Ghosts P} (result : Result (Unit {0}) AddFault) (event : Event) (w : MeterWorld) (old new : Meter P A ghosts) → Stands old w → Added result event old.store new.store
    → new.deframer ≡ old.deframer → ((who : Client) → record_for old who ≡ record_for new who)
    → (w' : MeterWorld) × (step : StoreStep) × Judged w event result step w' × JudgedFor event result old.store new.store × Stands new w' × Goes w.store (step ∷ []) w'.store old.store new.store
judged (Ok done) event w old new stands is line own =
    let goes = add_goes (Ok done) event w.store old.store new.store stands.store is in
    let free = passes (Ok done) event old.store new.store is (λ e. absurd (cc e)) (λ cause e. absurd (cc e)) in (
      with_store w goes.1,
      goes.0,
      (sym (table w.store old.store event stands.store) ∙ free, goes.2, goes.1, subst (λ (x : StoreWorld). Next w.store goes.0 x) (sym goes.3.run.2) goes.3.run.1, refl),
      tt,
      stands_on w goes.1 old new stands line own goes.3.knows,
      goes.3,
    )
judged (Err add.Device) event w old new stands is line own =
    let goes = add_goes (Err add.Device) event w.store old.store new.store stands.store is in
    let free = passes (Err add.Device) event old.store new.store is (λ e. absurd (cc e)) (λ cause e. absurd (cc e)) in (
      with_store w goes.0,
      Fault,
      (sym (table w.store old.store event stands.store) ∙ free, refl, goes.0, subst (λ (x : StoreWorld). Next w.store Fault x) (sym goes.1.run.2) goes.1.run.1, refl),
      (is.device refl).cause,
      stands_on w goes.0 old new stands line own goes.1.knows,
      goes.1,
    )
judged (Err add.Stopped) event w old new stands is line own =
    let goes = add_goes (Err add.Stopped) event w.store old.store new.store stands.store is in
    (w, Refuses, (stopped_in w.store old.store stands.store (is.stopped.0 refl), refl, refl), tt, stands_on w w.store old new stands line own goes.knows, goes)
judged (Err add.Exhausted) event w old new stands is line own =
    let goes = add_goes (Err add.Exhausted) event w.store old.store new.store stands.store is in
    let why = is.exhausted.0 refl in (
      w,
      Refuses,
      (running_in w.store old.store stands.store why.0, sym (table w.store old.store event stands.store) ∙ why.1, refl, refl),
      why.2,
      stands_on w w.store old new stands line own goes.knows,
      goes,
    )
judged (Err (add.Refused cause)) event w old new stands is line own =
    let goes = add_goes (Err (add.Refused cause)) event w.store old.store new.store stands.store is in
    let why = (is.refused cause).0 refl in (
      w,
      Refuses,
      (running_in w.store old.store stands.store why.0, sym (table w.store old.store event stands.store) ∙ why.1, refl, refl),
      tt,
      stands_on w w.store old new stands line own goes.knows,
      goes,
    )
