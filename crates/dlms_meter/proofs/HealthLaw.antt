-- Calls that met no fault of the device are a run without one.
use Rattle.std.proofs.Common.{refl, sym, ap, subst, inl, inr, append-nil, ◌∙◌, ℕ, List, [], ◌∷◌}
use Rattle.std.specs.Prelude.{Option, map, Result, Ok, Err}
use Rattle.dlms_pages.specs.declared.device.Pages.{Ghosts}
use Rattle.dlms_state.specs.declared.event.Event.{Event}
use Rattle.dlms_store.specs.World.{StoreWorld, StoreStep}
use Rattle.dlms_store.specs.World.StoreWorld.{Runs, InDoubt, Rests}
use Rattle.dlms_store.specs.Going.{Knows}
use Rattle.dlms_store.specs.Store.{IsStopped}
use Rattle.dlms_store.specs.declared.fault.AddFault.{AddFault}
use Rattle.dlms_store.specs.declared.fault.AddFault.TheVariants.{Refused, Device, Stopped, Exhausted}
use Rattle.dlms_store.specs.declared.store.Store.{Store}
use Rattle.dlms_meter.specs.declared.meter.Meter.{Meter}
use Rattle.dlms_meter.specs.Run.{MeterWorld, Choice, Served, DeviceFails, MayChoose, Comes, Fed, HasNoFrame, JudgedFor, Judged, IsStoppedIn, Stands, after_turn, grown, listed, silent}
use Rattle.dlms_meter.specs.Steps.{Call, Calls, Run, step_of, Fed as FedCall, Idled, Told}
use Rattle.dlms_meter.specs.Healthy.{IsHealthy, AreHealthy, IsServed, AreServed, IsDecided, GoesWell}
use Rattle.dlms_meter.proofs.RunLemmas.{none_ended}

-- a choice that such a call may take
pub served : {P A : Type 0} {ghosts : Ghosts P} (old new : Store P A ghosts) (choice : Choice) → IsHealthy old new → MayChoose old new choice → IsServed choice
served old new (Served memory) healthy may = tt
served old new (DeviceFails kept wanted) healthy (inl rose) = healthy.steady rose
served old new (DeviceFails kept wanted) healthy (inr (inl stopped)) = healthy.running stopped
served old new (DeviceFails kept wanted) healthy (inr (inr (inl commit))) = healthy.settles commit
served old new (DeviceFails kept wanted) healthy (inr (inr (inr (event, is, exhausted)))) = healthy.takes event (inr exhausted)

-- a call of feed, with its frame if it ended one
fed : {P A : Type 0} {ghosts : Ghosts P} (old new : Meter P A ghosts) (steps : List StoreStep) (w : MeterWorld) (taken : List ℕ) (reply : Option (List ℕ)) (w' : MeterWorld) → IsHealthy old.store new.store
    → Fed (MayChoose old.store new.store) w taken reply steps w' → Stands new w' → (comes : Comes w taken (listed reply) w') × AreServed comes.turns
fed old new steps w taken reply w' healthy (inl (free, none, no_steps, is)) stands = (record { turns = []; answers = (free, ap listed none, is) }, tt)
fed old new steps w taken reply w' healthy (inr (turn, is_turn, may, promise, ends, told, took, is)) stands =
    let free : HasNoFrame (after_turn (grown w taken) turn).stretch turn.to =
    subst (λ (x : MeterWorld). HasNoFrame x.stretch x.place) is (none_ended new.deframer.bytes w'.stretch w'.place stands.line) in (
      record { turns = turn ∷ []; answers = (is_turn, [], ap listed told ∙ sym (append-nil (listed turn.reply)), (free, refl, is)) },
      (served old.store new.store turn.choice healthy may, tt),
    )

-- a stopped store is stopped
stopped : {P A : Type 0} {ghosts : Ghosts P} (store : Store P A ghosts) (w : StoreWorld) → Knows store w → IsStoppedIn w → IsStopped store
stopped store (Runs s p) knows is = absurd is
stopped store (InDoubt s p) knows is = knows.0
stopped store (Rests events) knows is = absurd knows

pub decided : {P A : Type 0} {ghosts : Ghosts P} (old new : Meter P A ghosts) (event : Event) (outcome : Result (Unit {0}) AddFault) (step : StoreStep) (w w' : MeterWorld) → IsHealthy old.store new.store → Stands old w
    → Judged w event outcome step w' → JudgedFor event outcome old.store new.store → IsDecided outcome
decided old new event (Ok done) step w w' healthy stands judged cause = tt
decided old new event (Err (Refused why)) step w w' healthy stands judged cause = tt
decided old new event (Err Device) step w w' healthy stands judged cause = healthy.steady cause
decided old new event (Err Stopped) step w w' healthy stands judged cause = healthy.running (stopped old.store w.store stands.store judged.0)
decided old new event (Err Exhausted) step w w' healthy stands judged cause = healthy.takes event (inl cause)

pub go_well : {P A : Type 0} {ghosts : Ghosts P} (calls : List Call) (old new : Meter P A ghosts) (w : MeterWorld) (is : Calls old calls new) → AreHealthy old calls new is → Stands old w
    → (w' : MeterWorld) × (run : Run w (map step_of calls) w') × GoesWell w (map step_of calls) w' run × Stands new w'
go_well [] old new w is healthy stands = (w, refl, tt, subst (λ m. Stands m w) (sym is) stands)
go_well (FedCall taken reply ∷ calls) old new w (mid, call, rest) (healthy, others) stands =
    let here = call.0 w stands in
    let piece = fed old mid here.1 w taken reply here.0 healthy here.2 here.3 in
    let after = go_well calls mid new here.0 rest others here.3 in
    (after.0, (here.0, piece.0, after.1), (piece.1, after.2), after.3)
go_well (Idled ∷ calls) old new w (mid, call, rest) (healthy, others) stands =
    let after = go_well calls mid new (silent w) rest others (call.0 w stands) in
    (after.0, (silent w, refl, after.1), after.2, after.3)
go_well (Told event outcome ∷ calls) old new w (mid, call, rest) (healthy, others) stands =
    let here = call.0 w stands in
    let after = go_well calls mid new here.0 rest others here.4 in
    (after.0, (here.0, (here.1, here.2), after.1), (decided old mid event outcome here.1 w here.0 healthy stands here.2 here.3, after.2), after.3)
