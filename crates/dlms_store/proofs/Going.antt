-- Calls of a store, one after another.
use Rattle.std.proofs.Common.{◌≡◌, ◌⊎◌, inl, inr, ◌≤◌, ◌↔◌, ℕ, ◌+◌, Bool, true, false, List, [], ◌∷◌, ◌++◌, length, refl, sym, ap, subst, arith, Some, None, Result, Ok, Err, suc}
use Rattle.std.specs.Prelude.{OnOk, OnErr, ◌≢◌}
use Rattle.std.proofs.lemmas.Bool.{cases_lt}
use Rattle.dlms_pages.specs.Device.{Image, Rules, View}
use Rattle.dlms_pages.specs.declared.device.Pages.{Ghosts}
use Rattle.dlms_pages.proofs.Moments.{then_also, weaker}
use Rattle.dlms_state.specs.declared.event.Event.{Event}
use Rattle.dlms_state.specs.declared.event.Refused.{Refused}
use Rattle.dlms_journal.specs.Record.{record_of}
use Rattle.dlms_store.specs.Store.{IsStopped, IsRunning, JoinsPending, AddIsExhausted, CommitIsExhausted, Joins, JoinsAlone, Settles as SettlesAll, Fails as FailsIn, records_in, refusal_in}
use Rattle.dlms_store.specs.World.{StoreWorld, StoreStep, Next, StoreRun}
use Rattle.dlms_store.specs.World.StoreWorld.{Runs, InDoubt, Rests}
use Rattle.dlms_store.specs.World.StoreStep.{Adds, AddsBehind, Settles, Fails, Refuses, Stops}
use Rattle.dlms_store.specs.Fitting.{StoreFits, LeftBy, Moves, AddMoves, commit_step, DeviceFits}
use Rattle.dlms_store.specs.Going.{Knows, LeftDuring, Goes, AddGoes, CommitGoes, StopsDuring}
use Rattle.dlms_store.specs.declared.store.Store.{Store}
use Rattle.dlms_store.specs.declared.fault.AddFault.{AddFault}
use Rattle.dlms_store.specs.declared.fault.AddFault.TheVariants as add
use Rattle.dlms_store.specs.declared.fault.StoreFault.{StoreFault}
use Rattle.dlms_store.specs.declared.fault.StoreFault.TheVariants as commit
use Rattle.dlms_store.proofs.Keeping.{refuses, left_in_doubt}
use Rattle.dlms_pages.specs.Stops.{IsFixed}
use Rattle.dlms_store.specs.Image.{IsLeftFor}

-- ---- what a stop leaves during one step more

wider : (steps : List StoreStep) (before : StoreWorld) (step : StoreStep) (image : Image) → LeftDuring before steps image → LeftDuring before (steps ++ step ∷ []) image
wider [] before step image left = left
wider (one ∷ []) before step image left = inl left
wider (one ∷ two ∷ steps) before step image (inl left) = inl left
wider (one ∷ two ∷ steps) before step image (inr (mid, next, left)) = inr (mid, next, wider (two ∷ steps) mid step image left)

later : (steps : List StoreStep) (before mid : StoreWorld) (step : StoreStep) (image : Image) → StoreRun before steps mid → LeftBy mid image → LeftDuring before (steps ++ step ∷ []) image
later [] before mid step image run left = subst (λ (w : StoreWorld). LeftBy w image) run left
later (one ∷ []) before mid step image (first, next, run) left = inr (first, next, subst (λ (w : StoreWorld). LeftBy w image) run left)
later (one ∷ two ∷ steps) before mid step image (first, next, run) left = inr (first, next, later (two ∷ steps) first mid step image run left)

run_on : (steps : List StoreStep) (before mid now : StoreWorld) (step : StoreStep) → StoreRun before steps mid → Next mid step now → StoreRun before (steps ++ step ∷ []) now
run_on [] before mid now step run next = (now, subst (λ (w : StoreWorld). Next w step now) run next, refl)
run_on (one ∷ steps) before mid now step (first, is, run) next = (first, is, run_on steps first mid now step run next)

-- ---- what a stop left fits the world after it

-- a device with this one image
rests : (v : View) (image : Image) (before : StoreWorld) → IsFixed v image → LeftBy before image → (events : List Event) × Next before Stops (Rests events) × DeviceFits v (Rests events)
rests v image before fixed (events, next, left) = (events, next, record { honest = fixed.honest; each = λ c may. subst (IsLeftFor events) (sym (fixed.only c may)) left })

at_once : (v : View) (image : Image) (before : StoreWorld) (steps : List StoreStep) → IsFixed v image → LeftBy before image → (now : StoreWorld) × StopsDuring before steps now × DeviceFits v now
at_once v image before steps fixed left = (let (events, next, fits) = rests v image before fixed left in (Rests events, (0, (Rests events, next, refl)), fits))

pub stopped_during : (v : View) (image : Image) → IsFixed v image → (steps : List StoreStep) (before : StoreWorld) → LeftDuring before steps image → (now : StoreWorld) × StopsDuring before steps now × DeviceFits v now
stopped_during v image fixed [] before left = at_once v image before [] fixed left
stopped_during v image fixed (step ∷ []) before left = at_once v image before (step ∷ []) fixed left
stopped_during v image fixed (step ∷ other ∷ steps) before (inl left) = at_once v image before (step ∷ other ∷ steps) fixed left
stopped_during v image fixed (step ∷ other ∷ steps) before (inr (mid, next, left)) = (let (now, (count, run), fits) = stopped_during v image fixed (other ∷ steps) mid left in (now, (suc count, (mid, next, run)), fits))

-- what a stop leaves of a device that was given back
pub left_alone : (v : View) (world : StoreWorld) → DeviceFits v world → (image : Image) → v.may_leave image → LeftBy world image
left_alone v (Runs s p) fits image left = absurd fits
left_alone v (InDoubt s p) fits image left = left_in_doubt s p image (fits.each image left)
left_alone v (Rests events) fits image left = (events, refl, fits.each image left)

-- ---- calls

-- a store that fits a world knows of it
pub known : {P A : Type 0} {ghosts : Ghosts P} (store : Store P A ghosts) (world : StoreWorld) → StoreFits store world → Knows store world
known store (Runs s p) fits = (fits.0.runs, fits.1)
known store (InDoubt s p) fits = (fits.stopped, fits.remembers)
known store (Rests events) fits = absurd fits

-- no call
pub none : {P A : Type 0} {ghosts : Ghosts P} (before : StoreWorld) (store : Store P A ghosts) → ((ghosts.view store.device).honest ≡ true → Rules (ghosts.view store.device)) → Knows store before → Goes before [] before store store
none before store rules knows = record {
  run = refl;
  knows = knows;
  fits = λ fits. fits;
  any_moment = λ fits. (refuses before store rules fits).any_moment;
}

-- one call more
pub one_more : {P A : Type 0} {ghosts : Ghosts P} (before mid now : StoreWorld) (steps : List StoreStep) (step : StoreStep) (old between new : Store P A ghosts) → Goes before steps mid old between → Goes mid (step ∷ []) now between new → Goes before (steps ++ step ∷ []) now old new
one_more {P} {A} {ghosts} before mid now steps step old between new first second =
    let next : Next mid step now = subst (λ (w : StoreWorld). Next mid step w) (sym second.run.2) second.run.1 in
    record {
      run = run_on steps before mid now step first.run next;
      knows = second.knows;
      fits = λ fits. second.fits (first.fits fits);
      any_moment = λ fits. then_also (ghosts.view old.device) (ghosts.view between.device) (ghosts.view new.device) (LeftDuring before (steps ++ step ∷ []))
          (weaker _ _ _ _ (wider steps before step) (first.any_moment fits))
          (weaker _ _ _ _ (λ image left. later steps before mid step image first.run left) (second.any_moment (first.fits fits)));
    }

one_call : {P A : Type 0} {ghosts : Ghosts P} (step : StoreStep) (before now : StoreWorld) (old new : Store P A ghosts) → Next before step now → Knows new now → (StoreFits old before → (moves : Moves step before old new) × (moves.now ≡ now)) → Goes before (step ∷ []) now old new
one_call step before now old new next knows moves = record {
  run = (now, next, refl);
  knows = knows;
  fits = λ fits. (let m = moves fits in subst (StoreFits new) m.1 m.0.fits);
  any_moment = λ fits. (moves fits).0.any_moment;
}

not_true : (b : Bool) → (b ≡ true → ⊥) → b ≡ false
not_true true h = absurd (h refl)
not_true false h = refl

both : {X : Type 0} (b : Bool) → b ≡ true → b ≡ false → X
both b is off = absurd (cc (is, off))

-- a refusal
refused : {P A : Type 0} {ghosts : Ghosts P} (before : StoreWorld) (old new : Store P A ghosts) → Knows old before → new ≡ old → (StoreFits old before → Moves Refuses before old new) → Goes before (Refuses ∷ []) before old new
refused (Runs s p) old new knows same moves = one_call Refuses (Runs s p) (Runs s p) old new refl (subst (λ x. Knows x (Runs s p)) (sym same) knows) (λ fits. (let m = moves fits in (m, m.next)))
refused (InDoubt s p) old new knows same moves = one_call Refuses (InDoubt s p) (InDoubt s p) old new refl (subst (λ x. Knows x (InDoubt s p)) (sym same) knows) (λ fits. (let m = moves fits in (m, m.next)))
refused (Rests events) old new knows same moves = absurd knows

-- a fault of the device
failed : {P A : Type 0} {ghosts : Ghosts P} (before : StoreWorld) (old new : Store P A ghosts) → Knows old before → IsRunning old → FailsIn old new → (StoreFits old before → Moves Fails before old new) → (now : StoreWorld) × Goes before (Fails ∷ []) now old new
failed (Runs s p) old new knows runs fails moves = (InDoubt s p, one_call Fails (Runs s p) (InDoubt s p) old new refl (fails.stopped, fails.keeps s p knows.1) (λ fits. (let m = moves fits in (m, m.next))))
failed (InDoubt s p) old new knows runs fails moves = both old.stopped knows.0 runs
failed (Rests events) old new knows runs fails moves = absurd knows

-- what the clauses of `add` say of it
pub record Added {P A : Type 0} {ghosts : Ghosts P} (result : Result (Unit {0}) AddFault) (event : Event) (old new : Store P A ghosts) : Type 0 where
  pub run : (before : StoreWorld) → StoreFits old before → AddMoves result event before old new
  pub joins : OnOk result (JoinsPending old event → Joins event old new)
  pub joins_alone : OnOk result ((JoinsPending old event → ⊥) → JoinsAlone event old new)
  pub runs : OnOk result (IsStopped new → ⊥)
  pub stopped : (result ≡ Err add.Stopped) ↔ IsStopped old
  pub device : result ≡ Err add.Device → FailsIn old new
  pub unchanged : OnErr result (result ≢ Err add.Device → new ≡ old)
  pub page : OnOk result (length (records_in new) ≤ 496)
  pub refused : (cause : Refused) → (result ≡ Err (add.Refused cause)) ↔ (IsRunning old × (refusal_in old event ≡ Some cause))
  pub exhausted : (result ≡ Err add.Exhausted) ↔ (IsRunning old × (refusal_in old event ≡ None) × AddIsExhausted old event)

-- the event joins those that are pending, or it does not
joins_or_not : {P A : Type 0} {ghosts : Ghosts P} (store : Store P A ghosts) (event : Event) → JoinsPending store event ⊎ (JoinsPending store event → ⊥)
joins_or_not store event = elim (cases_lt 496 (length store.pending.items + length (record_of event))) [
  | inl full ↦ inr (λ joins. absurd (omega (arith, joins.0, full)))
  | inr room ↦ elim (cases_lt store.captured 240) [ inl few ↦ inl (room, few) | inr many ↦ inr (λ joins. absurd (omega (arith, joins.1, many))) ]
]

joined : {P A : Type 0} {ghosts : Ghosts P} (event : Event) (before : StoreWorld) (old new : Store P A ghosts) → Knows old before → IsRunning old → Added (Ok tt) event old new → AddGoes (Ok tt) event before old new
joined event (Runs s p) old new knows runs is = elim (joins_or_not old event) [
  | inr none ↦
      let more = is.joins_alone none s p knows.1 in (
        AddsBehind event,
        Runs (s ++ p) (event ∷ []),
        inr refl,
        one_call (AddsBehind event) (Runs s p) (Runs (s ++ p) (event ∷ [])) old new
            (refl, omega (arith, is.page, ap (λ (l : List ℕ). length l) more.records.text)) (not_true new.stopped is.runs, more)
            (λ fits. (let m = (is.run (Runs s p) fits).1 none in (m, m.next.0))),
      )
  | inl room ↦
      let more = is.joins room s p knows.1 in (
        Adds event,
        Runs s (p ++ event ∷ []),
        inl refl,
        one_call (Adds event) (Runs s p) (Runs s (p ++ event ∷ [])) old new
            (refl, omega (arith, is.page, ap (λ (l : List ℕ). length l) more.records.text)) (not_true new.stopped is.runs, more)
            (λ fits. (let m = (is.run (Runs s p) fits).0 room in (m, m.next.0))),
      )
]
joined event (InDoubt s p) old new knows runs is = both old.stopped knows.0 runs
joined event (Rests events) old new knows runs is = absurd knows

-- each `add` was a step
pub add_goes : {P A : Type 0} {ghosts : Ghosts P} (result : Result (Unit {0}) AddFault) (event : Event) (before : StoreWorld) (old new : Store P A ghosts) → Knows old before → Added result event old new → AddGoes result event before old new
add_goes (Ok done) event before old new knows is = joined event before old new knows (not_true old.stopped (λ stopped. absurd (cc (is.stopped.1 stopped)))) is
add_goes (Err add.Device) event before old new knows is = failed before old new knows (not_true old.stopped (λ stopped. absurd (cc (is.stopped.1 stopped)))) (is.device refl) (is.run before)
add_goes (Err add.Stopped) event before old new knows is = refused before old new knows (is.unchanged (λ e. absurd (cc e))) (is.run before)
add_goes (Err add.Exhausted) event before old new knows is = refused before old new knows (is.unchanged (λ e. absurd (cc e))) (is.run before)
add_goes (Err (add.Refused cause)) event before old new knows is = refused before old new knows (is.unchanged (λ e. absurd (cc e))) (is.run before)

-- what the clauses of `commit` say of it
pub record Committed {P A : Type 0} {ghosts : Ghosts P} (result : Result (Unit {0}) StoreFault) (old new : Store P A ghosts) : Type 0 where
  pub run : (before : StoreWorld) → StoreFits old before → Moves (commit_step result) before old new
  pub settles : OnOk result (SettlesAll old new)
  pub runs : OnOk result (IsStopped new → ⊥)
  pub stopped : (result ≡ Err commit.Stopped) ↔ IsStopped old
  pub device : result ≡ Err commit.Device → FailsIn old new
  pub unchanged : OnErr result (result ≢ Err commit.Device → new ≡ old)
  pub exhausted : (result ≡ Err commit.Exhausted) ↔ (IsRunning old × CommitIsExhausted old)

settled : {P A : Type 0} {ghosts : Ghosts P} (before : StoreWorld) (old new : Store P A ghosts) → Knows old before → IsRunning old → Committed (Ok tt) old new → CommitGoes (Ok tt) before old new
settled (Runs s p) old new knows runs is = (Runs (s ++ p) [], one_call Settles (Runs s p) (Runs (s ++ p) []) old new refl (not_true new.stopped is.runs, is.settles s p knows.1) (λ fits. (let m = is.run (Runs s p) fits in (m, m.next))))
settled (InDoubt s p) old new knows runs is = both old.stopped knows.0 runs
settled (Rests events) old new knows runs is = absurd knows

-- each `commit` was a step
pub commit_goes : {P A : Type 0} {ghosts : Ghosts P} (result : Result (Unit {0}) StoreFault) (before : StoreWorld) (old new : Store P A ghosts) → Knows old before → Committed result old new → CommitGoes result before old new
commit_goes (Ok done) before old new knows is = settled before old new knows (not_true old.stopped (λ stopped. absurd (cc (is.stopped.1 stopped)))) is
commit_goes (Err commit.Device) before old new knows is = failed before old new knows (not_true old.stopped (λ stopped. absurd (cc (is.stopped.1 stopped)))) (is.device refl) (is.run before)
commit_goes (Err commit.Stopped) before old new knows is = (before, refused before old new knows (is.unchanged (λ e. absurd (cc e))) (is.run before))
commit_goes (Err commit.Exhausted) before old new knows is = (before, refused before old new knows (is.unchanged (λ e. absurd (cc e))) (is.run before))
