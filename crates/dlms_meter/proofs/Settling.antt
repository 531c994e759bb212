-- How an answer is settled before it goes out.
use Rattle.std.proofs.Common.{arith, ◌≡◌, ◌≤◌, ◌∙◌, ◌⊎◌, sym, subst, inl, inr, ℕ, None, Bool, true, false, List, [], ◌∷◌, refl, if◌then◌else◌, is_ok, Result, Ok, Err}
use Rattle.dlms_pages.specs.declared.device.Pages.{Ghosts}
use Rattle.dlms_pages.specs.Device.{Rose}
use Rattle.dlms_state.specs.declared.event.Event.{Event}
use Rattle.dlms_store.specs.Store.{AddIsExhausted, CommitIsExhausted, IsStopped, refusal_in, view_of}
use Rattle.dlms_store.specs.World.{StoreWorld, StoreStep}
use Rattle.dlms_store.specs.World.StoreStep.{Settles, Fails as Fault, Refuses}
use Rattle.dlms_store.specs.Going.{Knows, Goes, AddGoes}
use Rattle.dlms_store.specs.Fitting.{commit_step}
use Rattle.dlms_store.specs.declared.fault.AddFault.{AddFault}
use Rattle.dlms_store.specs.declared.fault.AddFault.TheVariants as add
use Rattle.dlms_store.specs.declared.fault.StoreFault.{StoreFault}
use Rattle.dlms_store.specs.declared.fault.StoreFault.TheVariants as commit
use Rattle.dlms_store.specs.declared.store.Store.{Store}
use Rattle.dlms_store.proofs.Going.{Added, Committed, commit_goes, one_more}
use Rattle.dlms_meter.specs.Run.{IsSettling, IsUnsettling, MayFail}
use Rattle.dlms_meter.specs.Settled.{Settled}

-- ---- why the device may fail an answer

pub add_may_fail : {P A : Type 0} {ghosts : Ghosts P} (fault : AddFault) (event : Event) (old new : Store P A ghosts) → refusal_in old event ≡ None → Added (Err fault) event old new → MayFail (event ∷ []) old new
add_may_fail add.Device event old new passes is = inl (is.device refl).cause
add_may_fail add.Stopped event old new passes is = inr (inl (is.stopped.0 refl))
add_may_fail add.Exhausted event old new passes is =
    let why = is.exhausted.0 refl in
    inr (inr (inr (event, refl, subst (λ x. AddIsExhausted x event) (sym (is.unchanged (λ e. absurd (cc e)))) why.2)))
add_may_fail (add.Refused cause) event old new passes is = absurd (cc (sym passes ∙ ((is.refused cause).0 refl).1))

rose_later : (a b c : ℕ) → a ≤ b → Rose b c → Rose a c
rose_later a b c le rose = omega (arith, le, rose)

-- if the calls before it met no fault
pub commit_may_fail : {P A : Type 0} {ghosts : Ghosts P} (wanted : List Event) (fault : StoreFault) (old mid new : Store P A ghosts) → (view_of old).faults ≤ (view_of mid).faults → (IsStopped mid → IsStopped old) → Committed (Err fault) mid new
    → MayFail wanted old new
commit_may_fail wanted commit.Device old mid new before stopped is = inl (rose_later _ _ _ before (is.device refl).cause)
commit_may_fail wanted commit.Stopped old mid new before stopped is = inr (inl (stopped (is.stopped.0 refl)))
commit_may_fail wanted commit.Exhausted old mid new before stopped is =
    let why = is.exhausted.0 refl in
    inr (inr (inl (subst (λ x. CommitIsExhausted x) (sym (is.unchanged (λ e. absurd (cc e)))) why.1)))

-- ---- the step of a fault

not_taken : {P A : Type 0} {ghosts : Ghosts P} (fault : AddFault) (event : Event) (before : StoreWorld) (old new : Store P A ghosts) → AddGoes (Err fault) event before old new
    → (last : StoreStep) × (now : StoreWorld) × ((last ≡ Fault) ⊎ (last ≡ Refuses)) × Goes before (last ∷ []) now old new
not_taken add.Device event before old new (now, goes) = (Fault, now, inl refl, goes)
not_taken add.Stopped event before old new goes = (Refuses, before, inr refl, goes)
not_taken add.Exhausted event before old new goes = (Refuses, before, inr refl, goes)
not_taken (add.Refused cause) event before old new goes = (Refuses, before, inr refl, goes)

pub add_failed : {P A : Type 0} {ghosts : Ghosts P} (fault given : AddFault) (event : Event) (before : StoreWorld) (old new : Store P A ghosts) → AddGoes (Err fault) event before old new → MayFail (event ∷ []) old new
    → Settled (Err given) before (event ∷ []) old new
add_failed fault given event before old new goes cause =
    let last = not_taken fault event before old new goes in
    (false, last.0 ∷ [], last.1, ([], last.0, refl, last.2, refl), last.3, cause)

-- ---- a commit

which : (fault : StoreFault) → (commit_step (Err fault) ≡ Fault) ⊎ (commit_step (Err fault) ≡ Refuses)
which commit.Device = inl refl
which commit.Stopped = inr refl
which commit.Exhausted = inr refl

-- nothing is taken
pub commit_alone : {P A : Type 0} {ghosts : Ghosts P} (before : StoreWorld) (old new : Store P A ghosts) → Knows old before → Committed (Ok tt) old new → Settled (Ok tt) before [] old new
commit_alone before old new knows is =
    let goes = commit_goes (Ok tt) before old new knows is in
    (Settles ∷ [], goes.0, ([], refl, refl), goes.1)

pub commit_alone_failed : {P A : Type 0} {ghosts : Ghosts P} (fault : StoreFault) (given : AddFault) (before : StoreWorld) (old new : Store P A ghosts) → Knows old before → Committed (Err fault) old new → MayFail [] old new
    → Settled (Err given) before [] old new
commit_alone_failed fault given before old new knows is cause =
    let goes = commit_goes (Err fault) before old new knows is in
    (false, commit_step (Err fault) ∷ [], goes.0, ([], commit_step (Err fault), refl, which fault, refl), goes.1, cause)

-- the event was taken
pub commit_behind : {P A : Type 0} {ghosts : Ghosts P} (event : Event) (before : StoreWorld) (old mid new : Store P A ghosts) → AddGoes (Ok tt) event before old mid → Committed (Ok tt) mid new
    → Settled (Ok tt) before (event ∷ []) old new
commit_behind event before old mid new (step, between, is_add, first) is =
    let goes = commit_goes (Ok tt) between mid new first.knows is in
    (step ∷ Settles ∷ [], goes.0, (step ∷ [], (step, is_add, refl), refl), one_more before between goes.0 (step ∷ []) Settles old mid new first goes.1)

pub commit_behind_failed : {P A : Type 0} {ghosts : Ghosts P} (fault : StoreFault) (given : AddFault) (event : Event) (before : StoreWorld) (old mid new : Store P A ghosts) → AddGoes (Ok tt) event before old mid
    → Committed (Err fault) mid new → MayFail (event ∷ []) old new → Settled (Err given) before (event ∷ []) old new
commit_behind_failed fault given event before old mid new (step, between, is_add, first) is cause =
    let last = commit_step (Err fault) in
    let goes = commit_goes (Err fault) between mid new first.knows is in
    (true, step ∷ last ∷ [], goes.0, (step ∷ [], last, (step, is_add, refl), which fault, refl), one_more before between goes.0 (step ∷ []) last old mid new first goes.1, cause)

-- ---- by result

pub settled_ok : {P A : Type 0} {ghosts : Ghosts P} (result : Result (Unit {0}) AddFault) (before : StoreWorld) (events : List Event) (old new : Store P A ghosts) → is_ok result ≡ true → Settled result before events old new
    → (steps : List StoreStep) × (now : StoreWorld) × IsSettling events steps × Goes before steps now old new
settled_ok (Ok done) before events old new ok is = is
settled_ok (Err fault) before events old new ok is = absurd cc

pub settled_err : {P A : Type 0} {ghosts : Ghosts P} (result : Result (Unit {0}) AddFault) (before : StoreWorld) (events : List Event) (old new : Store P A ghosts) → is_ok result ≡ false → Settled result before events old new
    → (kept : Bool) × (steps : List StoreStep) × (now : StoreWorld) × IsUnsettling (if kept then events else []) steps × Goes before steps now old new × MayFail events old new
settled_err (Ok done) before events old new ok is = absurd cc
settled_err (Err fault) before events old new ok is = is
