-- The events accepted in a turn join the others.
use Rattle.std.proofs.Common.{◌≡◌, ◌⊎◌, inl, inr, refl, sym, ◌∙◌, ap, subst, append-nil, append_assoc, ℕ, Bool, true, false, List, [], ◌∷◌, ◌++◌, Option, Some, None}
use Rattle.dlms_state.specs.declared.event.Event.{Event}
use Rattle.dlms_service.specs.Serves.{Choice as Memory}
use Rattle.dlms_service.specs.Stake.{is_success}
use Rattle.dlms_store.specs.World.{StoreWorld, StoreStep, Next, StoreRun}
use Rattle.dlms_store.specs.World.StoreWorld.{Runs, InDoubt, Rests}
use Rattle.dlms_store.specs.World.StoreStep.{Settles, Fails as Fault, Refuses}
use Rattle.dlms_store.specs.Going.{IsAdd}
use Rattle.dlms_meter.specs.Run.{MeterWorld, Turn, Choice, Served, DeviceFails, IsTurn, IsTaking, IsSettling, StoredFor, Stored, events_in, events_of, after_turn}

pub added_one : (step : StoreStep) (event : Event) (before now : StoreWorld) → IsAdd event step → Next before step now → events_in now ≡ events_in before ++ event ∷ []
added_one step event (Runs s p) now (inl e) next = (let n = subst (λ (x : StoreStep). Next (Runs s p) x now) e next in ap events_in n.0 ∙ sym (append_assoc s p (event ∷ [])))
added_one step event (Runs s p) now (inr e) next = (let n = subst (λ (x : StoreStep). Next (Runs s p) x now) e next in ap events_in n.0)
added_one step event (InDoubt s p) now (inl e) next = absurd (subst (λ (x : StoreStep). Next (InDoubt s p) x now) e next)
added_one step event (InDoubt s p) now (inr e) next = absurd (subst (λ (x : StoreStep). Next (InDoubt s p) x now) e next)
added_one step event (Rests events) now (inl e) next = absurd (subst (λ (x : StoreStep). Next (Rests events) x now) e next)
added_one step event (Rests events) now (inr e) next = absurd (subst (λ (x : StoreStep). Next (Rests events) x now) e next)

taken : (accepted : List Event) (taking : List StoreStep) (before now : StoreWorld) → IsTaking accepted taking → StoreRun before taking now → events_in now ≡ events_in before ++ accepted
taken [] taking before now is run = ap events_in (subst (λ (xs : List StoreStep). StoreRun before xs now) is run) ∙ sym (append-nil (events_in before))
taken (event ∷ []) taking before now (step, is_add, is) run =
    let one = subst (λ (xs : List StoreStep). StoreRun before xs now) is run in
    ap events_in one.2 ∙ added_one step event before one.0 is_add one.1
taken (event ∷ other ∷ more) taking before now is run = absurd is

settled : (before now : StoreWorld) → Next before Settles now → events_in now ≡ events_in before
settled (Runs s p) now next = ap events_in next ∙ append-nil (s ++ p)
settled (InDoubt s p) now next = absurd next
settled (Rests events) now next = absurd next

failed : (before now : StoreWorld) → Next before Fault now → events_in now ≡ events_in before
failed (Runs s p) now next = ap events_in next
failed (InDoubt s p) now next = absurd next
failed (Rests events) now next = absurd next

refused : (before now : StoreWorld) → Next before Refuses now → events_in now ≡ events_in before
refused (Runs s p) now next = ap events_in next
refused (InDoubt s p) now next = ap events_in next
refused (Rests events) now next = absurd next

last_of : (steps : List StoreStep) (last : StoreStep) (before now : StoreWorld) → StoreRun before (steps ++ last ∷ []) now → (mid : StoreWorld) × StoreRun before steps mid × Next mid last now
last_of [] last before now (mid, next, same) = (before, refl, subst (λ (x : StoreWorld). Next before last x) (sym same) next)
last_of (step ∷ steps) last before now (first, next, run) = (let rest = last_of steps last first now run in (rest.0, (first, next, rest.1), rest.2))

behind : (accepted : List Event) (taking : List StoreStep) (last : StoreStep) (steps : List StoreStep) (before now : StoreWorld) → IsTaking accepted taking → steps ≡ taking ++ last ∷ [] → StoreRun before steps now
    → ((mid : StoreWorld) → Next mid last now → events_in now ≡ events_in mid) → events_in now ≡ events_in before ++ accepted
behind accepted taking last steps before now is same run keeps =
    let parts = last_of taking last before now (subst (λ (xs : List StoreStep). StoreRun before xs now) same run) in
    keeps parts.0 parts.2 ∙ taken accepted taking before parts.0 is parts.1

unsettled : (last : StoreStep) (now : StoreWorld) → (last ≡ Fault) ⊎ (last ≡ Refuses) → (mid : StoreWorld) → Next mid last now → events_in now ≡ events_in mid
unsettled last now (inl e) mid next = failed mid now (subst (λ (x : StoreStep). Next mid x now) e next)
unsettled last now (inr e) mid next = refused mid now (subst (λ (x : StoreStep). Next mid x now) e next)

uncalled : (accepted : List Event) (steps : List StoreStep) (before now : StoreWorld) → accepted ≡ [] → steps ≡ [] → StoreRun before steps now → events_in now ≡ events_in before ++ accepted
uncalled accepted steps before now nothing none run =
    ap events_in (subst (λ (xs : List StoreStep). StoreRun before xs now) none run) ∙ sym (append-nil (events_in before)) ∙ ap (λ (es : List Event). events_in before ++ es) (sym nothing)

stored_for : (b : Bool) (accepted : List Event) (steps : List StoreStep) (before now : StoreWorld) → StoredFor b accepted steps → StoreRun before steps now → events_in now ≡ events_in before ++ accepted
stored_for true accepted steps before now (taking, is, same) run = behind accepted taking Settles steps before now is same run (λ mid next. settled mid now next)
stored_for false accepted steps before now (nothing, none) run = uncalled accepted steps before now nothing none run

stored_events : (choice : Choice) (answer : Option (List ℕ)) (accepted : List Event) (steps : List StoreStep) (before now : StoreWorld) → Stored choice answer accepted steps → StoreRun before steps now → events_in now ≡ events_in before ++ accepted
stored_events choice None accepted steps before now (nothing, none) run = uncalled accepted steps before now nothing none run
stored_events (Served memory) (Some bytes) accepted steps before now stored run = stored_for (is_success bytes) accepted steps before now stored run
stored_events (DeviceFails kept wanted) (Some bytes) accepted steps before now (taking, last, is, which, same) run = behind accepted taking last steps before now is same run (unsettled last now which)

-- the events after a turn
pub turn_events : (w : MeterWorld) (turn : Turn) → IsTurn w turn → events_of (after_turn w turn) ≡ events_of w ++ turn.accepted
turn_events w turn is = stored_events turn.choice turn.answer turn.accepted turn.steps w.store turn.store is.stored is.run

-- ---- what was taken and settled leads to one world

settles_at : (mid now : StoreWorld) → Next mid Settles now → now ≡ Runs (events_in mid) []
settles_at (Runs s p) now next = next
settles_at (InDoubt s p) now next = absurd next
settles_at (Rests events) now next = absurd next

settled_at : (accepted : List Event) (steps : List StoreStep) (before now : StoreWorld) → IsSettling accepted steps → StoreRun before steps now → now ≡ Runs (events_in before ++ accepted) []
settled_at accepted steps before now (taking, is, same) run =
    let parts = last_of taking Settles before now (subst (λ (xs : List StoreStep). StoreRun before xs now) same run) in
    settles_at parts.0 now parts.2 ∙ ap (λ (es : List Event). Runs es []) (taken accepted taking before parts.0 is parts.1)

stays_at : (steps : List StoreStep) (before now : StoreWorld) → steps ≡ [] → StoreRun before steps now → now ≡ before
stays_at steps before now none run = subst (λ (xs : List StoreStep). StoreRun before xs now) none run

pub store_once : (b : Bool) (accepted : List Event) (steps others : List StoreStep) (before now after : StoreWorld) → StoredFor b accepted steps → StoreRun before steps now → StoredFor b accepted others → StoreRun before others after → now ≡ after
store_once true accepted steps others before now after stored run stored' run' = settled_at accepted steps before now stored run ∙ sym (settled_at accepted others before after stored' run')
store_once false accepted steps others before now after (nothing, none) run (nothing', none') run' = stays_at steps before now none run ∙ sym (stays_at others before after none' run')

pub stored_once : (answer : Option (List ℕ)) (choice : Choice) (memory : Memory) (accepted : List Event) (steps others : List StoreStep) (before now after : StoreWorld) → choice ≡ Served memory
    → Stored choice answer accepted steps → StoreRun before steps now → Stored choice answer accepted others → StoreRun before others after → now ≡ after
stored_once None choice memory accepted steps others before now after is (nothing, none) run (nothing', none') run' = stays_at steps before now none run ∙ sym (stays_at others before after none' run')
stored_once (Some bytes) (Served found) memory accepted steps others before now after is stored run stored' run' = store_once (is_success bytes) accepted steps others before now after stored run stored' run'
stored_once (Some bytes) (DeviceFails kept wanted) memory accepted steps others before now after is stored run stored' run' = absurd cc
