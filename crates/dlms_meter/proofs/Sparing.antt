-- An event and a commit make no checkpoint while the journal has pages for both.
use Rattle.std.proofs.Common.{◌≡◌, ◌≢◌, ◌<◌, ◌≤◌, ◌+◌, ◌⊎◌, inl, inr, ⊎_elim, ℕ, Bool, true, false, List, [], ◌∷◌, refl, sym, ◌∙◌, ap, arith, Result, Err}
use Rattle.std.proofs.lemmas.Bool.{cases_lt, true≢false}
use Rattle.dlms_pages.specs.declared.device.Pages.{Ghosts}
use Rattle.dlms_state.specs.declared.event.Event.{Event}
use Rattle.dlms_store.specs.Store.{Fails, IsElsewhereSame, IsFull, IsRingFull, IsRunning, JoinsPending, TakesPage, records_in}
use Rattle.dlms_store.specs.declared.layout.TheConstants.{JOURNAL_PAGES}
use Rattle.dlms_store.specs.declared.fault.AddFault.{AddFault}
use Rattle.dlms_store.specs.declared.fault.AddFault.TheVariants as add
use Rattle.dlms_store.specs.declared.fault.StoreFault.{StoreFault}
use Rattle.dlms_store.specs.declared.fault.StoreFault.TheVariants as commit
use Rattle.dlms_store.specs.declared.store.Store.{Store}
use Rattle.dlms_meter.specs.Sparing.{SparesSlots}

le_or_not : (a b : ℕ) → (a ≤ b) ⊎ (a ≤ b → ⊥)
le_or_not a b = ⊎_elim (λ (less : b < a). inr (λ le. absurd (omega (arith, less, le)))) (λ (le : a ≤ b). inl le) (cases_lt b a)

lt_or_not : (a b : ℕ) → (a < b) ⊎ (a < b → ⊥)
lt_or_not a b = ⊎_elim (λ (less : a < b). inl less) (λ (le : b ≤ a). inr (λ less. absurd (omega (arith, less, le)))) (cases_lt a b)

both_or_not : {A B : Type 0} → A ⊎ (A → ⊥) → B ⊎ (B → ⊥) → (A × B) ⊎ (A × B → ⊥)
both_or_not (inl a) (inl b) = inl (a, b)
both_or_not (inl a) (inr not) = inr (λ both. not both.1)
both_or_not (inr not) b = inr (λ both. not both.0)

joins_or_not : {P A : Type 0} {ghosts : Ghosts P} (store : Store P A ghosts) (event : Event) → JoinsPending store event ⊎ (JoinsPending store event → ⊥)
joins_or_not store event = both_or_not (le_or_not _ _) (lt_or_not _ _)

nothing_or_not : (records : List ℕ) → (records ≡ []) ⊎ (records ≡ [] → ⊥)
nothing_or_not [] = inl refl
nothing_or_not (x ∷ xs) = inr (λ none. absurd (cc none))

pub running : (stopped : Bool) → (stopped ≡ true → ⊥) → stopped ≡ false
running true not = absurd (not refl)
running false not = refl

-- the slot and its generation are the same, and at most one page more is used
pub record IsNear {P A : Type 0} {ghosts : Ghosts P} (old mid : Store P A ghosts) : Type 0 where
  pub slot : mid.slot ≡ old.slot
  pub generation : mid.generation ≡ old.generation
  pub next : mid.next ≤ old.next + 1

module _ {P A : Type 0} {ghosts : Ghosts P} (old : Store P A ghosts) where
  pub itself : IsNear old old
  itself = record { slot = refl; generation = refl; next = omega arith }

  pub unchanged : (new : Store P A ghosts) → new ≡ old → SparesSlots old new
  unchanged new same runs free takes = (ap (λ (s : Store P A ghosts). s.slot) same, ap (λ (s : Store P A ghosts). s.generation) same)

  pub added : (mid : Store P A ghosts) (event : Event) → (JoinsPending old event → IsElsewhereSame old mid) → ((JoinsPending old event → ⊥) → (IsRingFull old → ⊥) → (IsFull old → ⊥) → TakesPage old mid)
      → old.next + 1 < JOURNAL_PAGES → (IsRingFull old → ⊥) → IsNear old mid
  added mid event same takes free ring = ⊎_elim
      (λ joins. (let is = same joins in record { slot = is.slot; generation = is.generation; next = omega (arith, is.next) }))
      (λ alone. (let is = takes alone ring (λ full. absurd (omega (arith, free, full))) in record { slot = is.slot; generation = is.generation; next = omega (arith, is.next) }))
      (joins_or_not old event)

  pub committed : (mid new : Store P A ghosts) → IsNear old mid → (records_in mid ≡ [] → new ≡ mid) → ((records_in mid ≡ [] → ⊥) → (IsFull mid → ⊥) → TakesPage mid new) → old.next + 1 < JOURNAL_PAGES
      → (new.slot ≡ old.slot) × (new.generation ≡ old.generation)
  committed mid new near nothing takes free = ⊎_elim
      (λ none. (ap (λ (s : Store P A ghosts). s.slot) (nothing none) ∙ near.slot, ap (λ (s : Store P A ghosts). s.generation) (nothing none) ∙ near.generation))
      (λ some. (let is = takes some (λ full. absurd (omega (arith, free, full, near.next))) in (is.slot ∙ near.slot, is.generation ∙ near.generation)))
      (nothing_or_not (records_in mid))

  pub near_still : (mid new : Store P A ghosts) → IsNear old mid → new ≡ mid → (new.slot ≡ old.slot) × (new.generation ≡ old.generation)
  near_still mid new near same = (ap (λ (s : Store P A ghosts). s.slot) same ∙ near.slot, ap (λ (s : Store P A ghosts). s.generation) same ∙ near.generation)

  stopped_not : {X : Type 0} (new : Store P A ghosts) → Fails old new → IsRunning new → X
  stopped_not new fails runs = absurd (true≢false (sym fails.stopped ∙ runs))

  pub add_failed : (new : Store P A ghosts) (fault : AddFault) (result : Result (Unit {0}) AddFault) → result ≡ Err fault → (result ≡ Err add.Device → Fails old new) → (result ≢ Err add.Device → new ≡ old) → SparesSlots old new
  add_failed new add.Device result is device same runs free ring = stopped_not new (device is) runs
  add_failed new add.Stopped result is device same runs free ring = unchanged new (same (λ e. absurd (cc (e, is)))) runs free ring
  add_failed new add.Exhausted result is device same runs free ring = unchanged new (same (λ e. absurd (cc (e, is)))) runs free ring
  add_failed new (add.Refused cause) result is device same runs free ring = unchanged new (same (λ e. absurd (cc (e, is)))) runs free ring

  pub commit_failed : (new : Store P A ghosts) (fault : StoreFault) (result : Result (Unit {0}) StoreFault) → result ≡ Err fault → (result ≡ Err commit.Device → Fails old new) → (result ≢ Err commit.Device → new ≡ old) → IsRunning new → new ≡ old
  commit_failed new commit.Device result is device same runs = stopped_not new (device is) runs
  commit_failed new commit.Stopped result is device same runs = same (λ e. absurd (cc (e, is)))
  commit_failed new commit.Exhausted result is device same runs = same (λ e. absurd (cc (e, is)))
