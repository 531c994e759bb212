-- What never goes back.
use Rattle.std.proofs.Common.{arith, refl, ap, ◌∙◌, ◌≡◌, ◌≤◌, ◌^◌, ◌++◌, ◌⊎◌, inl, inr, ℕ, Bool, true, false, List, [], sym, subst, Result, Ok, Err}
use Rattle.std.proofs.lemmas.Bool.{cases_lt}
use Rattle.dlms_pages.specs.Device.{View, Image, Rose, Rules}
use Rattle.dlms_pages.specs.declared.device.Pages.{Ghosts}
use Rattle.dlms_state.specs.declared.event.Event.{Event}
use Rattle.dlms_state.specs.StateValue.{StateValue, HasNumberFor}
use Rattle.dlms_store.specs.Fitting.{IsOpened, Moves, StoreFits, commit_step}
use Rattle.dlms_store.specs.Later.{GoesOn, IsFrom, IsLater, IsSpent, LeavesNoEarlier}
use Rattle.dlms_store.specs.Page.{present}
use Rattle.dlms_store.specs.Store.{AddIsExhausted, CommitIsExhausted, IsLast, IsRunning, IsStopped, state_in, view_of}
use Rattle.dlms_store.specs.World.{StoreWorld}
use Rattle.dlms_store.specs.World.StoreWorld.{Runs, InDoubt, Rests}
use Rattle.dlms_store.specs.Writing.{IsSettled, Leaves}
use Rattle.dlms_store.specs.declared.fault.StoreFault.{StoreFault}
use Rattle.dlms_store.specs.declared.fault.StoreFault.TheVariants.{Device, Stopped, Exhausted}
use Rattle.dlms_store.specs.declared.layout.TheConstants.{LAST_GENERATION}
use Rattle.dlms_store.specs.declared.page.Edition.{Edition}
use Rattle.dlms_store.specs.declared.store.Store.{Store}
use Rattle.dlms_store.proofs.Slots.{one_active}

-- ---- one after another

pub still : (v : View) → GoesOn v v
still v = record { honest = refl; count = refl; faults = omega arith }

pub on_and_on : (a b c : View) → GoesOn a b → GoesOn b c → GoesOn a c
on_and_on a b c first second = record {
  honest = second.honest ∙ first.honest;
  count = second.count ∙ first.count;
  faults = omega (arith, first.faults, second.faults);
}

rose_before : (a b c : ℕ) → Rose a b → b ≤ c → Rose a c
rose_before a b c rose le = omega (arith, le, rose)

rose_behind : (a b c : ℕ) → a ≤ b → Rose b c → Rose a c
rose_behind a b c le rose = omega (arith, le, rose)

pub no_call : {P A : Type 0} {ghosts : Ghosts P} (store : Store P A ghosts) → IsLater store store
no_call {ghosts = ghosts} store = record { device = still (ghosts.view store.device); generation = omega arith; number = omega arith; stops = λ stopped. inl stopped }

stops_once : {P A : Type 0} {ghosts : Ghosts P} (a b c : Store P A ghosts) → IsLater a b → IsLater b c → IsStopped b ⊎ Rose (view_of b).faults (view_of c).faults → IsStopped a ⊎ Rose (view_of a).faults (view_of c).faults
stops_once a b c first second (inr rose) = inr (rose_behind _ _ _ first.device.faults rose)
stops_once a b c first second (inl stopped) = elim (first.stops stopped) [
  | inl before ↦ inl before
  | inr rose ↦ inr (rose_before _ _ _ rose second.device.faults)
]

pub then_later : {P A : Type 0} {ghosts : Ghosts P} (a b c : Store P A ghosts) → IsLater a b → IsLater b c → IsLater a c
then_later {ghosts = ghosts} a b c first second = record {
  device = on_and_on (ghosts.view a.device) (ghosts.view b.device) (ghosts.view c.device) first.device second.device;
  generation = omega (arith, first.generation, second.generation);
  number = omega (arith, first.number, second.number);
  stops = λ stopped. stops_once a b c first second (second.stops stopped);
}

pub same_later : {P A : Type 0} {ghosts : Ghosts P} (old new : Store P A ghosts) → new ≡ old → IsLater old new
same_later old new same = subst (λ s. IsLater old s) (sym same) (no_call old)

-- ---- over a close and an open

from_settled : {P A : Type 0} {ghosts : Ghosts P} (store : Store P A ghosts) (settled : List Event) (generation : ℕ) → IsSettled store settled → generation ≤ store.generation → Leaves (view_of store) (IsFrom generation)
from_settled store settled generation is le = record {
  honest = is.device.honest;
  each = λ image left. record { slot = store.slot; edition = present store.generation; base = is.base; pages = is.pages; reads = (is.device.each image left).reads; from = le };
}

not_both : (b : Bool) → b ≡ true → b ≡ false → ⊥
not_both b is other = cc

from_running : {P A : Type 0} {ghosts : Ghosts P} (old new : Store P A ghosts) (now : StoreWorld) (settled pending : List Event) → IsLater old new → StoreFits new now → now ≡ Runs settled pending → Leaves (view_of new) (IsFrom old.generation)
from_running old new now settled pending later fits is =
    let there : StoreFits new (Runs settled pending) = subst (λ (w : StoreWorld). StoreFits new w) is fits in
    from_settled new settled old.generation there.0 later.generation

-- a store that ran, and whose commit met no fault of the device
pub closed_from : {P A : Type 0} {ghosts : Ghosts P} (result : Result (Unit {0}) StoreFault) (before : StoreWorld) (old new : Store P A ghosts) → Moves (commit_step result) before old new → StoreFits old before
    → IsLater old new → IsRunning old → (result ≡ Err Device → ⊥) → Leaves (view_of new) (IsFrom old.generation)
closed_from (Ok done) (Runs s p) old new moves fits later runs calm = from_running old new moves.now (s ++ p) [] later moves.fits moves.next
closed_from (Err Device) (Runs s p) old new moves fits later runs calm = absurd (calm refl)
closed_from (Err Stopped) (Runs s p) old new moves fits later runs calm = from_running old new moves.now s p later moves.fits moves.next
closed_from (Err Exhausted) (Runs s p) old new moves fits later runs calm = from_running old new moves.now s p later moves.fits moves.next
closed_from result (InDoubt s p) old new moves fits later runs calm = absurd (not_both old.stopped fits.stopped runs)
closed_from result (Rests events) old new moves fits later runs calm = absurd fits

-- what a recovery finds there is of that generation, or of a later one
pub opened_from : {P A : Type 0} {ghosts : Ghosts P} (generation : ℕ) (image : Image) (store : Store P A ghosts) → IsFrom generation image → IsOpened image store → generation ≤ store.generation
opened_from generation image store from opened =
    let same = one_active image opened.slot from.slot opened.edition from.edition opened.reads.active from.reads.active in
    let of : opened.edition.generation ≡ from.edition.generation = ap (λ (e : Edition). e.generation) same.1 in
    elim (cases_lt store.generation generation) [
      | inr le ↦ le
      | inl less ↦
          let as_is = opened.as_is (λ due. (let next = (opened.due due).1 in absurd (omega (arith, less, next, of, from.from)))) in
          absurd (omega (arith, less, as_is.1, of, from.from))
    ]

-- if a store is opened on what `close` left
pub reopened : {P A : Type 0} {ghosts : Ghosts P} (old new : Store P A ghosts) (device : View) → (device.honest ≡ true → Rules device) → LeavesNoEarlier old device → IsOpened device.seen new → old.generation ≤ new.generation
reopened old new device rules leaves opened = opened_from old.generation device.seen new (leaves.each device.seen (rules leaves.honest).seen) opened

-- ---- at its end

last_still : (last a b : ℕ) → a ≡ last → a ≤ b → last ≤ b
last_still last a b is le = omega (arith, is, le)

most_still : (most a b : ℕ) → most ≤ a → a ≤ b → most ≤ b
most_still most a b is le = omega (arith, is, le)

most_same : (most a b : ℕ) → most ≤ a → a ≡ b → most ≤ b
most_same most a b full same = omega (arith, full, same)

pub spent_later : {P A : Type 0} {ghosts : Ghosts P} (old new : Store P A ghosts) → IsLater old new → IsSpent old → IsSpent new
spent_later old new later (inl last) = inl (most_still LAST_GENERATION old.generation new.generation last later.generation)
spent_later old new later (inr full) = inr (most_still (2 ^ 64) (state_in old).rows.next (state_in new).rows.next full later.number)

pub spent_by_commit : {P A : Type 0} {ghosts : Ghosts P} (store : Store P A ghosts) → CommitIsExhausted store → IsSpent store
spent_by_commit store is = inl (last_still LAST_GENERATION store.generation store.generation is.1.1 (omega arith))

no_number : (s : StateValue) (event : Event) → (HasNumberFor s event → ⊥) → 2 ^ 64 ≤ s.rows.next
no_number s event none =
    elim (cases_lt s.rows.next (2 ^ 64)) [
      | inl less ↦ absurd (none (λ captures. less))
      | inr full ↦ full
    ]

pub spent_by_add : {P A : Type 0} {ghosts : Ghosts P} (store : Store P A ghosts) (event : Event) → AddIsExhausted store event → IsSpent store
spent_by_add store event (inl none) = inr (no_number (state_in store) event none)
spent_by_add store event (inr (joins, full, last)) = inl (last_still LAST_GENERATION store.generation store.generation last (omega arith))

pub last_over_close : {P A : Type 0} {ghosts : Ghosts P} (old new : Store P A ghosts) (device : View) → (device.honest ≡ true → Rules device) → LeavesNoEarlier old device → IsOpened device.seen new → IsLast old → IsSpent new
last_over_close old new device rules leaves opened last = inl (last_still LAST_GENERATION old.generation new.generation last (reopened old new device rules leaves opened))

-- if the next row has the same number
pub spent_over_close : {P A : Type 0} {ghosts : Ghosts P} (old new : Store P A ghosts) (device : View) → (device.honest ≡ true → Rules device) → LeavesNoEarlier old device → IsOpened device.seen new
    → (state_in old).rows.next ≡ (state_in new).rows.next → IsSpent old → IsSpent new
spent_over_close old new device rules leaves opened same (inl last) = inl (most_still LAST_GENERATION old.generation new.generation last (reopened old new device rules leaves opened))
spent_over_close old new device rules leaves opened same (inr full) = inr (most_same (2 ^ 64) (state_in old).rows.next (state_in new).rows.next full same)
