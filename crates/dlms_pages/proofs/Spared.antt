-- What a stop leaves of a slot while a file is opened.
use Rattle.std.proofs.Common.{◌≡◌, ◌≢◌, ◌≤◌, ◌+◌, inl, inr, ⊎_elim, ℕ, Bool, true, false, List, [], ◌∷◌, length, drop, Some, refl, sym, ◌∙◌, ap, subst, arith}
use Rattle.std.proofs.lemmas.Bool.{cases_Bool, cases_eq, true≢false}
use Rattle.std.proofs.lemmas.List.{length-append}
use Rattle.std.specs.Prelude.{reverse}
use Rattle.dlms_pages.specs.declared.asking.SlotCall.{SlotCall}
use Rattle.dlms_pages.specs.declared.asking.SlotCall.TheVariants.{Reads, Writes, Syncs}
use Rattle.dlms_pages.specs.declared.asking.Came.{Came}
use Rattle.dlms_pages.specs.declared.asking.Came.TheVariants.{Slot as Octets, Short, Failed}
use Rattle.dlms_pages.specs.declared.device.PageRead.TheVariants.{Damaged}
use Rattle.dlms_pages.specs.SlotCalls.{Asks, IsSlotTouched, SparesSlot, touch_of}
use Rattle.dlms_pages.specs.SlotRules.{no_more}
use Rattle.dlms_pages.specs.Slots.{Slot, Slots, Standing, Either, Gives, IsTorn, Leaves, LeavesPage, newest, page_in, standing}
use Rattle.dlms_pages.proofs.FileKeeping.{synced_sure}
use Rattle.dlms_pages.proofs.FileStops.{page_left, stands_or_not}
use Rattle.dlms_pages.proofs.Held.{one_of_two}
use Rattle.dlms_pages.proofs.Reopened.{IsOpenedTo, IsToCome, newest_missed, newest_leaves, standing_hit, standing_missed}

-- ---- a slot that is synced, and one that is not

pub take_sure : (b : Bool) (This That : Type 0) → b ≡ true → Either b This That → This
take_sure true This That is left = left
take_sure false This That is left = absurd (true≢false (sym is))

give_doubt : (b : Bool) (This That : Type 0) → b ≡ false → That → Either b This That
give_doubt true This That is that = absurd (true≢false is)
give_doubt false This That is that = that

-- a stop leaves a synced slot as it was written last
pub synced_newest : (first : List Slot) (calls : List SlotCall) (k : ℕ) (slot : Slot) → (standing calls k).synced ≡ true → Leaves first calls k slot → slot ≡ newest first calls k
synced_newest first [] k slot synced left = left
synced_newest first (Reads index came ∷ calls) k slot synced left = synced_newest first calls k slot synced left
synced_newest first (Writes index bytes passed ∷ calls) k slot synced left = ⊎_elim
    (λ (same : k ≡ index). absurd (true≢false (sym synced ∙ ap (λ (s : Standing). s.synced) (standing_hit index k bytes passed calls same))))
    (λ (apart : k ≢ index). ⊎_elim
    (λ before. synced_newest first calls k slot (sym (ap (λ (s : Standing). s.synced) (standing_missed index k bytes passed calls apart)) ∙ synced) before ∙ sym (newest_missed first index k bytes passed calls apart))
    (λ hits. absurd (apart (sym hits.0)))
    left)
    (cases_eq k index)
synced_newest first (Syncs true ∷ calls) k slot synced left = take_sure (standing calls k).sure _ _ synced left
synced_newest first (Syncs false ∷ calls) k slot synced left = synced_newest first calls k slot synced left

not_synced : (calls : List SlotCall) (k : ℕ) → (standing calls k).sure ≡ false → (standing calls k).synced ≡ false
not_synced calls k doubt = ⊎_elim
    (λ (is : (standing calls k).synced ≡ true). absurd (true≢false (sym (synced_sure calls k is) ∙ doubt)))
    (λ (is : (standing calls k).synced ≡ false). is)
    (cases_Bool (standing calls k).synced)

-- any other may be left damaged
pub unsynced_damaged : (first : List Slot) (calls : List SlotCall) (k : ℕ) → (standing calls k).synced ≡ false → LeavesPage first calls k Damaged
unsynced_damaged first [] k is = absurd (true≢false is)
unsynced_damaged first (Reads index came ∷ calls) k is = unsynced_damaged first calls k is
unsynced_damaged first (Writes index bytes passed ∷ calls) k is = ⊎_elim
    (λ (same : k ≡ index). inr (sym same, inr refl))
    (λ (apart : k ≢ index). inl (unsynced_damaged first calls k (sym (ap (λ (s : Standing). s.synced) (standing_missed index k bytes passed calls apart)) ∙ is)))
    (cases_eq k index)
unsynced_damaged first (Syncs true ∷ calls) k is = give_doubt (standing calls k).sure _ _ is (unsynced_damaged first calls k (not_synced calls k is))
unsynced_damaged first (Syncs false ∷ calls) k is = unsynced_damaged first calls k is

-- ---- moment by moment

pub spares_itself : (file : Slots) (k : ℕ) → SparesSlot file file k
spares_itself file k later earlier split since slot left = page_left file.first file.calls k slot (subst (λ l. Leaves file.first l k slot) (sym (no_more file.calls later earlier split since)) left)

pub one_call_more : (old now : Slots) (call : SlotCall) (k : ℕ) → ((slot : Slot) → Leaves now.first (call ∷ now.calls) k slot → LeavesPage old.first old.calls k (page_in k slot)) → SparesSlot old now k
    → SparesSlot old (record now { calls = call ∷ now.calls }) k
one_call_more old now call k here before [] earlier split since slot left = here slot (subst (λ l. Leaves now.first l k slot) (sym split) left)
one_call_more old now call k here before (last ∷ later) earlier split since slot left = before later earlier (ap (λ (l : List SlotCall). drop 1 l) split) since slot left

-- what a stop leaves now
pub leaves_now : (old now : Slots) (k : ℕ) → SparesSlot old now k → (slot : Slot) → Leaves now.first now.calls k slot → length old.calls ≤ length now.calls → LeavesPage old.first old.calls k (page_in k slot)
leaves_now old now k spared slot left long = spared [] now.calls refl long slot left

-- ---- a slot that is read, and written again as it stands

module _ (old now : Slots) (index : ℕ) (to_come : IsToCome old now index) (bytes : List ℕ) (gives : Gives now index (Octets bytes)) where
  of_before : (slot : Slot) → Leaves now.first now.calls index slot → LeavesPage old.first old.calls index (page_in index slot)
  of_before slot left = page_left old.first old.calls index slot (to_come.left slot left)

  of_bytes : (slot : Slot) → slot ≡ Some bytes → LeavesPage old.first old.calls index (page_in index slot)
  of_bytes slot same = subst (λ s. LeavesPage old.first old.calls index (page_in index s)) (sym same) (of_before (Some bytes) gives.0)

  -- the old slot is the one that is written
  one_slot : (standing old.calls index).synced ≡ true → (before slot : Slot) → Leaves now.first now.calls index before → IsTorn index before bytes slot → slot ≡ Some bytes
  one_slot synced before slot left torn =
      let is_before = synced_newest old.first old.calls index before synced (to_come.left before left) in
      let is_bytes = synced_newest old.first old.calls index (Some bytes) synced (to_come.left (Some bytes) gives.0) in
      let same : before ≡ Some bytes = is_before ∙ sym is_bytes in
      let (mix, is, mixed) = torn.mix bytes same in
      is ∙ ap (λ (s : List ℕ). Some s) (one_of_two index bytes mix (subst (λ s. IsTorn index (Some bytes) bytes s) is (subst (λ o. IsTorn index o bytes slot) same torn)))

  pub written_as_it_stands : (passed : Bool) (slot : Slot) → Leaves now.first (Writes index bytes passed ∷ Reads index (Octets bytes) ∷ now.calls) index slot → LeavesPage old.first old.calls index (page_in index slot)
  written_as_it_stands passed slot left = ⊎_elim
      (λ before. of_before slot before)
      (λ hits. ⊎_elim
      (λ new. of_bytes slot new)
      (λ tears.
      let (before, was, torn) = tears in
      ⊎_elim
      (λ (damaged : page_in index slot ≡ Damaged). ⊎_elim
      (λ (synced : (standing old.calls index).synced ≡ true). of_bytes slot (one_slot synced before slot was torn))
      (λ (loose : (standing old.calls index).synced ≡ false). subst (LeavesPage old.first old.calls index) (sym damaged) (unsynced_damaged old.first old.calls index loose))
      (cases_Bool (standing old.calls index).synced))
      (λ stands.
      let (content, is) = stands in
      ⊎_elim
      (λ (same : slot ≡ before). subst (λ s. LeavesPage old.first old.calls index (page_in index s)) (sym same) (of_before before was))
      (λ (new : slot ≡ Some bytes). of_bytes slot new)
      (torn.sealed content is))
      (stands_or_not index slot))
      hits.1)
      left

module _ (old now : Slots) (index k : ℕ) (long : length old.calls ≤ length now.calls) (spared : SparesSlot old now k) where
  abbrev with_calls : List SlotCall → Slots
  with_calls calls = record now { calls = calls }

  was_read : (came : Came) → SparesSlot old (with_calls (Reads index came ∷ now.calls)) k
  was_read came = one_call_more old now (Reads index came) k (λ slot left. leaves_now old now k spared slot left long) spared

  -- the slot of another index
  was_apart : (bytes : List ℕ) (passed : Bool) (came : Came) → k ≢ index → (slot : Slot) → Leaves now.first (Writes index bytes passed ∷ Reads index came ∷ now.calls) k slot → LeavesPage old.first old.calls k (page_in k slot)
  was_apart bytes passed came apart slot left = ⊎_elim (λ before. leaves_now old now k spared slot before long) (λ hits. absurd (apart (sym hits.0))) left

  was_here : IsToCome old now index → (bytes : List ℕ) (passed : Bool) → Gives now index (Octets bytes) → k ≡ index → (slot : Slot) → Leaves now.first (Writes index bytes passed ∷ Reads index (Octets bytes) ∷ now.calls) k slot → LeavesPage old.first old.calls k (page_in k slot)
  was_here to_come bytes passed gives same slot left =
      subst (λ j. LeavesPage old.first old.calls j (page_in j slot)) (sym same)
      (written_as_it_stands old now index to_come bytes gives passed slot (subst (λ j. Leaves now.first (Writes index bytes passed ∷ Reads index (Octets bytes) ∷ now.calls) j slot) same left))

  touched_by : IsToCome old now index → (came : Came) (passed : Bool) → Gives now index came → (next : Slots) → Asks now next (touch_of index came passed) → SparesSlot old next k
  touched_by to_come (Octets bytes) passed gives next asks =
      subst (λ file. SparesSlot old file k) (sym asks)
      (one_call_more old (with_calls (Reads index (Octets bytes) ∷ now.calls)) (Writes index bytes passed) k
      (λ slot left. ⊎_elim (λ (same : k ≡ index). was_here to_come bytes passed gives same slot left) (λ (apart : k ≢ index). was_apart bytes passed (Octets bytes) apart slot left) (cases_eq k index))
      (was_read (Octets bytes)))
  touched_by to_come Short passed gives next asks = subst (λ file. SparesSlot old file k) (sym asks) (was_read Short)
  touched_by to_come Failed passed gives next asks = subst (λ file. SparesSlot old file k) (sym asks) (was_read Failed)

  pub touched : IsToCome old now index → now.keeps ≡ true → (next : Slots) → IsSlotTouched index now next → SparesSlot old next k
  touched to_come keeps next is = touched_by to_come is.came is.passed (is.gives keeps) next is.calls

  -- the sync at the end
  pub synced_then : (passed : Bool) (next : Slots) → Asks now next (Syncs passed ∷ []) → SparesSlot old next k
  synced_then true next asks =
      subst (λ file. SparesSlot old file k) (sym asks)
      (one_call_more old now (Syncs true) k
      (λ slot left. leaves_now old now k spared slot (whole (standing now.calls k).sure slot left) long)
      spared)
    where
      whole : (b : Bool) (slot : Slot) → Either b (slot ≡ newest now.first now.calls k) (Leaves now.first now.calls k slot) → Leaves now.first now.calls k slot
      whole true slot is = subst (Leaves now.first now.calls k) (sym is) (newest_leaves now.first now.calls k)
      whole false slot is = is
  synced_then false next asks = subst (λ file. SparesSlot old file k) (sym asks) (one_call_more old now (Syncs false) k (λ slot left. leaves_now old now k spared slot left long) spared)

-- ---- while a file is opened

pub record IsSparedTo (old now : Slots) : Type 0 where
  pub long : length old.calls ≤ length now.calls
  pub spared : old.keeps ≡ true → (k : ℕ) → SparesSlot old now k

pub spared_first : (file : Slots) → IsSparedTo file file
spared_first file = record { long = omega arith; spared = λ keeps k. spares_itself file k }

longer : (old new : Slots) (calls : List SlotCall) → Asks old new calls → length old.calls ≤ length new.calls
longer old new calls asks =
    let n : length new.calls ≡ length (reverse calls) + length old.calls = ap (λ (file : Slots). length file.calls) asks ∙ length-append (reverse calls) old.calls in
    omega (arith, n)

module _ (old now : Slots) (index : ℕ) (opened : IsOpenedTo index old now) (so_far : IsSparedTo old now) where
  pub spared_more : (next : Slots) → IsSlotTouched index now next → IsSparedTo old next
  spared_more next is = record {
    long = omega (arith, so_far.long, longer now next (touch_of index is.came is.passed) is.calls);
    spared = λ keeps k. touched old now index k so_far.long (so_far.spared keeps k) (opened.to_come index (omega arith)) (opened.keeps ∙ keeps) next is;
  }

  pub spared_synced : (passed : Bool) (next : Slots) → Asks now next (Syncs passed ∷ []) → old.keeps ≡ true → (k : ℕ) → SparesSlot old next k
  spared_synced passed next asks keeps k = synced_then old now index k so_far.long (so_far.spared keeps k) passed next asks
