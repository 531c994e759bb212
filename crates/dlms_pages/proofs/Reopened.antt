-- What becomes of each slot while a file is opened.
use Rattle.std.proofs.Common.{◌≡◌, ◌≢◌, ◌<◌, ◌≤◌, ◌+◌, inl, inr, ⊎_elim, ℕ, Bool, true, false, List, [], ◌∷◌, Some, refl, sym, ◌∙◌, ap, subst, arith}
use Rattle.std.proofs.lemmas.Bool.{eq-eqb, ne_eqb, eqb-true, cases_lt}
use Rattle.std.specs.Prelude.{nat_eq, if◌then◌else◌}
use Rattle.dlms_pages.specs.declared.asking.SlotCall.{SlotCall}
use Rattle.dlms_pages.specs.declared.asking.SlotCall.TheVariants.{Reads, Writes, Syncs}
use Rattle.dlms_pages.specs.declared.asking.Came.{Came}
use Rattle.dlms_pages.specs.declared.asking.Came.TheVariants.{Slot as Octets, Short, Failed}
use Rattle.dlms_pages.specs.SlotCalls.{Asks, IsSlotRenewed, IsThere, Reopens, renewal_of}
use Rattle.dlms_pages.specs.Slots.{Slot, Slots, Standing, Either, Gives, Leaves, newest, standing}

-- ---- one slot's write leaves the others as they were

pub hit : (index k : ℕ) → k ≡ index → nat_eq index k ≡ true
hit index k same = eq-eqb index k (sym same)

pub missed : (index k : ℕ) → k ≢ index → nat_eq index k ≡ false
missed index k apart = ne_eqb index k (λ e. apart (sym e))

pub standing_hit : (index k : ℕ) (bytes : List ℕ) (passed : Bool) (calls : List SlotCall) → k ≡ index → standing (Writes index bytes passed ∷ calls) k ≡ record { synced = false; sure = passed }
standing_hit index k bytes passed calls same = ap (λ (b : Bool). if b then record { synced = false; sure = passed } else standing calls k) (hit index k same)

pub standing_missed : (index k : ℕ) (bytes : List ℕ) (passed : Bool) (calls : List SlotCall) → k ≢ index → standing (Writes index bytes passed ∷ calls) k ≡ standing calls k
standing_missed index k bytes passed calls apart = ap (λ (b : Bool). if b then record { synced = false; sure = passed } else standing calls k) (missed index k apart)

pub newest_hit : (first : List Slot) (index k : ℕ) (bytes : List ℕ) (passed : Bool) (calls : List SlotCall) → k ≡ index → newest first (Writes index bytes passed ∷ calls) k ≡ Some bytes
newest_hit first index k bytes passed calls same = ap (λ (b : Bool). if b then Some bytes else newest first calls k) (hit index k same)

pub newest_missed : (first : List Slot) (index k : ℕ) (bytes : List ℕ) (passed : Bool) (calls : List SlotCall) → k ≢ index → newest first (Writes index bytes passed ∷ calls) k ≡ newest first calls k
newest_missed first index k bytes passed calls apart = ap (λ (b : Bool). if b then Some bytes else newest first calls k) (missed index k apart)

-- the last write is one of those that a stop may leave
written : (first : List Slot) (index : ℕ) (bytes : List ℕ) (calls : List SlotCall) (k : ℕ) (b : Bool) → nat_eq index k ≡ b
    → Leaves first calls k (newest first calls k) → Leaves first (Writes index bytes true ∷ calls) k (if b then Some bytes else newest first calls k)
written first index bytes calls k true same before = inr (eqb-true index k same, inl refl)
written first index bytes calls k false other before = inl before

pub either_is : (b : Bool) (This That : Type 0) → (b ≡ true → This) → (b ≡ false → That) → Either b This That
either_is true This That this that = this refl
either_is false This That this that = that refl

pub newest_leaves : (first : List Slot) (calls : List SlotCall) (k : ℕ) → Leaves first calls k (newest first calls k)
newest_leaves first [] k = refl
newest_leaves first (Reads index came ∷ calls) k = newest_leaves first calls k
newest_leaves first (Writes index bytes passed ∷ calls) k = written first index bytes calls k (nat_eq index k) refl (newest_leaves first calls k)
newest_leaves first (Syncs true ∷ calls) k = either_is (standing calls k).sure _ _ (λ sure. refl) (λ doubt. newest_leaves first calls k)
newest_leaves first (Syncs false ∷ calls) k = newest_leaves first calls k

-- ---- so far

-- this slot was renewed
pub record IsDone (old now : Slots) (k : ℕ) : Type 0 where
  pub sure : (standing now.calls k).sure ≡ true
  pub left : Leaves old.first old.calls k (newest now.first now.calls k)
  pub same : (standing old.calls k).sure ≡ true → newest now.first now.calls k ≡ newest old.first old.calls k

-- this one is as it was
pub record IsToCome (old now : Slots) (k : ℕ) : Type 0 where
  pub stands : standing now.calls k ≡ standing old.calls k
  pub newest_is : newest now.first now.calls k ≡ newest old.first old.calls k
  pub left : (slot : Slot) → Leaves now.first now.calls k slot → Leaves old.first old.calls k slot

pub record IsOpenedTo (index : ℕ) (old now : Slots) : Type 0 where
  pub keeps : now.keeps ≡ old.keeps
  pub done : old.keeps ≡ true → (k : ℕ) → k < index → IsDone old now k
  pub to_come : (k : ℕ) → index ≤ k → IsToCome old now k

pub none_opened : (file : Slots) → IsOpenedTo 0 file file
none_opened file = record {
  keeps = refl;
  done = λ keeps k small. absurd (omega (arith, small));
  to_come = λ k le. record { stands = refl; newest_is = refl; left = λ slot left. left };
}

module _ (old now : Slots) (index : ℕ) (opened : IsOpenedTo index old now) where
  abbrev with_calls : List SlotCall → Slots
  with_calls calls = record now { calls = calls }

  here : IsToCome old now index
  here = opened.to_come index (omega arith)

  -- it was read, and written again unchanged
  module _ (bytes : List ℕ) (gives : old.keeps ≡ true → Gives now index (Octets bytes)) where
    abbrev after_write : List SlotCall
    after_write = Writes index bytes true ∷ Reads index (Octets bytes) ∷ now.calls

    as_before : (k : ℕ) (slot : Slot) → k ≢ index → Leaves now.first after_write k slot → Leaves now.first now.calls k slot
    as_before k slot apart left = ⊎_elim (λ before. before) (λ hits. absurd (apart (sym hits.0))) left

    now_done : old.keeps ≡ true → (k : ℕ) → k ≡ index → IsDone old (with_calls after_write) k
    now_done keeps k same = subst (λ j. IsDone old (with_calls after_write) j) (sym same) (record {
      sure = ap (λ (s : Standing). s.sure) (standing_hit index index bytes true (Reads index (Octets bytes) ∷ now.calls) refl);
      left = subst (Leaves old.first old.calls index) (sym (newest_hit now.first index index bytes true (Reads index (Octets bytes) ∷ now.calls) refl)) (here.left (Some bytes) (gives keeps).0);
      same = λ sure. newest_hit now.first index index bytes true (Reads index (Octets bytes) ∷ now.calls) refl ∙ sym ((gives keeps).1 (ap (λ (s : Standing). s.sure) here.stands ∙ sure)) ∙ here.newest_is;
    })

    still_done : old.keeps ≡ true → (k : ℕ) → k < index → IsDone old (with_calls after_write) k
    still_done keeps k small =
        let apart : k ≢ index = λ e. absurd (omega (arith, small, e)) in
        let was = opened.done keeps k small in
        let stays = newest_missed now.first index k bytes true (Reads index (Octets bytes) ∷ now.calls) apart in
        record {
          sure = ap (λ (s : Standing). s.sure) (standing_missed index k bytes true (Reads index (Octets bytes) ∷ now.calls) apart) ∙ was.sure;
          left = subst (Leaves old.first old.calls k) (sym stays) was.left;
          same = λ sure. stays ∙ was.same sure;
        }

    pub slot_opened : IsOpenedTo (index + 1) old (with_calls after_write)
    slot_opened = record {
      keeps = opened.keeps;
      done = λ keeps k small. ⊎_elim (λ (below : k < index). still_done keeps k below) (λ (not_below : index ≤ k). now_done keeps k (omega (arith, small, not_below))) (cases_lt k index);
      to_come = λ k le.
          let apart : k ≢ index = λ e. absurd (omega (arith, le, e)) in
          let was = opened.to_come k (omega (arith, le)) in
          record {
            stands = standing_missed index k bytes true (Reads index (Octets bytes) ∷ now.calls) apart ∙ was.stands;
            newest_is = newest_missed now.first index k bytes true (Reads index (Octets bytes) ∷ now.calls) apart ∙ was.newest_is;
            left = λ slot left. was.left slot (as_before k slot apart left);
          };
    }

  -- the file ends before it
  module _ (gives : old.keeps ≡ true → Gives now index Short) where
    end_done : old.keeps ≡ true → (k : ℕ) → k ≡ index → IsDone old (with_calls (Reads index Short ∷ now.calls)) k
    end_done keeps k same = subst (λ j. IsDone old (with_calls (Reads index Short ∷ now.calls)) j) (sym same) (record {
      sure = (gives keeps).0;
      left = here.left (newest now.first now.calls index) (newest_leaves now.first now.calls index);
      same = λ sure. here.newest_is;
    })

    pub end_opened : IsOpenedTo (index + 1) old (with_calls (Reads index Short ∷ now.calls))
    end_opened = record {
      keeps = opened.keeps;
      done = λ keeps k small. ⊎_elim
          (λ (below : k < index). (let was = opened.done keeps k below in record { sure = was.sure; left = was.left; same = was.same }))
          (λ (not_below : index ≤ k). end_done keeps k (omega (arith, small, not_below)))
          (cases_lt k index);
      to_come = λ k le. (let was = opened.to_come k (omega (arith, le)) in record { stands = was.stands; newest_is = was.newest_is; left = was.left });
    }

  renewed : (came : Came) → IsThere came → (old.keeps ≡ true → Gives now index came) → (next : Slots) → Asks now next (renewal_of index came) → IsOpenedTo (index + 1) old next
  renewed (Octets bytes) there gives next asks = subst (IsOpenedTo (index + 1) old) (sym asks) (slot_opened bytes gives)
  renewed Short there gives next asks = subst (IsOpenedTo (index + 1) old) (sym asks) (end_opened gives)
  renewed Failed there gives next asks = absurd there

  pub one_opened : (next : Slots) → IsSlotRenewed index now next → IsOpenedTo (index + 1) old next
  one_opened next is = renewed is.came is.there (λ keeps. is.gives (opened.keeps ∙ keeps)) next is.calls

pub all_opened : (old now new : Slots) (count index : ℕ) → index ≡ count → IsOpenedTo index old now → Asks now new (Syncs true ∷ []) → old.keeps ≡ true → (k : ℕ) → k < count → Reopens old new k
all_opened old now new count index same opened synced keeps k small =
    let done = opened.done keeps k (omega (arith, same, small)) in
    subst (λ file. Reopens old file k) (sym synced) (record { synced = done.sure; sure = done.sure; left = done.left; same = done.same })
