-- What slots in memory hold, through their calls.
use Rattle.std.proofs.Common.{◌≡◌, ◌≢◌, ◌<◌, ◌≤◌, ◌^◌, inl, inr, ⊎_elim, ℕ, zero, suc, Bool, true, false, List, [], ◌∷◌, ◌++◌, length, get_or, set, map, Some, None, refl, sym, ◌∙◌, ap, subst, arith}
use Rattle.std.proofs.lemmas.List.{get_or-map, get_or-set_same, get_or-set_other, length-set, length-map, reverse-append, ext_get_or}
use Rattle.std.proofs.lemmas.Bool.{cases_eq, true≢false}
use Rattle.std.specs.Prelude.{reverse}
use Rattle.dlms_pages.specs.declared.asking.SlotCall.{SlotCall}
use Rattle.dlms_pages.specs.declared.asking.SlotCall.TheVariants.{Reads, Writes, Syncs}
use Rattle.dlms_pages.specs.declared.asking.Came.{Came}
use Rattle.dlms_pages.specs.HeldSlots.{AreHeld, AreTorn, IsHeld}
use Rattle.dlms_pages.specs.Slots.{Slot, Standing, IsMix, IsTorn, Leaves, newest, standing}
use Rattle.dlms_pages.specs.Tear.{AreWhole, tear_at}
use Rattle.dlms_pages.specs.declared.tear.SlotTear.TheVariants.{New}
use Rattle.dlms_pages.specs.declared.tear.SlotTears.{SlotTears}
use Rattle.dlms_pages.proofs.FileKeeping.{synced_sure}
use Rattle.dlms_pages.proofs.Reopened.{either_is, newest_hit, newest_missed, standing_hit, standing_missed}

-- one more call
pub one_call : (calls : List SlotCall) (call : SlotCall) → reverse (calls ++ call ∷ []) ≡ call ∷ reverse calls
one_call calls call = reverse-append calls (call ∷ [])

-- ---- torn slots

mix_of_one : (slot mix : List ℕ) → IsMix slot slot mix → mix ≡ slot
mix_of_one slot mix is = ext_get_or 0 mix slot is.0 (λ i small. ⊎_elim (λ old. old) (λ new. new) (is.1 i (omega (arith, small, is.0))))

pub item_is : (slots : List (List ℕ)) (i : ℕ) (other slot : List ℕ) → i < length slots → slot ≡ get_or slots i other → slot ≡ get_or slots i []
item_is [] i other slot less is = absurd (omega (arith, less))
item_is (first ∷ slots) zero other slot less is = is
item_is (first ∷ slots) (suc i) other slot less is = item_is slots i other slot (omega (arith, less)) is

-- a slot that is written as it stands cannot be torn
pub one_of_two : (k : ℕ) (slot bytes : List ℕ) → IsTorn k (Some slot) slot (Some bytes) → bytes ≡ slot
one_of_two k slot bytes torn =
    let (mix, is, mixed) = torn.mix slot refl in
    let same : bytes ≡ mix = cc is in
    same ∙ mix_of_one slot mix mixed

-- ---- through calls

pub held_first : (slots : List (List ℕ)) → length slots < 2 ^ 16 → AreHeld (map Some slots) [] slots slots slots
held_first slots small = record {
  counted = length-map slots Some;
  kept_too = refl;
  last_too = refl;
  small = small;
  each = λ k there.
      let stands = get_or-map Some slots k [] None there in
      record {
        left = sym stands;
        sure = λ is. stands;
        whole = λ is. refl;
        stays = sym stands;
        torn = λ bytes torn. ap (λ (s : List ℕ). Some s) (one_of_two k (get_or slots k []) bytes torn) ∙ sym stands;
        settled = λ is. (refl, refl);
      };
}

module _ (first : List Slot) (calls : List SlotCall) (reads kept last : List (List ℕ)) (held : AreHeld first calls reads kept last) where
  pub held_read : (index : ℕ) (came : Came) → AreHeld first (Reads index came ∷ calls) reads kept last
  held_read index came = record {
    counted = held.counted;
    kept_too = held.kept_too;
    last_too = held.last_too;
    small = held.small;
    each = λ k there. (let h = held.each k there in record { left = h.left; sure = h.sure; whole = h.whole; stays = h.stays; torn = h.torn; settled = h.settled });
  }

  -- another slot's write
  apart_from : (index k : ℕ) (bytes x y z : List ℕ) (passed : Bool) → k ≢ index → IsHeld first calls k x y z → IsHeld first (Writes index bytes passed ∷ calls) k x y z
  apart_from index k bytes x y z passed apart h =
      let stands = standing_missed index k bytes passed calls apart in
      record {
        left = inl h.left;
        sure = λ is. newest_missed first index k bytes passed calls apart ∙ h.sure (sym (ap (λ (s : Standing). s.sure) stands) ∙ is);
        whole = λ is. h.whole (sym (ap (λ (s : Standing). s.sure) stands) ∙ is);
        stays = inl h.stays;
        torn = λ octets torn. inl (h.torn octets torn);
        settled = λ is. h.settled (sym (ap (λ (s : Standing). s.synced) stands) ∙ is);
      }

  -- this slot's
  written : (index : ℕ) (bytes slot x y z : List ℕ) (passed : Bool) → IsHeld first calls index x y z → IsTorn index (Some x) bytes (Some slot) → (passed ≡ true → slot ≡ bytes) → IsHeld first (Writes index bytes passed ∷ calls) index slot y bytes
  written index bytes slot x y z passed h is whole =
      let stands = standing_hit index index bytes passed calls refl in
      record {
        left = inr (refl, inr (Some x, h.left, is));
        sure = λ sure. newest_hit first index index bytes passed calls refl ∙ ap (λ (s : List ℕ). Some s) (sym (whole (sym (ap (λ (s : Standing). s.sure) stands) ∙ sure)));
        whole = λ sure. sym (whole (sym (ap (λ (s : Standing). s.sure) stands) ∙ sure));
        stays = inl h.stays;
        torn = λ octets torn. inr (refl, inr (Some y, h.stays, torn));
        settled = λ synced. absurd (true≢false (sym synced ∙ ap (λ (s : Standing). s.synced) stands));
      }

  pub held_write : (index : ℕ) (bytes slot : List ℕ) (passed : Bool) → index < length reads → IsTorn index (Some (get_or reads index [])) bytes (Some slot) → (passed ≡ true → slot ≡ bytes)
      → AreHeld first (Writes index bytes passed ∷ calls) (set reads index slot) kept (set last index bytes)
  held_write index bytes slot passed there is whole = record {
    counted = held.counted ∙ sym (length-set reads index slot);
    kept_too = held.kept_too ∙ sym (length-set reads index slot);
    last_too = length-set last index bytes ∙ held.last_too ∙ sym (length-set reads index slot);
    small = subst (λ n. n < 2 ^ 16) (sym (length-set reads index slot)) held.small;
    each = λ k small.
        let inside : k < length reads = omega (arith, small, length-set reads index slot) in
        ⊎_elim
        (λ (same : k ≡ index).
        let is_reads : slot ≡ get_or (set reads index slot) k [] = sym (ap (λ (j : ℕ). get_or (set reads index slot) j []) same ∙ get_or-set_same reads index slot [] there) in
        let is_last : bytes ≡ get_or (set last index bytes) k [] = sym (ap (λ (j : ℕ). get_or (set last index bytes) j []) same ∙ get_or-set_same last index bytes [] (omega (arith, there, held.last_too))) in
        let at_index = written index bytes slot (get_or reads index []) (get_or kept index []) (get_or last index []) passed (held.each index there) is whole in
        let at_k = subst (λ j. IsHeld first (Writes index bytes passed ∷ calls) j slot (get_or kept j []) bytes) (sym same) at_index in
        subst (λ l. IsHeld first (Writes index bytes passed ∷ calls) k (get_or (set reads index slot) k []) (get_or kept k []) l) is_last
        (subst (λ r. IsHeld first (Writes index bytes passed ∷ calls) k r (get_or kept k []) bytes) is_reads at_k))
        (λ (apart : k ≢ index).
        let h = apart_from index k bytes (get_or reads k []) (get_or kept k []) (get_or last k []) passed apart (held.each k inside) in
        subst (λ l. IsHeld first (Writes index bytes passed ∷ calls) k (get_or (set reads index slot) k []) (get_or kept k []) l) (sym (get_or-set_other last index k bytes [] apart))
        (subst (λ r. IsHeld first (Writes index bytes passed ∷ calls) k r (get_or kept k []) (get_or last k [])) (sym (get_or-set_other reads index k slot [] apart)) h))
        (cases_eq k index);
  }

  -- the file ends before the slot
  pub held_beyond : (index : ℕ) (bytes : List ℕ) (passed : Bool) → length reads ≤ index → AreHeld first (Writes index bytes passed ∷ calls) reads kept last
  held_beyond index bytes passed beyond = record {
    counted = held.counted;
    kept_too = held.kept_too;
    last_too = held.last_too;
    small = held.small;
    each = λ k there. apart_from index k bytes (get_or reads k []) (get_or kept k []) (get_or last k []) passed (λ same. absurd (omega (arith, there, beyond, same))) (held.each k there);
  }

  pub held_sync : AreHeld first (Syncs true ∷ calls) reads reads reads
  held_sync = record {
    counted = held.counted;
    kept_too = refl;
    last_too = refl;
    small = held.small;
    each = λ k there.
        let h = held.each k there in
        let left : Leaves first (Syncs true ∷ calls) k (Some (get_or reads k [])) = either_is (standing calls k).sure _ _ (λ is. sym (h.sure is)) (λ doubt. h.left) in
        record {
          left = left;
          sure = h.sure;
          whole = λ is. refl;
          stays = left;
          torn = λ bytes torn. subst (λ (s : List ℕ). Leaves first (Syncs true ∷ calls) k (Some s)) (sym (one_of_two k (get_or reads k []) bytes torn)) left;
          settled = λ is. (refl, refl);
        };
  }

  -- A sync that failed: each slot reads as the write of it that was on the way was torn.
  failed_sync : (k : ℕ) (x y z slot : List ℕ) → IsHeld first calls k x y z → IsTorn k (Some y) z (Some slot) → IsHeld first (Syncs false ∷ calls) k slot y z
  failed_sync k x y z slot h torn =
      let same : (standing calls k).synced ≡ true → slot ≡ x = λ is.
      let (is_kept, is_last) = h.settled is in
      one_of_two k x slot (subst (λ l. IsTorn k (Some x) l (Some slot)) is_last (subst (λ (s : List ℕ). IsTorn k (Some s) z (Some slot)) is_kept torn)) in
      record {
        left = h.torn slot torn;
        sure = λ is. h.sure (synced_sure calls k is) ∙ ap (λ (s : List ℕ). Some s) (sym (same is));
        whole = λ is. (h.settled is).1 ∙ sym (same is);
        stays = h.stays;
        torn = h.torn;
        settled = λ is. ((h.settled is).0 ∙ sym (same is), (h.settled is).1 ∙ sym (same is));
      }

  pub held_failed_sync : (slots : List (List ℕ)) → AreTorn kept last slots → AreHeld first (Syncs false ∷ calls) slots kept last
  held_failed_sync slots torn =
      let many : length slots ≡ length reads = torn.0 ∙ held.kept_too in
      record {
        counted = held.counted ∙ sym many;
        kept_too = held.kept_too ∙ sym many;
        last_too = held.last_too ∙ sym many;
        small = subst (λ n. n < 2 ^ 16) (sym many) held.small;
        each = λ k there. failed_sync k (get_or reads k []) (get_or kept k []) (get_or last k []) (get_or slots k []) (held.each k (omega (arith, there, many))) (torn.1 k there);
      }

  -- what a stop leaves
  pub left_torn : (slots : List (List ℕ)) → AreTorn kept last slots → (k : ℕ) → k < length first → Leaves first calls k (get_or (map Some slots) k None)
  left_torn slots torn k small =
      let there : k < length slots = omega (arith, small, held.counted, held.kept_too, torn.0) in
      let h = held.each k (omega (arith, small, held.counted)) in
      subst (Leaves first calls k) (sym (get_or-map Some slots k [] None there)) (h.torn (get_or slots k []) (torn.1 k there))

pub held_new : (first slots kept last : List (List ℕ)) (calls : List SlotCall) → first ≡ slots → calls ≡ [] → kept ≡ slots → last ≡ slots → length slots < 2 ^ 16 → AreHeld (map Some first) (reverse calls) slots kept last
held_new first slots kept last calls is_first none is_kept is_last small =
    subst (λ (f : List (List ℕ)). AreHeld (map Some f) (reverse calls) slots kept last) (sym is_first)
    (subst (λ (l : List SlotCall). AreHeld (map Some slots) (reverse l) slots kept last) (sym none)
    (subst (λ (k : List (List ℕ)). AreHeld (map Some slots) [] slots k last) (sym is_kept)
    (subst (λ (l : List (List ℕ)). AreHeld (map Some slots) [] slots slots l) (sym is_last) (held_first slots small))))

-- a slot of which all octets came
pub whole_left : (first : List Slot) (calls : List SlotCall) (reads kept last slots : List (List ℕ)) → AreHeld first calls reads kept last → AreTorn kept last slots → (tears : SlotTears) → AreWhole tears last slots
    → (k : ℕ) → k < length first → tear_at tears k ≡ New → (standing calls k).sure ≡ true → get_or (map Some slots) k None ≡ newest first calls k
whole_left first calls reads kept last slots held torn tears whole k small is sure =
    let there : k < length slots = omega (arith, small, held.counted, held.kept_too, torn.0) in
    let h = held.each k (omega (arith, small, held.counted)) in
    get_or-map Some slots k [] None there ∙ ap (λ (s : List ℕ). Some s) (whole k there is ∙ h.whole sure) ∙ sym (h.sure sure)

-- ---- the calls, as they are kept, the oldest first

module _ (first : List Slot) (past : List SlotCall) (reads kept last : List (List ℕ)) (held : AreHeld first (reverse past) reads kept last) (first_now : List Slot) (past_now : List SlotCall) (reads_now kept_now last_now : List (List ℕ)) (is_first : first_now ≡ first) where
  now : (call : SlotCall) (reads_then kept_then last_then : List (List ℕ)) → past_now ≡ past ++ call ∷ [] → reads_now ≡ reads_then → kept_now ≡ kept_then → last_now ≡ last_then
      → AreHeld first (call ∷ reverse past) reads_then kept_then last_then → AreHeld first_now (reverse past_now) reads_now kept_now last_now
  now call reads_then kept_then last_then more is_reads is_kept is_last is =
      let calls : reverse past_now ≡ call ∷ reverse past = ap (λ (l : List SlotCall). reverse l) more ∙ one_call past call in
      subst (λ (f : List Slot). AreHeld f (reverse past_now) reads_now kept_now last_now) (sym is_first)
      (subst (λ (l : List SlotCall). AreHeld first l reads_now kept_now last_now) (sym calls)
      (subst (λ (r : List (List ℕ)). AreHeld first (call ∷ reverse past) r kept_now last_now) (sym is_reads)
      (subst (λ (k : List (List ℕ)). AreHeld first (call ∷ reverse past) reads_then k last_now) (sym is_kept)
      (subst (λ (l : List (List ℕ)). AreHeld first (call ∷ reverse past) reads_then kept_then l) (sym is_last) is))))

  pub wrote : (index : ℕ) (bytes slot : List ℕ) (passed : Bool) → index < length reads → IsTorn index (Some (get_or reads index [])) bytes (Some slot) → (passed ≡ true → slot ≡ bytes)
      → past_now ≡ past ++ Writes index bytes passed ∷ [] → reads_now ≡ set reads index slot → kept_now ≡ kept → last_now ≡ set last index bytes → AreHeld first_now (reverse past_now) reads_now kept_now last_now
  wrote index bytes slot passed there torn whole more is_reads is_kept is_last =
      now (Writes index bytes passed) (set reads index slot) kept (set last index bytes) more is_reads is_kept is_last (held_write first (reverse past) reads kept last held index bytes slot passed there torn whole)

  pub wrote_beyond : (index : ℕ) (bytes : List ℕ) (passed : Bool) → length reads ≤ index → past_now ≡ past ++ Writes index bytes passed ∷ [] → reads_now ≡ reads → kept_now ≡ kept → last_now ≡ last → AreHeld first_now (reverse past_now) reads_now kept_now last_now
  wrote_beyond index bytes passed beyond more is_reads is_kept is_last =
      now (Writes index bytes passed) reads kept last more is_reads is_kept is_last (held_beyond first (reverse past) reads kept last held index bytes passed beyond)

  pub synced : past_now ≡ past ++ Syncs true ∷ [] → reads_now ≡ reads → kept_now ≡ reads → last_now ≡ reads → AreHeld first_now (reverse past_now) reads_now kept_now last_now
  synced more is_reads is_kept is_last = now (Syncs true) reads reads reads more is_reads is_kept is_last (held_sync first (reverse past) reads kept last held)

  pub not_synced : past_now ≡ past ++ Syncs false ∷ [] → AreTorn kept last reads_now → kept_now ≡ kept → last_now ≡ last → AreHeld first_now (reverse past_now) reads_now kept_now last_now
  not_synced more torn is_kept is_last = now (Syncs false) reads_now kept last more refl is_kept is_last (held_failed_sync first (reverse past) reads kept last held reads_now torn)
