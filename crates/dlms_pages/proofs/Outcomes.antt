-- A page that was written, synced and written again may be left in each of three ways.
use Rattle.std.proofs.Common.{◌≡◌, ◌≢◌, ◌<◌, ◌⊎◌, inl, inr, ⊎_elim, ℕ, List, [], ◌∷◌, length, get_or, set, refl, sym, ◌∙◌, ap, subst}
use Rattle.std.proofs.lemmas.List.{get_or-set_other, get_or-set_same, length-set, ext_get_or}
use Rattle.std.proofs.lemmas.Bool.{cases_eq}
use Rattle.dlms_pages.specs.declared.device.PageRead.{PageRead}
use Rattle.dlms_pages.specs.declared.device.PageRead.TheVariants.{Content, Damaged}
use Rattle.dlms_pages.specs.declared.memory.Call.{Call}
use Rattle.dlms_pages.specs.declared.memory.Call.TheVariants.{Write, Sync}
use Rattle.dlms_pages.specs.Device.{Image, page_at}
use Rattle.dlms_pages.specs.Disk.{Disk, IsImage, at_first, disk_after}
use Rattle.dlms_pages.specs.Laws.{LeavesEachOutcome}
use Rattle.dlms_pages.specs.Memory.{Memory, disk_of}

module _ (first : Image) (index : ℕ) (old new : List ℕ) (there : index < length first) where
  abbrev stable : Image
  stable = set first index (Content old)

  abbrev disk : Disk
  disk = record { stable = stable; seen = set stable index (Content new); since = (index, new) ∷ [] }

  abbrev count : length (set stable index (Content new)) ≡ length first
  count = length-set stable index (Content new) ∙ length-set first index (Content old)

  -- the image with this at the page
  is_set : (c : Image) → IsImage disk c → (page : PageRead) → page_at c index ≡ page → c ≡ set first index page
  is_set c is page here = ext_get_or Damaged c (set first index page) (is.count ∙ count ∙ sym (length-set first index page)) (λ k small. ⊎_elim
      (λ (same : k ≡ index). ap (λ (j : ℕ). get_or c j Damaged) same ∙ here ∙ sym (get_or-set_same first index page Damaged there) ∙ ap (λ (j : ℕ). get_or (set first index page) j Damaged) (sym same))
      (λ (apart : k ≢ index).
      let other : get_or c k Damaged ≡ get_or stable k Damaged = ⊎_elim (λ was. was) (λ left. ⊎_elim (λ hit. absurd (apart (sym hit.0))) (λ none. absurd none) left) (is.page k) in
      other ∙ get_or-set_other first index k (Content old) Damaged apart ∙ sym (get_or-set_other first index k page Damaged apart))
      (cases_eq k index))

  pub only_three : (c : Image) → IsImage disk c → (c ≡ set first index (Content old)) ⊎ ((c ≡ set first index (Content new)) ⊎ (c ≡ set first index Damaged))
  only_three c is = ⊎_elim
      (λ was. inl (is_set c is (Content old) (was ∙ get_or-set_same first index (Content old) Damaged there)))
      (λ left. ⊎_elim
      (λ hit. ⊎_elim (λ now. inr (inl (is_set c is (Content new) now))) (λ torn. inr (inr (is_set c is Damaged torn))) hit.1)
      (λ none. absurd none)
      left)
      (is.page index)

  -- and each of them
  may : (page : PageRead) → ((page ≡ Content old) ⊎ ((page ≡ Content new) ⊎ (page ≡ Damaged))) → IsImage disk (set first index page)
  may page choice = record {
    count = length-set first index page ∙ sym count;
    page = λ k. ⊎_elim
        (λ (same : k ≡ index).
        let now : get_or (set first index page) k Damaged ≡ page = ap (λ (j : ℕ). get_or (set first index page) j Damaged) same ∙ get_or-set_same first index page Damaged there in
        let was : get_or stable k Damaged ≡ Content old = ap (λ (j : ℕ). get_or stable j Damaged) same ∙ get_or-set_same first index (Content old) Damaged there in
        ⊎_elim
        (λ is_old. inl (now ∙ is_old ∙ sym was))
        (λ written. inr (inl (sym same, subst (λ p. (p ≡ Content new) ⊎ (p ≡ Damaged)) (sym now) written)))
        choice)
        (λ (apart : k ≢ index). inl (get_or-set_other first index k page Damaged apart ∙ sym (get_or-set_other first index k (Content old) Damaged apart)))
        (cases_eq k index);
  }

  pub each_of_three : (c : Image) → ((c ≡ set first index (Content old)) ⊎ ((c ≡ set first index (Content new)) ⊎ (c ≡ set first index Damaged))) → IsImage disk c
  each_of_three c three = ⊎_elim
      (λ is. subst (IsImage disk) (sym is) (may (Content old) (inl refl)))
      (λ rest. ⊎_elim
      (λ is. subst (IsImage disk) (sym is) (may (Content new) (inr (inl refl))))
      (λ is. subst (IsImage disk) (sym is) (may Damaged (inr (inr refl))))
      rest)
      three

pub each_outcome : (memory : Memory) (index : ℕ) (old new : List ℕ) → index < length memory.first → memory.calls ≡ Write index old ∷ Sync ∷ Write index new ∷ [] → LeavesEachOutcome memory index old new
each_outcome memory index old new there calls c =
    let is : disk_of memory ≡ disk memory.first index old new there = ap (λ (l : List Call). disk_after (at_first memory.first) l) calls in
    (λ left. only_three memory.first index old new there c (subst (λ d. IsImage d c) is left), λ three. subst (λ d. IsImage d c) (sym is) (each_of_three memory.first index old new there c three))
