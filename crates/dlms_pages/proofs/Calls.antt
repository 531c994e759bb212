-- What one more call leaves.
use Rattle.std.proofs.Common.{◌≡◌, ◌≢◌, ◌<◌, ◌⊎◌, inl, inr, ⊎_elim, ℕ, List, [], ◌∷◌, ◌++◌, length, get_or, set, refl, sym, ◌∙◌, ap, subst, arith}
use Rattle.std.proofs.lemmas.List.{get_or-set_other, get_or-set_same, length-set, ext_get_or}
use Rattle.std.proofs.lemmas.Bool.{cases_eq}
use Rattle.dlms_pages.specs.declared.device.PageRead.{PageRead}
use Rattle.dlms_pages.specs.declared.device.PageRead.TheVariants.{Content, Damaged}
use Rattle.dlms_pages.specs.declared.memory.Call.{Call}
use Rattle.dlms_pages.specs.declared.memory.Call.TheVariants.{Write, Sync}
use Rattle.dlms_pages.specs.Device.{Image, Outcome}
use Rattle.dlms_pages.specs.Device.Outcome.{Old, New, Torn}
use Rattle.dlms_pages.specs.Disk.{Disk, after, disk_after, Left, IsImage}

pub one_more : (disk : Disk) (calls : List Call) (call : Call) → disk_after disk (calls ++ call ∷ []) ≡ after (disk_after disk calls) call
one_more disk [] call = refl
one_more disk (c ∷ calls) call = one_more (after disk c) calls call

-- the pages stay as many
pub length-seen : (disk : Disk) (calls : List Call) → length (disk_after disk calls).seen ≡ length disk.seen
length-seen disk [] = refl
length-seen disk (Write index bytes ∷ calls) = length-seen (after disk (Write index bytes)) calls ∙ length-set disk.seen index (Content bytes)
length-seen disk (Sync ∷ calls) = length-seen (after disk Sync) calls

pub length-stable : (disk : Disk) (calls : List Call) → length disk.stable ≡ length disk.seen → length (disk_after disk calls).stable ≡ length disk.seen
length-stable disk [] e = e
length-stable disk (Write index bytes ∷ calls) e = length-stable (after disk (Write index bytes)) calls (e ∙ sym (length-set disk.seen index (Content bytes))) ∙ length-set disk.seen index (Content bytes)
length-stable disk (Sync ∷ calls) e = length-stable (after disk Sync) calls refl

-- a page put back
pub put_back : (image : Image) (index : ℕ) (x y : PageRead) → get_or image index Damaged ≡ y → set (set image index x) index y ≡ image
put_back image index x y is =
    ext_get_or Damaged (set (set image index x) index y) image (length-set (set image index x) index y ∙ length-set image index x) (λ k small. ⊎_elim
    (λ (same : k ≡ index). ap (λ (j : ℕ). get_or (set (set image index x) index y) j Damaged) same ∙ get_or-set_same (set image index x) index y Damaged (omega (arith, length-set (set image index x) index y, length-set image index x)) ∙ sym is ∙ ap (λ (j : ℕ). get_or image j Damaged) (sym same))
    (λ (apart : k ≢ index). get_or-set_other (set image index x) index k y Damaged apart ∙ get_or-set_other image index k x Damaged apart)
    (cases_eq k index))

module _ (disk : Disk) (index : ℕ) (bytes : List ℕ) (there : index < length disk.seen) (c : Image) (is : IsImage (after disk (Write index bytes)) c) where
  count : length c ≡ length disk.seen
  count = is.count ∙ length-set disk.seen index (Content bytes)

  abbrev Was : ℕ → PageRead → Type 0
  Was k page = (page ≡ get_or disk.stable k Damaged) ⊎ Left disk.since k page

  -- another page is as before
  other : (k : ℕ) → k ≢ index → Was k (get_or c k Damaged)
  other k apart = ⊎_elim (λ old. inl old) (λ left. ⊎_elim (λ hit. absurd (apart (sym hit.0))) (λ more. inr more) left) (is.page k)

  same_page : Was index (get_or c index Damaged) → IsImage disk c
  same_page here = record {
    count = count;
    page = λ k. ⊎_elim (λ (same : k ≡ index). subst (λ j. Was j (get_or c j Damaged)) (sym same) here) (λ (apart : k ≢ index). other k apart) (cases_eq k index);
  }

  -- the image with the page as at the last sync
  was_image : IsImage disk (set c index (get_or disk.stable index Damaged))
  was_image = record {
    count = length-set c index (get_or disk.stable index Damaged) ∙ count;
    page = λ k. ⊎_elim
        (λ (same : k ≡ index). inl (ap (λ (j : ℕ). get_or (set c index (get_or disk.stable index Damaged)) j Damaged) same ∙ get_or-set_same c index (get_or disk.stable index Damaged) Damaged (omega (arith, count)) ∙ ap (λ (j : ℕ). get_or disk.stable j Damaged) (sym same)))
        (λ (apart : k ≢ index). subst (Was k) (sym (get_or-set_other c index k (get_or disk.stable index Damaged) Damaged apart)) (other k apart))
        (cases_eq k index);
  }

  pub outcome_of_write : Outcome index bytes (IsImage disk) c
  outcome_of_write = ⊎_elim
      (λ old. Old (same_page (inl old)))
      (λ left. ⊎_elim
      (λ hit. ⊎_elim
      (λ new. New (set c index (get_or disk.stable index Damaged)) was_image (sym (put_back c index (get_or disk.stable index Damaged) (Content bytes) new)))
      (λ torn. Torn (set c index (get_or disk.stable index Damaged)) was_image (sym (put_back c index (get_or disk.stable index Damaged) Damaged torn)))
      hit.1)
      (λ more. Old (same_page (inr more)))
      left)
      (is.page index)

-- after a sync there is one image
pub only_seen : (disk : Disk) (c : Image) → IsImage (after disk Sync) c → c ≡ disk.seen
only_seen disk c is = ext_get_or Damaged c disk.seen is.count (λ k small. ⊎_elim (λ same. same) (λ none. absurd none) (is.page k))
