-- What a stop leaves, page by page, is one of the images that a stop may leave.
use Rattle.std.proofs.Common.{◌≡◌, ◌<◌, ◌≤◌, ◌⊎◌, inl, inr, ⊎_elim, ℕ, Bool, true, false, List, [], ◌∷◌, length, refl, sym, ◌∙◌, subst, arith, cond, ◌||◌, nat_eq}
use Rattle.std.proofs.lemmas.List.{get_or_past}
use Rattle.std.proofs.lemmas.Bool.{cases_lt, eqb-true}
use Rattle.dlms_pages.specs.declared.device.PageRead.{PageRead}
use Rattle.dlms_pages.specs.declared.device.PageRead.TheVariants.{Damaged}
use Rattle.dlms_pages.specs.declared.pick.PageChoice.{PageChoice}
use Rattle.dlms_pages.specs.declared.pick.PageChoice.TheVariants.{Old, New, Torn}
use Rattle.dlms_pages.specs.Disk.{Disk, at_first, disk_after, Left, was_written, IsImage}
use Rattle.dlms_pages.specs.Pick.{chosen, page_left}
use Rattle.dlms_pages.specs.Device.{Image, page_at}
use Rattle.dlms_pages.specs.declared.memory.Call.{Call}
use Rattle.dlms_pages.specs.Memory.{Memory, disk_of}
use Rattle.dlms_pages.specs.MemoryRules.{seen_is_image}
use Rattle.dlms_pages.proofs.Calls.{length-seen, length-stable, only_seen}

-- a page that was written may be torn
torn_by : (write : ℕ × List ℕ) (writes : List (ℕ × List ℕ)) (k : ℕ) (b : Bool) → nat_eq write.0 k ≡ b → was_written (write ∷ writes) k ≡ true → (was_written writes k ≡ true → Left writes k Damaged) → Left (write ∷ writes) k Damaged
torn_by write writes k true hit is more = inl (eqb-true write.0 k hit, inr refl)
torn_by write writes k false miss is more = inr (more (subst (λ b. (b || was_written writes k) ≡ true) miss is))

torn : (since : List (ℕ × List ℕ)) (k : ℕ) → was_written since k ≡ true → Left since k Damaged
torn [] k is = absurd (never is)
  where
    never : false ≡ true → ⊥
    never e = cc
torn (write ∷ writes) k is = torn_by write writes k (nat_eq write.0 k) refl is (torn writes k)

module _ (disk : Disk) (whole : IsImage disk disk.seen) (k : ℕ) where
  abbrev MayHold : PageRead → Type 0
  MayHold page = (page ≡ page_at disk.stable k) ⊎ Left disk.since k page

  chosen_may : (choice : PageChoice) → was_written disk.since k ≡ true → MayHold (chosen choice (page_at disk.stable k) (page_at disk.seen k))
  chosen_may Old is = inl refl
  chosen_may New is = whole.page k
  chosen_may Torn is = inr (torn disk.since k is)

  pub left_may : (choice : PageChoice) → MayHold (page_left disk choice k)
  left_may choice = by (was_written disk.since k) refl
    where
      by : (b : Bool) → was_written disk.since k ≡ b → MayHold (cond b (chosen choice (page_at disk.stable k) (page_at disk.seen k)) (page_at disk.stable k))
      by true is = chosen_may choice is
      by false is = inl refl

pub picked_is_image : (disk : Disk) (image : Image) (choice : ℕ → PageChoice) → IsImage disk disk.seen → length disk.stable ≡ length disk.seen → length image ≡ length disk.seen → ((k : ℕ) → k < length image → page_at image k ≡ page_left disk (choice k) k) → IsImage disk image
picked_is_image disk image choice whole stable count each = record {
  count = count;
  page = λ k. ⊎_elim
      (λ (there : k < length image). subst (λ p. (p ≡ page_at disk.stable k) ⊎ Left disk.since k p) (sym (each k there)) (left_may disk whole k (choice k)))
      (λ (past : length image ≤ k). inl (get_or_past image k Damaged past ∙ sym (get_or_past disk.stable k Damaged (omega (arith, past, stable, count)))))
      (cases_lt k (length image));
}

-- in memory
pub picked_in_memory : (memory : Memory) (image : Image) (choice : ℕ → PageChoice) → length image ≡ length memory.first → ((k : ℕ) → k < length memory.first → page_at image k ≡ page_left (disk_of memory) (choice k) k) → IsImage (disk_of memory) image
picked_in_memory memory image choice count each =
    let first = at_first memory.first in
    let stable = length-stable first memory.calls refl in
    let seen = length-seen first memory.calls in
    picked_is_image (disk_of memory) image choice (seen_is_image memory.first memory.calls) (stable ∙ sym seen) (count ∙ sym seen) (λ k less. each k (subst (λ n. k < n) count less))

-- after a stop there is one image
pub one_image : (first : Image) (calls : List Call) → calls ≡ [] → (c : Image) → IsImage (disk_after (at_first first) calls) c → c ≡ first
one_image first calls none c left = only_seen (at_first first) c (subst (λ l. IsImage (disk_after (at_first first) l) c) none left)
