-- A file that is opened again after a stop of the machine.
use Rattle.std.proofs.Common.{◌≡◌, ◌≢◌, ◌<◌, ⊎_elim, ℕ, true, false, List, [], ◌∷◌, ◌++◌, length, None, sym, ◌∙◌, ap, subst, arith}
use Rattle.std.proofs.lemmas.List.{ext_get_or, length-replicate}
use Rattle.std.proofs.lemmas.Bool.{cases_eq, true≢false}
use Rattle.dlms_pages.specs.declared.asking.SlotCall.{SlotCall}
use Rattle.dlms_pages.specs.declared.asking.SlotCall.TheVariants.{Reads, Writes, Syncs}
use Rattle.dlms_pages.specs.declared.device.PageRead.{PageRead}
use Rattle.dlms_pages.specs.declared.device.PageRead.TheVariants.{Damaged}
use Rattle.dlms_pages.specs.Device.{Image, page_at}
use Rattle.dlms_pages.specs.File.{FileValue}
use Rattle.dlms_pages.specs.Reopening.{LeavesSlots, IsOpenedOver, IsAsLeft, OpensWhatWasLeft}
use Rattle.dlms_pages.specs.SlotRules.{count_of, page_of}
use Rattle.dlms_pages.specs.Slots.{Slot, Slots, Standing, LeavesImage, LeavesPage, Leaves, newest, page_in, pages_from, standing}
use Rattle.dlms_pages.proofs.FileStops.{stops_are_of_pages}
use Rattle.dlms_pages.proofs.Reopened.{newest_missed, standing_hit, standing_missed}
use Rattle.dlms_pages.proofs.Spared.{take_sure}

-- a stop leaves a page whose slot is synced as it was written last
synced_page : (first : List Slot) (calls : List SlotCall) (k : ℕ) (page : PageRead) → (standing calls k).synced ≡ true → LeavesPage first calls k page → page ≡ page_in k (newest first calls k)
synced_page first [] k page synced left = left
synced_page first (Reads index came ∷ calls) k page synced left = synced_page first calls k page synced left
synced_page first (Writes index bytes passed ∷ calls) k page synced left = ⊎_elim
    (λ (same : k ≡ index). absurd (true≢false (sym synced ∙ ap (λ (s : Standing). s.synced) (standing_hit index k bytes passed calls same))))
    (λ (apart : k ≢ index). ⊎_elim
    (λ before. synced_page first calls k page (sym (ap (λ (s : Standing). s.synced) (standing_missed index k bytes passed calls apart)) ∙ synced) before ∙ ap (page_in k) (sym (newest_missed first index k bytes passed calls apart)))
    (λ hits. absurd (apart (sym hits.0)))
    left)
    (cases_eq k index)
synced_page first (Syncs true ∷ calls) k page synced left = take_sure (standing calls k).sure _ _ synced left
synced_page first (Syncs false ∷ calls) k page synced left = synced_page first calls k page synced left

-- the pages are these if each of them is
pages_are : (count : ℕ) (page : ℕ → PageRead) (image : Image) → length image ≡ count → ((k : ℕ) → k < count → page_at image k ≡ page k) → image ≡ pages_from page 0 count
pages_are count page image size each =
    ext_get_or Damaged image (pages_from page 0 count) (size ∙ sym (count_of page 0 count)) (λ k small.
    let there : k < count = omega (arith, small, size) in
    each k there ∙ sym (page_of page count k there))

module _ {F : Type 0} (slots : F → Slots) (count : ℕ) (before : Slots) (left : ℕ → Slot) (pages : FileValue F) (leaves : LeavesSlots count before.first before.calls left) (is : IsOpenedOver slots count left pages) where
  abbrev now : Slots
  now = slots pages.file

  abbrev left_pages : Image
  left_pages = pages_from (λ k. page_in k (left k)) 0 count

  many : length pages.unsynced ≡ count
  many = ap (λ l. length l) is.fresh.unsynced ∙ length-replicate count None

  same_keeps : now.keeps ≡ true
  same_keeps = ap (λ (file : Slots). file.keeps) is.renewed.calls ∙ is.keeps

  newest_is : (k : ℕ) → k < count → newest now.first now.calls k ≡ left k
  newest_is k small = subst (λ (calls : List SlotCall). Leaves is.file.first calls k (newest now.first now.calls k)) is.starts (is.reopened k small).left ∙ is.holds k small

  only_this : (c : Image) → LeavesImage (length pages.unsynced) now.first now.calls c → c ≡ left_pages
  only_this c image = pages_are count (λ k. page_in k (left k)) c (image.counted ∙ many) (λ k small.
      synced_page now.first now.calls k (page_at c k) (is.reopened k small).synced (image.page k (omega (arith, small, many))) ∙ ap (page_in k) (newest_is k small))

  while_opened : (later earlier : List SlotCall) → now.calls ≡ later ++ earlier → (other : ℕ → Slot) → LeavesSlots count now.first earlier other → pages_from (λ k. page_in k (other k)) 0 count ≡ left_pages
  while_opened later earlier split other stops = pages_are count (λ k. page_in k (left k)) (pages_from (λ k. page_in k (other k)) 0 count) (count_of (λ k. page_in k (other k)) 0 count) (λ k small.
      let none : length is.file.calls ≡ 0 = ap (λ (l : List SlotCall). length l) is.starts in
      page_of (λ k. page_in k (other k)) count k small
      ∙ subst (λ (calls : List SlotCall). LeavesPage is.file.first calls k (page_in k (other k))) is.starts (is.spared k later earlier split (omega (arith, none)) (other k) (stops k small))
      ∙ ap (page_in k) (is.holds k small))

  pub as_left : IsAsLeft slots count before pages
  as_left = record {
    image = left_pages;
    left = stops_are_of_pages before count left leaves;
    fixed = record { honest = same_keeps; only = only_this };
    inside = while_opened;
  }

pub opens_what_was_left : {F : Type 0} → (slots : F → Slots) → OpensWhatWasLeft slots
opens_what_was_left slots count before left pages leaves is = as_left slots count before left pages leaves is
