-- What a stop leaves of a file of slots, as pages.
use Rattle.std.proofs.Common.{◌≡◌, ◌⊎◌, inl, inr, ⊎_elim, ℕ, Bool, true, false, List, [], ◌∷◌, take, Some, None, refl, sym, ap, subst}
use Rattle.std.proofs.lemmas.Bool.{cases_Bool}
use Rattle.std.specs.Prelude.{if◌then◌else◌}
use Rattle.dlms_pages.specs.declared.asking.SlotCall.{SlotCall}
use Rattle.dlms_pages.specs.declared.asking.SlotCall.TheVariants.{Reads, Writes, Syncs}
use Rattle.dlms_pages.specs.declared.device.PageRead.{PageRead}
use Rattle.dlms_pages.specs.declared.device.PageRead.TheVariants.{Content, Damaged}
use Rattle.dlms_pages.specs.Laws.{StopsAreOfPages}
use Rattle.dlms_pages.specs.Seal.{slot_of}
use Rattle.dlms_pages.specs.SlotRules.{count_of, page_of}
use Rattle.dlms_pages.specs.Slots.{Slot, Either, Leaves, LeavesPage, newest, page_in, same_octets, standing}
use Rattle.dlms_pages.proofs.FileDisk.{same_from_octets}

-- a slot that is no page's, or that of some content
pub stands_or_not : (k : ℕ) (slot : Slot) → (page_in k slot ≡ Damaged) ⊎ ((content : List ℕ) × (slot ≡ Some (slot_of k content)))
stands_or_not k None = inl refl
stands_or_not k (Some octets) = ⊎_elim
    (λ (is : same_octets octets (slot_of k (take 512 octets)) ≡ true). inr (take 512 octets, ap (λ (s : List ℕ). Some s) (same_from_octets octets (slot_of k (take 512 octets)) is)))
    (λ (is : same_octets octets (slot_of k (take 512 octets)) ≡ false). inl (ap (λ (b : Bool). if b then Content (take 512 octets) else Damaged) is))
    (cases_Bool (same_octets octets (slot_of k (take 512 octets))))

either_too : (b : Bool) (This That This' That' : Type 0) → (This → This') → (That → That') → Either b This That → Either b This' That'
either_too true This That This' That' f g is = f is
either_too false This That This' That' f g is = g is

pub page_left : (first : List Slot) (calls : List SlotCall) (k : ℕ) (slot : Slot) → Leaves first calls k slot → LeavesPage first calls k (page_in k slot)
page_left first [] k slot left = ap (page_in k) left
page_left first (Reads index came ∷ calls) k slot left = page_left first calls k slot left
page_left first (Writes index bytes passed ∷ calls) k slot left = ⊎_elim
    (λ before. inl (page_left first calls k slot before))
    (λ hits. ⊎_elim
    (λ new. inr (hits.0, inl (ap (page_in k) new)))
    (λ tears.
    let (old, before, torn) = tears in
    ⊎_elim
    (λ (damaged : page_in k slot ≡ Damaged). inr (hits.0, inr damaged))
    (λ stands.
    let (content, is) = stands in
    ⊎_elim
    (λ (same : slot ≡ old). inl (subst (λ s. LeavesPage first calls k (page_in k s)) (sym same) (page_left first calls k old before)))
    (λ (new : slot ≡ Some bytes). inr (hits.0, inl (ap (page_in k) new)))
    (torn.sealed content is))
    (stands_or_not k slot))
    hits.1)
    left
page_left first (Syncs true ∷ calls) k slot left =
    either_too (standing calls k).sure (slot ≡ newest first calls k) (Leaves first calls k slot) (page_in k slot ≡ page_in k (newest first calls k)) (LeavesPage first calls k (page_in k slot)) (λ is. ap (page_in k) is) (λ before. page_left first calls k slot before) left
page_left first (Syncs false ∷ calls) k slot left = page_left first calls k slot left

pub stops_are_of_pages : StopsAreOfPages
stops_are_of_pages file count slots left =
    let page : ℕ → PageRead = λ k. page_in k (slots k) in
    record {
      counted = count_of page 0 count;
      page = λ k small. subst (LeavesPage file.first file.calls k) (sym (page_of page count k small)) (page_left file.first file.calls k (slots k) (left k small));
    }
