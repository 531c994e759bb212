-- Pages in a file of slots keep the rules that hold at each moment, whatever the file.
use Rattle.std.proofs.Common.{◌≡◌, ◌<◌, ◌≤◌, ◌+◌, inl, inr, ℕ, Bool, true, false, zero, suc, List, [], ◌∷◌, ◌++◌, length, get_or, Some, refl, sym, ◌∙◌, ap, subst, arith}
use Rattle.std.proofs.lemmas.List.{length-append, nil_from_length}
use Rattle.std.proofs.lemmas.Bool.{eqb-true}
use Rattle.std.specs.Prelude.{nat_eq, if◌then◌else◌}
use Rattle.dlms_pages.specs.declared.asking.SlotCall.{SlotCall}
use Rattle.dlms_pages.specs.declared.asking.SlotCall.TheVariants.{Reads, Writes, Syncs}
use Rattle.dlms_pages.specs.declared.device.PageRead.{PageRead}
use Rattle.dlms_pages.specs.declared.device.PageRead.TheVariants.{Damaged}
use Rattle.dlms_pages.specs.Device.{page_at, Rules}
use Rattle.dlms_pages.specs.File.{pages_of}
use Rattle.dlms_pages.specs.Slots.{Slot, Slots, Either, LeavesImage, LeavesPage, newest, page_in, pages_from, standing}

-- this many pages, each in its place
pub count_of : (page : ℕ → PageRead) (k count : ℕ) → length (pages_from page k count) ≡ count
count_of page k zero = refl
count_of page k (suc count) = ap (λ (n : ℕ). suc n) (count_of page (k + 1) count)

place_of : (page : ℕ → PageRead) (i count j : ℕ) → j < count
    → get_or (pages_from page i count) j Damaged ≡ page (i + j)
place_of page i zero j small = absurd (omega (arith, small))
place_of page i (suc count) zero small = ap page (omega arith)
place_of page i (suc count) (suc j) small =
    let next : i + 1 + j ≡ i + suc j = omega arith in
    place_of page (i + 1) count j (omega (arith, small)) ∙ ap page next

pub page_of : (page : ℕ → PageRead) (count k : ℕ) → k < count
    → page_at (pages_from page 0 count) k ≡ page k
page_of page count k small = let none : 0 + k ≡ k = omega arith in
    place_of page 0 count k small ∙ ap page none

-- of two ways the one that holds
pub either_is : (b : Bool) (This That : Type 0) → (b ≡ true → This) → (b ≡ false → That)
    → Either b This That
either_is true This That this that = this refl
either_is false This That this that = that refl

-- the last write is one of those that a stop may leave
written : (first : List Slot) (index : ℕ) (bytes : List ℕ) (calls : List SlotCall) (k : ℕ) (b : Bool)
    → nat_eq index k ≡ b
    → (LeavesPage first calls k (page_in k (newest first calls k)))
    → LeavesPage first (Writes index bytes true ∷ calls) k (page_in k (if b then Some bytes
    else newest first calls k))
written first index bytes calls k true same before = inr (eqb-true index k same, inl refl)
written first index bytes calls k false other before = inl before

pub newest_left : (first : List Slot) (calls : List SlotCall) (k : ℕ)
    → LeavesPage first calls k (page_in k (newest first calls k))
newest_left first [] k = refl
newest_left first (Reads index came ∷ calls) k = newest_left first calls k
newest_left first (Writes index bytes passed ∷ calls) k =
    written first index bytes calls k (nat_eq index k) refl (newest_left first calls k)
newest_left first (Syncs true ∷ calls) k =
    either_is (standing calls k).sure _ _ (λ sure. refl) (λ doubt. newest_left first calls k)
newest_left first (Syncs false ∷ calls) k = newest_left first calls k

-- nothing precedes all of a list
pub no_more : (calls later earlier : List SlotCall) → calls ≡ later ++ earlier
    → length calls ≤ length earlier → calls ≡ earlier
no_more calls later earlier split small =
    let n : length calls ≡ length later + length earlier =
    ap (λ (l : List SlotCall). length l) split ∙ length-append later earlier in
    let none : later ≡ [] = nil_from_length later (omega (arith, n, small)) in
    split ∙ ap (λ (l : List SlotCall). l ++ earlier) none

pub pages_rules : (count : ℕ) (file : Slots) (faults : ℕ) → Rules (pages_of count file faults)
pages_rules count file faults =
    let page : ℕ → PageRead = λ k. page_in k (newest file.first file.calls k) in
    record {
      seen = record {
        counted = count_of page 0 count;
        page = λ k small. subst (LeavesPage file.first file.calls k)
            (sym (page_of page count k small)) (newest_left file.first file.calls k);
      };
      count = λ c is. is.counted ∙ sym (count_of page 0 count);
      counts_now = λ t c le now. record {
        later = [];
        earlier = file.calls;
        split = refl;
        since = le;
        left = now;
      };
      only_now = λ c left. subst (λ l. LeavesImage count file.first l c)
          (sym (no_more file.calls left.later left.earlier left.split left.since)) left.left;
    }
