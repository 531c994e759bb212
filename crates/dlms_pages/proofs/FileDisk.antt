-- How a call of a file of slots changes its pages.
use Rattle.std.proofs.Common.{◌≡◌, ◌≢◌, ◌<◌, ◌≤◌, ◌+◌, ◌⊎◌, inl, inr, ⊎_elim, ℕ, Bool, true, false, zero, suc, List, [], ◌∷◌, ◌++◌, length, get_or, set, take, drop, Some, refl, sym, ◌∙◌, ap, subst, arith, append_assoc}
use Rattle.std.proofs.lemmas.List.{length-append, length-set, get_or-set_other, get_or-set_same, ext_get_or, drop_at, drop_all, drop-append-le, length-take-le, take_at}
use Rattle.std.proofs.lemmas.Bool.{cases_Bool, cases_eq, cases_lt, eq-eqb, eqb-true, and_parts, and_from}
use Rattle.std.specs.Prelude.{nat_eq, if◌then◌else◌}
use Rattle.dlms_pages.specs.declared.asking.SlotCall.{SlotCall}
use Rattle.dlms_pages.specs.declared.asking.SlotCall.TheVariants.{Writes}
use Rattle.dlms_pages.specs.declared.device.PageRead.{PageRead}
use Rattle.dlms_pages.specs.declared.device.PageRead.TheVariants.{Content, Damaged}
use Rattle.dlms_pages.specs.Device.{Image, Elapses, Outcome, page_at}
use Rattle.dlms_pages.specs.Device.Outcome.{Old, New, Torn}
use Rattle.dlms_pages.specs.File.{pages_of}
use Rattle.dlms_pages.specs.Seal.{slot_of, ReadsSlot}
use Rattle.dlms_pages.specs.SlotRules.{count_of, page_of, newest_left}
use Rattle.dlms_pages.specs.Slots.{Slot, LeavesImage, LeavesPage, LeftSince, newest, page_in, pages_from, same_octets}
use Rattle.dlms_pages.proofs.Calls.{put_back}
use Rattle.dlms_pages.proofs.Reopened.{newest_hit, newest_missed}
use Rattle.dlms_pages.proofs.Slots.{content_of_slot}

-- ---- what stands in a slot

pub octets_same : (xs : List ℕ) → same_octets xs xs ≡ true
octets_same [] = refl
octets_same (x ∷ xs) = and_from (nat_eq x x) (same_octets xs xs) (eq-eqb x x refl) (octets_same xs)

pub same_from_octets : (xs ys : List ℕ) → same_octets xs ys ≡ true → xs ≡ ys
same_from_octets [] [] is = refl
same_from_octets [] (y ∷ ys) is = absurd (cc is)
same_from_octets (x ∷ xs) [] is = absurd (cc is)
same_from_octets (x ∷ xs) (y ∷ ys) is =
    let both = and_parts (nat_eq x y) (same_octets xs ys) is in
    (λ i. eqb-true x y both.0 i ∷ same_from_octets xs ys both.1 i)

pub page_sealed : (k : ℕ) (content : List ℕ) → length content ≡ 512 → page_in k (Some (slot_of k content)) ≡ Content content
page_sealed k content size =
    let is = take_at content _ 512 size in
    ap (λ (front : List ℕ). if same_octets (slot_of k content) (slot_of k front) then Content front else Damaged) is
    ∙ ap (λ (b : Bool). if b then Content content else Damaged) (octets_same (slot_of k content))

page_unsealed : (k : ℕ) (slot : List ℕ) → ((content : List ℕ) → slot ≡ slot_of k content → ⊥) → page_in k (Some slot) ≡ Damaged
page_unsealed k slot none = ⊎_elim
    (λ (is : same_octets slot (slot_of k (take 512 slot)) ≡ true). absurd (none (take 512 slot) (same_from_octets slot (slot_of k (take 512 slot)) is)))
    (λ (is : same_octets slot (slot_of k (take 512 slot)) ≡ false). ap (λ (b : Bool). if b then Content (take 512 slot) else Damaged) is)
    (cases_Bool (same_octets slot (slot_of k (take 512 slot))))

length_front : (slot : List ℕ) → length slot ≡ 544 → length (take 512 slot) ≡ 512
length_front slot size = length-take-le 512 slot (omega (arith, size))

pub page_read : (k : ℕ) (slot : List ℕ) (page : PageRead) → length slot ≡ 544 → ReadsSlot k slot page → page ≡ page_in k (Some slot)
page_read k slot (Content content) size is =
    let parts = content_of_slot k content slot size is in
    let n : length content ≡ 512 = ap (λ (l : List ℕ). length l) (sym parts.0) ∙ length_front slot size in
    sym (ap (λ (s : List ℕ). page_in k (Some s)) is ∙ page_sealed k content n)
page_read k slot Damaged size is = sym (page_unsealed k slot is)

-- ---- so many pages, of slots

abbrev pages : List Slot → List SlotCall → ℕ → Image
pages first calls count = pages_from (λ k. page_in k (newest first calls k)) 0 count

place : (first : List Slot) (calls : List SlotCall) (count k : ℕ) → k < count → page_at (pages first calls count) k ≡ page_in k (newest first calls k)
place first calls count k small = page_of (λ k. page_in k (newest first calls k)) count k small

counted : (first : List Slot) (calls : List SlotCall) (count : ℕ) → length (pages first calls count) ≡ count
counted first calls count = count_of (λ k. page_in k (newest first calls k)) 0 count

-- an image that has each page as reads give it
pub is_seen : (first : List Slot) (calls : List SlotCall) (count : ℕ) (image : Image) → length image ≡ count → ((k : ℕ) → k < count → page_at image k ≡ page_in k (newest first calls k)) → image ≡ pages first calls count
is_seen first calls count image size each =
    ext_get_or Damaged image (pages first calls count) (size ∙ sym (counted first calls count)) (λ k small.
    let there : k < count = omega (arith, small, size) in
    each k there ∙ sym (place first calls count k there))

-- ---- a write

module _ (first : List Slot) (calls : List SlotCall) (count index : ℕ) (bytes content : List ℕ) (passed : Bool) (there : index < count) (is : page_in index (Some bytes) ≡ Content content) where
  abbrev after : List SlotCall
  after = Writes index bytes passed ∷ calls

  pub seen_after : pages first after count ≡ set (pages first calls count) index (Content content)
  seen_after = sym (is_seen first after count (set (pages first calls count) index (Content content)) (length-set (pages first calls count) index (Content content) ∙ counted first calls count) (λ k small. ⊎_elim
      (λ (same : k ≡ index).
      ap (λ (j : ℕ). get_or (set (pages first calls count) index (Content content)) j Damaged) same
      ∙ get_or-set_same (pages first calls count) index (Content content) Damaged (omega (arith, there, counted first calls count))
      ∙ sym is ∙ ap (λ (j : ℕ). page_in j (Some bytes)) (sym same)
      ∙ ap (page_in k) (sym (newest_hit first index k bytes passed calls same)))
      (λ (apart : k ≢ index).
      get_or-set_other (pages first calls count) index k (Content content) Damaged apart ∙ place first calls count k small
      ∙ ap (page_in k) (sym (newest_missed first index k bytes passed calls apart)))
      (cases_eq k index)))

  module _ (c : Image) (left : LeavesImage count first after c) where
    other : (k : ℕ) → k < count → k ≢ index → LeavesPage first calls k (get_or c k Damaged)
    other k small apart = ⊎_elim (λ before. before) (λ hits. absurd (apart (sym hits.0))) (left.page k small)

    same_page : LeavesPage first calls index (get_or c index Damaged) → LeavesImage count first calls c
    same_page here = record {
      counted = left.counted;
      page = λ k small. ⊎_elim (λ (same : k ≡ index). subst (λ j. LeavesPage first calls j (get_or c j Damaged)) (sym same) here) (λ (apart : k ≢ index). other k small apart) (cases_eq k index);
    }

    -- the image with the page as it was
    abbrev before : Image
    before = set c index (page_in index (newest first calls index))

    was : LeavesImage count first calls before
    was = record {
      counted = length-set c index (page_in index (newest first calls index)) ∙ left.counted;
      page = λ k small. ⊎_elim
          (λ (same : k ≡ index). subst (λ j. LeavesPage first calls j (get_or before j Damaged)) (sym same)
          (subst (LeavesPage first calls index) (sym (get_or-set_same c index (page_in index (newest first calls index)) Damaged (omega (arith, there, left.counted)))) (newest_left first calls index)))
          (λ (apart : k ≢ index). subst (LeavesPage first calls k) (sym (get_or-set_other c index k (page_in index (newest first calls index)) Damaged apart)) (other k small apart))
          (cases_eq k index);
    }

    pub outcome : Outcome index content (LeavesImage count first calls) c
    outcome = ⊎_elim
        (λ old. Old (same_page old))
        (λ hits. ⊎_elim
        (λ new. New before was (sym (put_back c index (page_in index (newest first calls index)) (Content content) (new ∙ is))))
        (λ torn. Torn before was (sym (put_back c index (page_in index (newest first calls index)) Damaged torn)))
        hits.1)
        (left.page index there)

-- ---- time goes on

module _ (count : ℕ) (first : List Slot) (olds more : List SlotCall) (inner : (i : ℕ) → i ≤ length more → (c : Image) → LeavesImage count first (drop i more ++ olds) c → LeavesImage count first olds c ⊎ LeavesImage count first (more ++ olds) c) where
  -- a moment since the first of these calls
  within : (later earlier : List SlotCall) → more ++ olds ≡ later ++ earlier → length olds ≤ length earlier → earlier ≡ drop (length later) more ++ olds
  within later earlier split long =
      let n : length more + length olds ≡ length later + length earlier = sym (length-append more olds) ∙ ap (λ (l : List SlotCall). length l) split ∙ length-append later earlier in
      sym (drop_at later earlier (length later) refl) ∙ ap (drop (length later)) (sym split) ∙ drop-append-le (length later) more olds (omega (arith, n, long))

  -- a moment before them
  before_them : (later earlier : List SlotCall) → more ++ olds ≡ later ++ earlier → length earlier ≤ length olds → olds ≡ drop (length more) later ++ earlier
  before_them later earlier split short =
      let n : length more + length olds ≡ length later + length earlier = sym (length-append more olds) ∙ ap (λ (l : List SlotCall). length l) split ∙ length-append later earlier in
      sym (drop_at more olds (length more) refl) ∙ ap (drop (length more)) split ∙ drop-append-le (length more) later earlier (omega (arith, n, short))

  nothing_else : (t : ℕ) (c : Image) → t ≤ length olds → LeftSince count first (more ++ olds) t c → LeftSince count first olds t c ⊎ LeavesImage count first (more ++ olds) c
  nothing_else t c le left = ⊎_elim
      (λ (short : length left.earlier < length olds). inl (record { later = drop (length more) left.later; earlier = left.earlier; split = before_them left.later left.earlier left.split (omega (arith, short)); since = left.since; left = left.left }))
      (λ (long : length olds ≤ length left.earlier).
      let n : length more + length olds ≡ length left.later + length left.earlier = sym (length-append more olds) ∙ ap (λ (l : List SlotCall). length l) left.split ∙ length-append left.later left.earlier in
      ⊎_elim
      (λ old. inl (record { later = []; earlier = olds; split = refl; since = le; left = old }))
      (λ new. inr new)
      (inner (length left.later) (omega (arith, n, long)) c (subst (λ l. LeavesImage count first l c) (within left.later left.earlier left.split long) left.left)))
      (cases_lt (length left.earlier) (length olds))

  pub elapses : (keeps : Bool) (f g : ℕ) → Elapses (pages_of count (record { keeps = keeps; first = first; calls = olds }) f) (pages_of count (record { keeps = keeps; first = first; calls = more ++ olds }) g)
  elapses keeps f g = record {
    later = omega (arith, length-append more olds);
    nothing_else = nothing_else;
    keeps = λ t c le left. record { later = more ++ left.later; earlier = left.earlier; split = ap (λ (l : List SlotCall). more ++ l) left.split ∙ sym (append_assoc more left.later left.earlier); since = left.since; left = left.left };
  }

-- one call
pub one_inner : (count : ℕ) (first : List Slot) (olds : List SlotCall) (call : SlotCall) → (i : ℕ) → i ≤ 1 → (c : Image) → LeavesImage count first (drop i (call ∷ []) ++ olds) c → LeavesImage count first olds c ⊎ LeavesImage count first ((call ∷ []) ++ olds) c
one_inner count first olds call zero le c left = inr left
one_inner count first olds call (suc i) le c left = inl (subst (λ l. LeavesImage count first (l ++ olds) c) (drop_all i [] (omega arith)) left)
