-- A sync of pages in a file: pending content is written again if a call had failed, then the file is synced.
use Rattle.std.proofs.Common.{◌≡◌, ◌≢◌, ◌<◌, ◌≤◌, ◌+◌, ◌⊎◌, inl, inr, ⊎_elim, ℕ, Bool, true, false, zero, suc, List, [], ◌∷◌, ◌++◌, length, get_or, drop, replicate, Option, Some, None, refl, sym, ◌∙◌, ap, subst, arith, append_assoc, Result, Ok, Err}
use Rattle.std.proofs.lemmas.List.{length-replicate, get_or-replicate, reverse-append}
use Rattle.std.proofs.lemmas.Bool.{cases_eq, true≢false}
use Rattle.std.specs.Prelude.{reverse}
use Rattle.dlms_pages.specs.declared.asking.SlotCall.{SlotCall}
use Rattle.dlms_pages.specs.declared.asking.SlotCall.TheVariants.{Reads as ReadsSlot, Writes as WritesSlot, Syncs as SyncsFile}
use Rattle.dlms_pages.specs.declared.device.DeviceFault.{DeviceFault}
use Rattle.dlms_pages.specs.declared.device.PageRead.{PageRead}
use Rattle.dlms_pages.specs.declared.device.PageRead.TheVariants.{Damaged}
use Rattle.dlms_pages.specs.SlotCalls.{Asks, AsksAll, AsksUntilFault, failed, sync_calls, written_again}
use Rattle.dlms_pages.specs.Device.{Image, Goes, Syncs, page_at}
use Rattle.dlms_pages.specs.File.{FileValue, IsKeptBeside, IsKeptOf, IsPending, Settles, file_view, pages_of}
use Rattle.dlms_pages.specs.Seal.{slot_of}
use Rattle.dlms_pages.specs.SlotRules.{count_of, page_of, newest_left, pages_rules}
use Rattle.dlms_pages.specs.Slots.{Slots, Standing, Either, LeavesImage, LeavesPage, newest, page_in, pages_from, standing}
use Rattle.dlms_pages.proofs.FileDisk.{elapses, is_seen}
use Rattle.dlms_pages.proofs.FileKeeping.{goes, synced_sure}
use Rattle.dlms_pages.proofs.Reopened.{newest_hit, newest_missed, standing_hit, standing_missed}

-- ---- calls that write again what is pending, and syncs that fail

abbrev IsQuiet : List (Option (List ℕ)) → SlotCall → Type 0
IsQuiet pages (ReadsSlot index came) = ⊥
IsQuiet pages (WritesSlot index slot passed) = (index < length pages) × ((bytes : List ℕ) × (get_or pages index None ≡ Some bytes) × (slot ≡ slot_of index bytes))
IsQuiet pages (SyncsFile true) = ⊥
IsQuiet pages (SyncsFile false) = Unit {0}

abbrev AreQuiet : List (Option (List ℕ)) → List SlotCall → Type 0
AreQuiet pages [] = Unit {0}
AreQuiet pages (call ∷ calls) = IsQuiet pages call × AreQuiet pages calls

quiet_append : (pages : List (Option (List ℕ))) (xs ys : List SlotCall) → AreQuiet pages xs → AreQuiet pages ys → AreQuiet pages (xs ++ ys)
quiet_append pages [] ys a b = b
quiet_append pages (x ∷ xs) ys a b = (a.0, quiet_append pages xs ys a.1 b)

quiet_front : (pages : List (Option (List ℕ))) (xs ys : List SlotCall) → AreQuiet pages (xs ++ ys) → AreQuiet pages xs
quiet_front pages [] ys a = tt
quiet_front pages (x ∷ xs) ys a = (a.0, quiet_front pages xs ys a.1)

quiet_back : (pages : List (Option (List ℕ))) (xs ys : List SlotCall) → AreQuiet pages (xs ++ ys) → AreQuiet pages ys
quiet_back pages [] ys a = a
quiet_back pages (x ∷ xs) ys a = quiet_back pages xs ys a.1

rev_more : (call : SlotCall) (calls olds : List SlotCall) → reverse (call ∷ calls) ++ olds ≡ reverse calls ++ (call ∷ olds)
rev_more call calls olds = ap (λ (l : List SlotCall). l ++ olds) (reverse-append (call ∷ []) calls) ∙ append_assoc (reverse calls) (call ∷ []) olds

quiet_reverse : (pages : List (Option (List ℕ))) (xs : List SlotCall) → AreQuiet pages xs → AreQuiet pages (reverse xs)
quiet_reverse pages [] a = tt
quiet_reverse pages (x ∷ xs) a = subst (AreQuiet pages) (sym (reverse-append (x ∷ []) xs)) (quiet_append pages (reverse xs) (x ∷ []) (quiet_reverse pages xs a.1) (a.0, tt))

quiet_drop : (pages : List (Option (List ℕ))) (i : ℕ) (xs : List SlotCall) → AreQuiet pages xs → AreQuiet pages (drop i xs)
quiet_drop pages zero xs a = a
quiet_drop pages (suc i) [] a = tt
quiet_drop pages (suc i) (x ∷ xs) a = quiet_drop pages i xs a.1

-- what a sync writes again
again_quiet : (all pages : List (Option (List ℕ))) (from : ℕ) → from + length pages ≤ length all → ((j : ℕ) → j < length pages → get_or all (from + j) None ≡ get_or pages j None) → AreQuiet all (written_again from pages)
again_quiet all [] from fits same = tt
again_quiet all (None ∷ pages) from fits same = again_quiet all pages (from + 1) (omega (arith, fits)) (λ j small. (let next : from + 1 + j ≡ from + suc j = omega arith in ap (λ (n : ℕ). get_or all n None) next ∙ same (suc j) (omega (arith, small))))
again_quiet all (Some bytes ∷ pages) from fits same =
    let here : from ≡ from + 0 = omega arith in (
      (omega (arith, fits), (bytes, ap (λ (n : ℕ). get_or all n None) here ∙ same 0 (omega arith), refl)),
      again_quiet all pages (from + 1) (omega (arith, fits)) (λ j small. (let next : from + 1 + j ≡ from + suc j = omega arith in ap (λ (n : ℕ). get_or all n None) next ∙ same (suc j) (omega (arith, small)))),
    )

pub all_quiet : (pages : List (Option (List ℕ))) → AreQuiet pages (written_again 0 pages)
all_quiet pages = again_quiet pages pages 0 (omega arith) (λ j small. (let same : 0 + j ≡ j = omega arith in ap (λ (n : ℕ). get_or pages n None) same))

head_is : {x y : SlotCall} {xs ys : List SlotCall} → x ∷ xs ≡ y ∷ ys → x ≡ y
head_is {x} {y} {xs} {ys} e = cc e

tail_is : {x y : SlotCall} {xs ys : List SlotCall} → x ∷ xs ≡ y ∷ ys → xs ≡ ys
tail_is {x} {y} {xs} {ys} e = cc e

some_none : (bytes : List ℕ) → Some bytes ≡ None → ⊥
some_none bytes e = cc e

module _ (file : Slots) (pages : List (Option (List ℕ))) (kept : (k : ℕ) → k < length pages → IsKeptOf file k (get_or pages k None)) where
  -- what is pending at a page
  pending : (k : ℕ) (bytes : List ℕ) → k < length pages → get_or pages k None ≡ Some bytes → IsPending file k bytes
  pending k bytes small is = subst (IsKeptOf file k) is (kept k small)

  abbrev after : List SlotCall → List SlotCall
  after calls = calls ++ file.calls

  -- nothing new may be left of a page
  pub quiet_page : (calls : List SlotCall) → AreQuiet pages calls → (k : ℕ) → k < length pages → (page : PageRead) → LeavesPage file.first (after calls) k page → LeavesPage file.first file.calls k page
  quiet_page [] quiet k small page left = left
  quiet_page (ReadsSlot index came ∷ calls) quiet k small page left = absurd quiet.0
  quiet_page (WritesSlot index slot passed ∷ calls) quiet k small page left = ⊎_elim
      (λ before. quiet_page calls quiet.1 k small page before)
      (λ hits.
      let (bytes, some, made) = quiet.0.1 in
      let some_k : get_or pages k None ≡ Some bytes = subst (λ (j : ℕ). get_or pages j None ≡ Some bytes) hits.0 some in
      let is = pending k bytes small some_k in
      ⊎_elim
      (λ new. subst (LeavesPage file.first file.calls k) (sym (new ∙ ap (λ (s : List ℕ). page_in k (Some s)) made ∙ ap (λ (j : ℕ). page_in k (Some (slot_of j bytes))) hits.0 ∙ ap (page_in k) (sym is.newest_is))) (newest_left file.first file.calls k))
      (λ torn. subst (LeavesPage file.first file.calls k) (sym torn) is.torn)
      hits.1)
      left
  quiet_page (SyncsFile true ∷ calls) quiet k small page left = absurd quiet.0
  quiet_page (SyncsFile false ∷ calls) quiet k small page left = quiet_page calls quiet.1 k small page left

  -- what may be left still may
  pub still_left : (calls : List SlotCall) → AreQuiet pages calls → (k : ℕ) (page : PageRead) → LeavesPage file.first file.calls k page → LeavesPage file.first (after calls) k page
  still_left [] quiet k page left = left
  still_left (ReadsSlot index came ∷ calls) quiet k page left = absurd quiet.0
  still_left (WritesSlot index slot passed ∷ calls) quiet k page left = inl (still_left calls quiet.1 k page left)
  still_left (SyncsFile true ∷ calls) quiet k page left = absurd quiet.0
  still_left (SyncsFile false ∷ calls) quiet k page left = still_left calls quiet.1 k page left

  -- reads give the same
  pub quiet_newest : (calls : List SlotCall) → AreQuiet pages calls → (k : ℕ) → k < length pages → newest file.first (after calls) k ≡ newest file.first file.calls k
  quiet_newest [] quiet k small = refl
  quiet_newest (ReadsSlot index came ∷ calls) quiet k small = absurd quiet.0
  quiet_newest (WritesSlot index slot passed ∷ calls) quiet k small = ⊎_elim
      (λ (here : k ≡ index).
      let (bytes, some, made) = quiet.0.1 in
      let some_k : get_or pages k None ≡ Some bytes = subst (λ (j : ℕ). get_or pages j None ≡ Some bytes) (sym here) some in
      newest_hit file.first index k slot passed (after calls) here ∙ ap (λ (s : List ℕ). Some s) made ∙ ap (λ (j : ℕ). Some (slot_of j bytes)) (sym here) ∙ sym (pending k bytes small some_k).newest_is)
      (λ (apart : k ≢ index). newest_missed file.first index k slot passed (after calls) apart ∙ quiet_newest calls quiet.1 k small)
      (cases_eq k index)
  quiet_newest (SyncsFile true ∷ calls) quiet k small = absurd quiet.0
  quiet_newest (SyncsFile false ∷ calls) quiet k small = quiet_newest calls quiet.1 k small

  -- what is synced stays so
  pub quiet_synced : (calls : List SlotCall) → AreQuiet pages calls → (k : ℕ) → k < length pages → get_or pages k None ≡ None → (standing (after calls) k).synced ≡ true
  quiet_synced [] quiet k small none = subst (IsKeptOf file k) none (kept k small)
  quiet_synced (ReadsSlot index came ∷ calls) quiet k small none = absurd quiet.0
  quiet_synced (WritesSlot index slot passed ∷ calls) quiet k small none = ⊎_elim
      (λ (here : k ≡ index).
      let (bytes, some, made) = quiet.0.1 in
      absurd (some_none bytes (sym (subst (λ (j : ℕ). get_or pages j None ≡ Some bytes) (sym here) some) ∙ none)))
      (λ (apart : k ≢ index). ap (λ (s : Standing). s.synced) (standing_missed index k slot passed (after calls) apart) ∙ quiet_synced calls quiet.1 k small none)
      (cases_eq k index)
  quiet_synced (SyncsFile true ∷ calls) quiet k small none = absurd quiet.0
  quiet_synced (SyncsFile false ∷ calls) quiet k small none = quiet_synced calls quiet.1 k small none

  -- of a whole image
  pub quiet_image : (calls : List SlotCall) → AreQuiet pages calls → (c : Image) → LeavesImage (length pages) file.first (after calls) c → LeavesImage (length pages) file.first file.calls c
  quiet_image calls quiet c left = record { counted = left.counted; page = λ k small. quiet_page calls quiet k small (page_at c k) (left.page k small) }

  -- what is kept, after them
  pub quiet_kept : (calls : List SlotCall) → AreQuiet pages calls → (k : ℕ) → k < length pages → (o : Option (List ℕ)) → get_or pages k None ≡ o → IsKeptOf (record file { calls = after calls }) k o
  quiet_kept calls quiet k small None is = quiet_synced calls quiet k small is
  quiet_kept calls quiet k small (Some bytes) is =
      let was = pending k bytes small is in
      record { size = was.size; newest_is = quiet_newest calls quiet k small ∙ was.newest_is; torn = still_left calls quiet k Damaged was.torn }

-- ---- all that is pending, written again

-- writes of later slots
later_ones : (pages : List (Option (List ℕ))) (from : ℕ) (calls : List SlotCall) (k : ℕ) → k < from → standing (reverse (written_again from pages) ++ calls) k ≡ standing calls k
later_ones [] from calls k small = refl
later_ones (None ∷ pages) from calls k small = later_ones pages (from + 1) calls k (omega (arith, small))
later_ones (Some bytes ∷ pages) from calls k small =
    let call = WritesSlot from (slot_of from bytes) true in
    ap (λ (l : List SlotCall). standing l k) (rev_more call (written_again (from + 1) pages) calls)
    ∙ later_ones pages (from + 1) (call ∷ calls) k (omega (arith, small))
    ∙ standing_missed from k (slot_of from bytes) true calls (λ e. absurd (omega (arith, small, e)))

pub again_sure : (pages : List (Option (List ℕ))) (from : ℕ) (calls : List SlotCall) (j : ℕ) (bytes : List ℕ) → j < length pages → get_or pages j None ≡ Some bytes → (standing (reverse (written_again from pages) ++ calls) (from + j)).sure ≡ true
again_sure [] from calls j bytes small is = absurd (omega (arith, small))
again_sure (None ∷ pages) from calls zero bytes small is = absurd (some_none bytes (sym is))
again_sure (None ∷ pages) from calls (suc j) bytes small is =
    let next : from + suc j ≡ from + 1 + j = omega arith in
    ap (λ (n : ℕ). (standing (reverse (written_again (from + 1) pages) ++ calls) n).sure) next ∙ again_sure pages (from + 1) calls j bytes (omega (arith, small)) is
again_sure (Some first ∷ pages) from calls zero bytes small is =
    let call = WritesSlot from (slot_of from first) true in
    let here : from + 0 ≡ from = omega arith in
    ap (λ (l : List SlotCall). (standing l (from + 0)).sure) (rev_more call (written_again (from + 1) pages) calls)
    ∙ ap (λ (s : Standing). s.sure) (later_ones pages (from + 1) (call ∷ calls) (from + 0) (omega arith))
    ∙ ap (λ (s : Standing). s.sure) (standing_hit from (from + 0) (slot_of from first) true calls here)
again_sure (Some first ∷ pages) from calls (suc j) bytes small is =
    let call = WritesSlot from (slot_of from first) true in
    let next : from + suc j ≡ from + 1 + j = omega arith in
    ap (λ (l : List SlotCall). (standing l (from + suc j)).sure) (rev_more call (written_again (from + 1) pages) calls)
    ∙ ap (λ (n : ℕ). (standing (reverse (written_again (from + 1) pages) ++ (call ∷ calls)) n).sure) next
    ∙ again_sure pages (from + 1) (call ∷ calls) j bytes (omega (arith, small)) is

-- ---- a sync

pub any_sure : (file : Slots) (pages : List (Option (List ℕ))) → ((k : ℕ) → k < length pages → IsKeptOf file k (get_or pages k None)) → (k : ℕ) → k < length pages → (o : Option (List ℕ)) → get_or pages k None ≡ o → (standing (reverse (written_again 0 pages) ++ file.calls) k).sure ≡ true
any_sure file pages kept k small None is =
    synced_sure (reverse (written_again 0 pages) ++ file.calls) k (quiet_synced file pages kept (reverse (written_again 0 pages)) (quiet_reverse pages (written_again 0 pages) (all_quiet pages)) k small is)
any_sure file pages kept k small (Some bytes) is =
    let here : k ≡ 0 + k = omega arith in
    ap (λ (n : ℕ). (standing (reverse (written_again 0 pages) ++ file.calls) n).sure) here ∙ again_sure pages 0 file.calls k bytes small is

-- what is written again, the newest first
abbrev again : Bool → List (Option (List ℕ)) → List SlotCall
again true pages = reverse (written_again 0 pages)
again false pages = []

again_is : (behind : Bool) (pages : List (Option (List ℕ))) (olds : List SlotCall) → reverse (sync_calls behind pages) ++ olds ≡ SyncsFile true ∷ (again behind pages ++ olds)
again_is true pages olds = ap (λ (l : List SlotCall). l ++ olds) (reverse-append (written_again 0 pages) (SyncsFile true ∷ []))
again_is false pages olds = refl

again_is_quiet : (behind : Bool) (pages : List (Option (List ℕ))) → AreQuiet pages (again behind pages)
again_is_quiet true pages = quiet_reverse pages (written_again 0 pages) (all_quiet pages)
again_is_quiet false pages = tt

all_sure : (file : Slots) (pages : List (Option (List ℕ))) (behind : Bool) → IsKeptBeside file pages behind → file.keeps ≡ true → (k : ℕ) → k < length pages → (standing (again behind pages ++ file.calls) k).sure ≡ true
all_sure file pages true kept keeps k small = any_sure file pages (kept.pages keeps) k small (get_or pages k None) refl
all_sure file pages false kept keeps k small = kept.sure keeps refl k small

module _ (file : Slots) (pages : List (Option (List ℕ))) (behind : Bool) (kept : IsKeptBeside file pages behind) (keeps : file.keeps ≡ true) where
  abbrev mid : List SlotCall
  mid = again behind pages ++ file.calls

  abbrev quiet : AreQuiet pages (again behind pages)
  quiet = again_is_quiet behind pages

  abbrev view_before : ℕ → Image
  view_before f = (pages_of (length pages) file f).seen

  synced_page : (k : ℕ) → k < length pages → (page : PageRead) → LeavesPage file.first (SyncsFile true ∷ mid) k page → page ≡ page_in k (newest file.first file.calls k)
  synced_page k small page left =
      subst (λ b. Either b (page ≡ page_in k (newest file.first mid k)) (LeavesPage file.first mid k page)) (all_sure file pages behind kept keeps k small) left
      ∙ ap (page_in k) (quiet_newest file pages (kept.pages keeps) (again behind pages) quiet k small)

  synced_only : (f : ℕ) (c : Image) → LeavesImage (length pages) file.first (SyncsFile true ∷ mid) c → c ≡ view_before f
  synced_only f c left = is_seen file.first file.calls (length pages) c left.counted (λ k small. synced_page k small (page_at c k) (left.page k small))

  synced_seen : (f g : ℕ) → (pages_of (length pages) (record file { calls = SyncsFile true ∷ mid }) g).seen ≡ view_before f
  synced_seen f g =
      let now : ℕ → PageRead = λ k. page_in k (newest file.first mid k) in
      is_seen file.first file.calls (length pages) (pages_from now 0 (length pages)) (count_of now 0 (length pages)) (λ k small. page_of now (length pages) k small ∙ ap (page_in k) (quiet_newest file pages (kept.pages keeps) (again behind pages) quiet k small))

  inner_passed : (i : ℕ) → i ≤ length (SyncsFile true ∷ again behind pages) → (c : Image) → LeavesImage (length pages) file.first (drop i (SyncsFile true ∷ again behind pages) ++ file.calls) c → LeavesImage (length pages) file.first file.calls c ⊎ LeavesImage (length pages) file.first ((SyncsFile true ∷ again behind pages) ++ file.calls) c
  inner_passed zero le c left = inr left
  inner_passed (suc i) le c left = inl (quiet_image file pages (kept.pages keeps) (drop i (again behind pages)) (quiet_drop pages i (again behind pages) quiet) c left)

  pub passed_syncs : {T : Type 0} (f g : ℕ) (x : T) → Syncs {T = T} (pages_of (length pages) file f) (pages_of (length pages) (record file { calls = SyncsFile true ∷ mid }) g) (Ok x)
  passed_syncs f g x = record {
    durable = λ c left. synced_only f c left;
    same = synced_seen f g;
    crash = λ c left. subst (LeavesImage (length pages) file.first file.calls) (sym (synced_only f c left)) (pages_rules (length pages) file f).seen;
    time = elapses (length pages) file.first file.calls (SyncsFile true ∷ again behind pages) inner_passed file.keeps f g;
  }

  -- up to a fault, with calls that are quiet
  module _ (calls : List SlotCall) (are : AreQuiet pages calls) where
    inner_failed : (i : ℕ) → i ≤ length calls → (c : Image) → LeavesImage (length pages) file.first (drop i calls ++ file.calls) c → LeavesImage (length pages) file.first file.calls c ⊎ LeavesImage (length pages) file.first (calls ++ file.calls) c
    inner_failed i le c left = inl (quiet_image file pages (kept.pages keeps) (drop i calls) (quiet_drop pages i calls are) c left)

    pub failed_syncs : {T : Type 0} (f g : ℕ) (e : DeviceFault) → Syncs {T = T} (pages_of (length pages) file f) (pages_of (length pages) (record file { calls = calls ++ file.calls }) g) (Err e)
    failed_syncs f g e = record {
      durable = tt;
      same = tt;
      crash = λ c left. quiet_image file pages (kept.pages keeps) calls are c left;
      time = elapses (length pages) file.first file.calls calls inner_failed file.keeps f g;
    }

-- ---- the calls of one that failed

failed_quiet : (pages : List (Option (List ℕ))) (call : SlotCall) → IsQuiet pages call → IsQuiet pages (failed call)
failed_quiet pages (ReadsSlot index came) is = is
failed_quiet pages (WritesSlot index slot passed) is = is
failed_quiet pages (SyncsFile true) is = absurd is
failed_quiet pages (SyncsFile false) is = tt

-- a fault among quiet calls, or of the sync after them
fault_quiet : (pages : List (Option (List ℕ))) (ws front : List SlotCall) (call : SlotCall) (rest : List SlotCall) → AreQuiet pages ws → ws ++ SyncsFile true ∷ [] ≡ front ++ call ∷ rest → AreQuiet pages (front ++ failed call ∷ [])
fault_quiet pages [] [] call rest quiet split = (subst (λ c. IsQuiet pages (failed c)) (head_is split) tt, tt)
fault_quiet pages [] (x ∷ []) call rest quiet split = absurd (cc split)
fault_quiet pages [] (x ∷ y ∷ front) call rest quiet split = absurd (cc split)
fault_quiet pages (w ∷ ws) [] call rest quiet split = (subst (λ c. IsQuiet pages (failed c)) (head_is split) (failed_quiet pages w quiet.0), tt)
fault_quiet pages (w ∷ ws) (x ∷ front) call rest quiet split = (subst (IsQuiet pages) (head_is split) quiet.0, fault_quiet pages ws front call rest quiet.1 (tail_is split))

module _ (file new : Slots) (pages : List (Option (List ℕ))) (behind : Bool) (kept : IsKeptBeside file pages behind) where
  -- all of it passed
  module _ (asks : Asks file new (sync_calls behind pages)) where
    pub passed_is : new ≡ record file { calls = SyncsFile true ∷ (again behind pages ++ file.calls) }
    passed_is = asks ∙ ap (λ (l : List SlotCall). record file { calls = l }) (again_is behind pages file.calls)

    none_kept : (forgotten : List (Option (List ℕ))) → forgotten ≡ replicate (length pages) None → IsKeptBeside (record file { calls = SyncsFile true ∷ (again behind pages ++ file.calls) }) forgotten false
    none_kept forgotten is =
        let long : length forgotten ≡ length pages = ap (λ (l : List (Option (List ℕ))). length l) is ∙ length-replicate (length pages) None in
        record {
          small = subst (λ (n : ℕ). n < 65536) (sym long) kept.small;
          pages = λ keeps k small.
              let there : k < length pages = omega (arith, small, long) in
              subst (IsKeptOf (record file { calls = SyncsFile true ∷ (again behind pages ++ file.calls) }) k) (sym (ap (λ (l : List (Option (List ℕ))). get_or l k None) is ∙ get_or-replicate (length pages) k None None there))
              (all_sure file pages behind kept keeps k there);
          sure = λ keeps level k small. all_sure file pages behind kept keeps k (omega (arith, small, long));
        }

    pub kept_synced : (forgotten : List (Option (List ℕ))) → forgotten ≡ replicate (length pages) None → IsKeptBeside new forgotten false
    kept_synced forgotten is = subst (λ s. IsKeptBeside s forgotten false) (sym passed_is) (none_kept forgotten is)

  -- up to a fault
  module _ (until : AsksUntilFault file new (sync_calls behind pages)) where
    abbrev asked : List SlotCall
    asked = until.front ++ failed until.call ∷ []

    asked_quiet : AreQuiet pages asked
    asked_quiet = fault_of behind until.split where
      fault_of : (b : Bool) → sync_calls b pages ≡ until.front ++ until.call ∷ until.rest → AreQuiet pages asked
      fault_of true split = fault_quiet pages (written_again 0 pages) until.front until.call until.rest (all_quiet pages) split
      fault_of false split = fault_quiet pages [] until.front until.call until.rest tt split

    pub newest_quiet : AreQuiet pages (reverse asked)
    newest_quiet = quiet_reverse pages asked asked_quiet

    pub kept_failed : IsKeptBeside new pages true
    kept_failed = subst (λ s. IsKeptBeside s pages true) (sym until.asked) (record {
      small = kept.small;
      pages = λ keeps k small. quiet_kept file pages (kept.pages keeps) (reverse asked) newest_quiet k small (get_or pages k None) refl;
      sure = λ keeps level k small. absurd (true≢false level);
    })

keeps_all : {T E : Type 0} (file new : Slots) (calls : List SlotCall) (result : Result T E) → AsksAll file new calls result → new.keeps ≡ file.keeps
keeps_all file new calls (Ok x) asks = ap (λ (s : Slots). s.keeps) asks
keeps_all file new calls (Err e) until = ap (λ (s : Slots). s.keeps) until.asked

module _ {T F : Type 0} (slots : F → Slots) (old new : FileValue F) where
  as_many : (result : Result T DeviceFault) → Settles slots old new result → length new.unsynced ≡ length old.unsynced
  as_many (Ok x) settles = ap (λ (l : List (Option (List ℕ))). length l) settles.forgotten ∙ length-replicate (length old.unsynced) None
  as_many (Err e) settles = ap (λ (l : List (Option (List ℕ))). length l) settles.unsynced

  pub sync_goes : (result : Result T DeviceFault) → Settles slots old new result → Goes (file_view slots old) (file_view slots new) result
  sync_goes result settles = goes slots old new result (keeps_all (slots old.file) (slots new.file) (sync_calls old.behind old.unsynced) result settles.asks) (as_many result settles) settles.faults

  pub sync_syncs : (result : Result T DeviceFault) → Settles slots old new result → IsKeptBeside (slots old.file) old.unsynced old.behind → (slots old.file).keeps ≡ true → Syncs (file_view slots old) (file_view slots new) result
  sync_syncs (Ok x) settles kept keeps =
      let is : file_view slots new ≡ pages_of (length old.unsynced) (record (slots old.file) { calls = SyncsFile true ∷ (again old.behind old.unsynced ++ (slots old.file).calls) }) new.faults
      = λ i. pages_of (as_many (Ok x) settles i) (passed_is (slots old.file) (slots new.file) old.unsynced old.behind kept settles.asks i) new.faults in
      subst (λ v. Syncs {T = T} (file_view slots old) v (Ok x)) (sym is) (passed_syncs (slots old.file) old.unsynced old.behind kept keeps old.faults new.faults x)
  sync_syncs (Err e) settles kept keeps =
      let until = settles.asks in
      let is : file_view slots new ≡ pages_of (length old.unsynced) (record (slots old.file) { calls = reverse (until.front ++ failed until.call ∷ []) ++ (slots old.file).calls }) new.faults
      = λ i. pages_of (as_many (Err e) settles i) (until.asked i) new.faults in
      subst (λ v. Syncs {T = T} (file_view slots old) v (Err e)) (sym is)
      (failed_syncs (slots old.file) old.unsynced old.behind kept keeps (reverse (until.front ++ failed until.call ∷ [])) (newest_quiet (slots old.file) (slots new.file) old.unsynced old.behind kept until) old.faults new.faults e)
