-- What is kept beside a file of slots through its calls, and which disk rules its pages keep.
use Rattle.std.proofs.Common.{◌≡◌, ◌≢◌, ◌<◌, ◌≤◌, ◌⊎◌, inl, inr, ⊎_elim, ℕ, Bool, true, false, zero, suc, List, [], ◌∷◌, ◌++◌, length, get_or, set, drop, Option, Some, None, refl, sym, ◌∙◌, ap, subst, arith, Result, Ok, Err}
use Rattle.std.proofs.lemmas.List.{length-set, get_or-set_other, get_or-set_same}
use Rattle.std.proofs.lemmas.Bool.{cases_Bool, cases_eq, true≢false}
use Rattle.std.specs.Prelude.{nat_eq, if◌then◌else◌, IfSome, IfOk}
use Rattle.dlms_pages.specs.declared.asking.SlotCall.{SlotCall}
use Rattle.dlms_pages.specs.declared.asking.SlotCall.TheVariants.{Reads as ReadsSlot, Writes as WritesSlot, Syncs as SyncsFile}
use Rattle.dlms_pages.specs.declared.asking.Came.{Came}
use Rattle.dlms_pages.specs.declared.asking.Came.TheVariants.{Slot as Octets, Short, Failed}
use Rattle.dlms_pages.specs.declared.device.DeviceFault.{DeviceFault}
use Rattle.dlms_pages.specs.declared.device.PageRead.{PageRead}
use Rattle.dlms_pages.specs.declared.device.PageRead.TheVariants.{Content, Damaged}
use Rattle.dlms_pages.specs.SlotCalls.{ReadsAs, passed}
use Rattle.dlms_pages.specs.Device.{Image, Goes, Reads, Writes, Rose, page_at}
use Rattle.dlms_pages.specs.File.{FileValue, CountsFaults, GivesPage, IsKeptBeside, IsKeptOf, IsPending, KeepsPage, file_view, pages_of}
use Rattle.dlms_pages.specs.Seal.{slot_of}
use Rattle.dlms_pages.specs.SlotRules.{count_of, page_of}
use Rattle.dlms_pages.specs.Slots.{Slots, Standing, Gives, LeavesImage, newest, page_in, standing}
use Rattle.dlms_pages.proofs.FileDisk.{elapses, one_inner, outcome, page_sealed, seen_after}
use Rattle.dlms_pages.proofs.Reopened.{newest_hit, newest_missed, standing_hit, standing_missed}

-- a synced slot is sure
sure_of : (b : Bool) (s : Standing) (p : Bool) → (s.synced ≡ true → s.sure ≡ true) → (if b then record { synced = false; sure = p } else s).synced ≡ true → (if b then record { synced = false; sure = p } else s).sure ≡ true
sure_of true s p before is = absurd (cc is)
sure_of false s p before is = before is

pub synced_sure : (calls : List SlotCall) (k : ℕ) → (standing calls k).synced ≡ true → (standing calls k).sure ≡ true
synced_sure [] k is = refl
synced_sure (ReadsSlot index came ∷ calls) k is = synced_sure calls k is
synced_sure (WritesSlot index bytes passed ∷ calls) k is = sure_of (nat_eq index k) (standing calls k) passed (synced_sure calls k) is
synced_sure (SyncsFile true ∷ calls) k is = is
synced_sure (SyncsFile false ∷ calls) k is = is

-- ---- whatever comes of a call, it goes as a device's calls do

pub goes : {T F : Type 0} (slots : F → Slots) (old new : FileValue F) (result : Result T DeviceFault) → (slots new.file).keeps ≡ (slots old.file).keeps → length new.unsynced ≡ length old.unsynced → CountsFaults old new result → Goes (file_view slots old) (file_view slots new) result
goes slots old new (Ok x) keeps count faults = record {
  honest = keeps;
  count = count_of _ 0 (length new.unsynced) ∙ count ∙ sym (count_of _ 0 (length old.unsynced));
  later = faults.later;
  fault = tt;
}
goes slots old new (Err e) keeps count faults = record {
  honest = keeps;
  count = count_of _ 0 (length new.unsynced) ∙ count ∙ sym (count_of _ 0 (length old.unsynced));
  later = faults.later;
  fault = subst (λ n. Rose old.faults n) (sym faults.err) (omega arith);
}

-- ---- a read

module _ (count index : ℕ) (file : Slots) (f g : ℕ) (there : index < count) where
  none_inner : (i : ℕ) → i ≤ 0 → (c : Image) → LeavesImage count file.first (drop i [] ++ file.calls) c → LeavesImage count file.first file.calls c ⊎ LeavesImage count file.first ([] ++ file.calls) c
  none_inner zero le c left = inl left
  none_inner (suc i) le c left = absurd (omega (arith, le))

  seen_page : PageRead
  seen_page = page_at (pages_of count file f).seen index

  seen_page_is : page_at (pages_of count file f).seen index ≡ page_in index (newest file.first file.calls index)
  seen_page_is = page_of (λ k. page_in k (newest file.first file.calls k)) count index there

  -- what is pending is given without a call
  pub reads_pending : (bytes : List ℕ) → IsPending file index bytes → Reads index (pages_of count file f) (pages_of count file g) (Ok (Content bytes))
  reads_pending bytes pending = record {
    page = sym (page_sealed index bytes pending.size) ∙ ap (page_in index) (sym pending.newest_is) ∙ sym seen_page_is;
    same = refl;
    crash = λ c left. left;
    time = elapses count file.first file.calls [] none_inner file.keeps f g;
  }

  given : (came : Came) (result : Result PageRead DeviceFault) → (standing file.calls index).sure ≡ true → Gives file index came → ReadsAs index came result → IfOk result (λ page. page ≡ page_at (pages_of count file f).seen index)
  given (Octets bytes) result sure gives is = subst (λ r. IfOk r (λ page. page ≡ page_at (pages_of count file f).seen index)) (sym is) (ap (page_in index) (sym (gives.1 sure)) ∙ sym seen_page_is)
  given Short result sure gives is = subst (λ r. IfOk r (λ page. page ≡ page_at (pages_of count file f).seen index)) (sym is) (ap (page_in index) (sym gives.1) ∙ sym seen_page_is)
  given Failed (Ok page) sure gives is = absurd is
  given Failed (Err e) sure gives is = tt

  pub reads_slot : (came : Came) (result : Result PageRead DeviceFault) → (standing file.calls index).synced ≡ true → Gives file index came → ReadsAs index came result → Reads index (pages_of count file f) (pages_of count (record file { calls = ReadsSlot index came ∷ file.calls }) g) result
  reads_slot came result synced gives is = record {
    page = given came result (synced_sure file.calls index synced) gives is;
    same = refl;
    crash = λ c left. record { counted = left.counted; page = left.page };
    time = elapses count file.first file.calls (ReadsSlot index came ∷ []) (one_inner count file.first file.calls (ReadsSlot index came)) file.keeps f g;
  }

-- ---- a write

module _ (count index : ℕ) (file : Slots) (f g : ℕ) (there : index < count) (content : List ℕ) (size : length content ≡ 512) where
  abbrev slot : List ℕ
  slot = slot_of index content

  abbrev written : Bool → Slots
  written passed = record file { calls = WritesSlot index slot passed ∷ file.calls }

  seen_set : (passed : Bool) → (pages_of count (written passed) g).seen ≡ set (pages_of count file f).seen index (Content content)
  seen_set passed = seen_after file.first file.calls count index slot content passed there (page_sealed index content size)

  pub writes_of : {T : Type 0} (passed : Bool) (result : Result T DeviceFault) → Writes index content (pages_of count file f) (pages_of count (written passed) g) result
  writes_of passed (Ok x) = record {
    written = seen_set passed;
    others = tt;
    crash = λ c left. outcome file.first file.calls count index slot content passed there (page_sealed index content size) c left;
    time = elapses count file.first file.calls (WritesSlot index slot passed ∷ []) (one_inner count file.first file.calls (WritesSlot index slot passed)) file.keeps f g;
  }
  writes_of passed (Err e) = record {
    written = tt;
    others = λ k apart. ap (λ (i : Image). page_at i k) (seen_set passed) ∙ get_or-set_other (pages_of count file f).seen index k (Content content) Damaged apart;
    crash = λ c left. outcome file.first file.calls count index slot content passed there (page_sealed index content size) c left;
    time = elapses count file.first file.calls (WritesSlot index slot passed ∷ []) (one_inner count file.first file.calls (WritesSlot index slot passed)) file.keeps f g;
  }

-- what is kept beside it then
module _ (file : Slots) (unsynced : List (Option (List ℕ))) (index : ℕ) (there : index < length unsynced) (content : List ℕ) (size : length content ≡ 512) (passed : Bool) where
  abbrev slot_new : List ℕ
  slot_new = slot_of index content

  abbrev file_new : Slots
  file_new = record file { calls = WritesSlot index slot_new passed ∷ file.calls }

  kept_other : (k : ℕ) → k ≢ index → (o : Option (List ℕ)) → IsKeptOf file k o → IsKeptOf file_new k o
  kept_other k apart None is = ap (λ (s : Standing). s.synced) (standing_missed index k slot_new passed file.calls apart) ∙ is
  kept_other k apart (Some bytes) is = record { size = is.size; newest_is = newest_missed file.first index k slot_new passed file.calls apart ∙ is.newest_is; torn = inl is.torn }

  pub kept_write : (behind after : Bool) → IsKeptBeside file unsynced behind → (passed ≡ true → after ≡ behind) → (passed ≡ false → after ≡ true) → IsKeptBeside file_new (set unsynced index (Some content)) after
  kept_write behind after kept same fell = record {
    small = subst (λ (n : ℕ). n < 65536) (sym (length-set unsynced index (Some content))) kept.small;
    pages = λ keeps k small. ⊎_elim
        (λ (here : k ≡ index). subst (λ j. IsKeptOf file_new j (get_or (set unsynced index (Some content)) j None)) (sym here)
        (subst (IsKeptOf file_new index) (sym (get_or-set_same unsynced index (Some content) None there))
        (record { size = size; newest_is = newest_hit file.first index index slot_new passed file.calls refl; torn = inr (refl, inr refl) })))
        (λ (apart : k ≢ index). subst (IsKeptOf file_new k) (sym (get_or-set_other unsynced index k (Some content) None apart))
        (kept_other k apart (get_or unsynced k None) (kept.pages keeps k (omega (arith, small, length-set unsynced index (Some content))))))
        (cases_eq k index);
    sure = λ keeps level k small. ⊎_elim
        (λ (is : passed ≡ true).
        let was : behind ≡ false = sym (same is) ∙ level in
        let before = kept.sure keeps was k (omega (arith, small, length-set unsynced index (Some content))) in
        ⊎_elim
        (λ (here : k ≡ index). ap (λ (s : Standing). s.sure) (standing_hit index k slot_new passed file.calls here) ∙ is)
        (λ (apart : k ≢ index). ap (λ (s : Standing). s.sure) (standing_missed index k slot_new passed file.calls apart) ∙ before)
        (cases_eq k index))
        (λ (is : passed ≡ false). absurd (true≢false (sym (fell is) ∙ level)))
        (cases_Bool passed);
  }

-- ---- a call of the device, from what is said of its file

-- of two values that agree
same_view : {F : Type 0} (slots : F → Slots) (old new : FileValue F) → new.unsynced ≡ old.unsynced → (file : Slots) → slots new.file ≡ file → file_view slots new ≡ pages_of (length old.unsynced) file new.faults
same_view slots old new unsynced file is = λ i. pages_of (length (unsynced i)) (is i) new.faults

-- a page that the device has
pub in_pages : {F : Type 0} (slots : F → Slots) (index : ℕ) (value : FileValue F) → index < length (file_view slots value).seen → index < length value.unsynced
in_pages slots index value small = omega (arith, small, count_of (λ k. page_in k (newest (slots value.file).first (slots value.file).calls k)) 0 (length value.unsynced))

module _ {F : Type 0} (slots : F → Slots) (index : ℕ) (old new : FileValue F) (result : Result PageRead DeviceFault) (there : index < length old.unsynced) (gives : GivesPage slots index old new result) where
  -- what was asked, if anything
  asked_of : (o : Option (List ℕ)) → get_or old.unsynced index None ≡ o → (slots new.file).keeps ≡ (slots old.file).keeps
  asked_of None is = (let (came, asks, reads, rules) = gives.slot is in ap (λ (s : Slots). s.keeps) asks)
  asked_of (Some bytes) is =
      let given = subst (λ o. IfSome o (λ bytes. (result ≡ Ok (Content bytes)) × (new.file ≡ old.file))) is gives.page in
      ap (λ (f : F). (slots f).keeps) given.1

  pub read_goes : Goes (file_view slots old) (file_view slots new) result
  read_goes = goes slots old new result (asked_of (get_or old.unsynced index None) refl) (ap (λ (l : List (Option (List ℕ))). length l) gives.unsynced) gives.faults

  module _ (kept : IsKeptBeside (slots old.file) old.unsynced old.behind) (keeps : (slots old.file).keeps ≡ true) where
    reads_of : (o : Option (List ℕ)) → get_or old.unsynced index None ≡ o → IsKeptOf (slots old.file) index o → Reads index (file_view slots old) (file_view slots new) result
    reads_of None is synced =
        let (came, asks, reads, rules) = gives.slot is in
        subst (λ v. Reads index (file_view slots old) v result) (sym (same_view slots old new gives.unsynced _ asks))
        (reads_slot (length old.unsynced) index (slots old.file) old.faults new.faults there came result synced (rules keeps) reads)
    reads_of (Some bytes) is pending =
        let given = subst (λ o. IfSome o (λ bytes. (result ≡ Ok (Content bytes)) × (new.file ≡ old.file))) is gives.page in
        subst (λ v. Reads index (file_view slots old) v result) (sym (same_view slots old new gives.unsynced _ (ap slots given.1)))
        (subst (Reads index (file_view slots old) (pages_of (length old.unsynced) (slots old.file) new.faults)) (sym given.0)
        (reads_pending (length old.unsynced) index (slots old.file) old.faults new.faults there bytes pending))

    pub read_reads : Reads index (file_view slots old) (file_view slots new) result
    read_reads = reads_of (get_or old.unsynced index None) refl (kept.pages keeps index there)

module _ {T F : Type 0} (slots : F → Slots) (index : ℕ) (content : List ℕ) (old new : FileValue F) (result : Result T DeviceFault) (keeps : KeepsPage slots index content old new result) where
  as_long : length new.unsynced ≡ length old.unsynced
  as_long = ap (λ (l : List (Option (List ℕ))). length l) keeps.unsynced ∙ length-set old.unsynced index (Some content)

  pub write_goes : Goes (file_view slots old) (file_view slots new) result
  write_goes = goes slots old new result (ap (λ (s : Slots). s.keeps) keeps.asks) as_long keeps.faults

  pub write_writes : index < length old.unsynced → length content ≡ 512 → Writes index content (file_view slots old) (file_view slots new) result
  write_writes there size =
      let is : file_view slots new ≡ pages_of (length old.unsynced) (record (slots old.file) { calls = WritesSlot index (slot_of index content) (passed result) ∷ (slots old.file).calls }) new.faults = λ i. pages_of (as_long i) (keeps.asks i) new.faults in
      subst (λ v. Writes index content (file_view slots old) v result) (sym is)
      (writes_of (length old.unsynced) index (slots old.file) old.faults new.faults there content size (passed result) result)
