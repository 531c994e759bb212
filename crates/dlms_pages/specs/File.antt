-- The facts known about pages in a file: those about the file of slots, the content written since the last sync, and how often a
-- call failed. Pages in a file keep the disk rules if the file keeps those of slots.
use Rattle.std.specs.Prelude.{◌≡◌, ◌<◌, ◌≤◌, ◌+◌, ◌-◌, ◌^◌, min, ℕ, Bool, true, false, List, [], ◌∷◌, length, Option, Some, None, IfSome, Result, Ok, OnOk, OnErr, replicate, slice_index_or, slice_set}
use Rattle.dlms_pages.specs.SlotCalls.{Asks, AsksAll, ReadsAs, passed, sync_calls}
use Rattle.dlms_pages.specs.declared.asking.SlotCall.TheVariants.{Reads, Writes}
use Rattle.dlms_pages.specs.declared.asking.Came.{Came}
use Rattle.dlms_pages.specs.Device.{View}
use Rattle.dlms_pages.specs.Seal.{slot_of}
use Rattle.dlms_pages.specs.Slots.{Slots, Gives, LeavesImage, LeavesPage, LeftSince, newest, page_in, pages_from, standing}
use Rattle.dlms_pages.specs.declared.device.PageRead.{PageRead}
use Rattle.dlms_pages.specs.declared.device.DeviceFault.{DeviceFault}
use Rattle.dlms_pages.specs.declared.device.PageRead.TheVariants.{Content, Damaged}

pub record FileValue (F : Type 0) : Type 0 where
  pub file : F
  -- for each page, the content that was written since the last sync that succeeded
  pub unsynced : List (Option (List ℕ))
  -- whether a write or a sync has failed since
  pub behind : Bool
  pub faults : ℕ

-- this many pages, nothing written, no fault
pub record IsFresh {F : Type 0} (count : ℕ) (value : FileValue F) : Type 0 where
  pub unsynced : value.unsynced ≡ replicate count None
  pub behind : value.behind ≡ false
  pub faults : value.faults ≡ 0

-- The pages of a file of slots: they keep the disk rules if the file keeps its own, and a moment is a number of its calls.
abbrev pub pages_of : ℕ → Slots → ℕ → View
pages_of count file faults = record {
  honest = file.keeps;
  seen = pages_from (λ k. page_in k (newest file.first file.calls k)) 0 count;
  may_leave = LeavesImage count file.first file.calls;
  moment = length file.calls;
  left_since = LeftSince count file.first file.calls;
  faults = faults;
}

abbrev pub file_view : {F : Type 0} → (F → Slots) → FileValue F → View
file_view slots value = pages_of (length value.unsynced) (slots value.file) value.faults

-- a page that was written and is not synced: the newest write of its slot was of this content, and a stop may tear it
pub record IsPending (file : Slots) (k : ℕ) (bytes : List ℕ) : Type 0 where
  pub size : length bytes ≡ 512
  pub newest_is : newest file.first file.calls k ≡ Some (slot_of k bytes)
  pub torn : LeavesPage file.first file.calls k Damaged

-- of a page that is not pending the slot is synced
abbrev pub IsKeptOf : Slots → ℕ → Option (List ℕ) → Type 0
IsKeptOf file k None = (standing file.calls k).synced ≡ true
IsKeptOf file k (Some bytes) = IsPending file k bytes

-- What is kept beside a file: the content that is written and not synced, and whether a call has failed since.
pub record IsKeptBeside (file : Slots) (unsynced : List (Option (List ℕ))) (behind : Bool)
    : Type 0 where
  pub small : length unsynced < 2 ^ 16
  pub pages : file.keeps ≡ true → (k : ℕ) → k < length unsynced
      → IsKeptOf file k (slice_index_or unsynced k None)
  pub sure : file.keeps ≡ true → behind ≡ false → (k : ℕ) → k < length unsynced
      → (standing file.calls k).sure ≡ true

-- one more fault: at the greatest number the count stays
abbrev pub faults_after : ℕ → ℕ
faults_after faults = min (faults + 1) (2 ^ 64 - 1)

-- Each fault that is answered is counted, and no other.
pub record CountsFaults {F T : Type 0} (old new : FileValue F) (result : Result T DeviceFault)
    : Type 0 where
  pub ok : OnOk result (new.faults ≡ old.faults)
  pub err : OnErr result (new.faults ≡ faults_after old.faults)
  pub later : old.faults ≤ new.faults

-- Whatever the file does, a read gives what was written to the page since the last sync, and asks nothing of the file. Where
-- nothing was written since, the page is what its slot says.
pub record GivesPage {F : Type 0} (slots : F
    → Slots) (index : ℕ) (old new : FileValue F)
    (result : Result PageRead DeviceFault) : Type 0 where
  pub page : IfSome (slice_index_or old.unsynced index None) (λ bytes. (result ≡ Ok (Content bytes))
      × (new.file ≡ old.file))
  pub slot : slice_index_or old.unsynced index None ≡ None
      → (came : Came) × Asks (slots old.file) (slots new.file) (Reads index came ∷ [])
      × ReadsAs index came result × ((slots old.file).keeps ≡ true
      → Gives (slots old.file) index came)
  pub unsynced : new.unsynced ≡ old.unsynced
  pub behind : new.behind ≡ old.behind
  pub faults : CountsFaults old new result

-- A write asks for the page's slot to be written. One that fails counts as one, and the next sync makes up for it.
pub record KeepsPage {F T : Type 0} (slots : F
    → Slots) (index : ℕ) (bytes : List ℕ) (old new : FileValue F)
    (result : Result T DeviceFault) : Type 0 where
  pub asks : Asks (slots old.file) (slots new.file)
      (Writes index (slot_of index bytes) (passed result) ∷ [])
  pub unsynced : new.unsynced ≡ slice_set old.unsynced index (Some bytes)
  pub passed : OnOk result (new.behind ≡ old.behind)
  pub failed : OnErr result (new.behind ≡ true)
  pub faults : CountsFaults old new result

-- After a sync that succeeds nothing is unsynced, and the file was asked for all that a sync asks. After one that fails all
-- of it still is, to be written again.
pub record Settles {F T : Type 0} (slots : F
    → Slots) (old new : FileValue F) (result : Result T DeviceFault) : Type 0 where
  pub asks : AsksAll (slots old.file) (slots new.file) (sync_calls old.behind old.unsynced) result
  pub forgotten : OnOk result (new.unsynced ≡ replicate (length old.unsynced) None)
  pub passed : OnOk result (new.behind ≡ false)
  pub unsynced : OnErr result (new.unsynced ≡ old.unsynced)
  pub failed : OnErr result (new.behind ≡ true)
  pub faults : CountsFaults old new result
