-- A file whose machine stopped, and that is opened again.
use Rattle.std.specs.Prelude.{◌≡◌, ◌<◌, ◌++◌, ℕ, true, List, [], None, slice_index_or}
use Rattle.dlms_pages.specs.SlotCalls.{IsRenewed, Reopens, SparesSlot}
use Rattle.dlms_pages.specs.declared.asking.SlotCall.{SlotCall}
use Rattle.dlms_pages.specs.Device.{Image}
use Rattle.dlms_pages.specs.File.{FileValue, IsFresh, file_view}
use Rattle.dlms_pages.specs.Slots.{Slot, Slots, Leaves, LeavesImage, page_in, pages_from}
use Rattle.dlms_pages.specs.Stops.{IsFixed}

-- a stop may leave these slots
abbrev pub LeavesSlots : ℕ → List Slot → List SlotCall → (ℕ → Slot) → Type 0
LeavesSlots count first calls left = (k : ℕ) → k < count → Leaves first calls k (left k)

-- These slots were left, and pages were opened over a file that holds them and keeps the rules: what `over` then says of them.
pub record IsOpenedOver {F : Type 0} (slots : F → Slots) (count : ℕ) (left : ℕ
    → Slot) (pages : FileValue F) : Type 0 where
  pub file : Slots
  pub keeps : file.keeps ≡ true
  pub starts : file.calls ≡ []
  pub holds : (k : ℕ) → k < count → slice_index_or file.first k None ≡ left k
  pub fresh : IsFresh count pages
  pub renewed : IsRenewed count file (slots pages.file)
  pub reopened : (k : ℕ) → k < count → Reopens file (slots pages.file) k
  pub spared : (k : ℕ) → SparesSlot file (slots pages.file) k

-- The pages are an image that a stop might have left, and from now on a stop leaves no other. Nor did one while they were opened.
pub record IsAsLeft {F : Type 0} (slots : F
    → Slots) (count : ℕ) (before : Slots) (pages : FileValue F) : Type 0 where
  pub image : Image
  pub left : LeavesImage count before.first before.calls image
  pub fixed : IsFixed (file_view slots pages) image
  pub inside : (later earlier : List SlotCall) → (slots pages.file).calls ≡ later ++ earlier
      → (left : ℕ → Slot) → LeavesSlots count (slots pages.file).first earlier left
      → pages_from (λ k. page_in k (left k)) 0 count ≡ image

abbrev pub OpensWhatWasLeft : {F : Type 0} → (F → Slots) → Type 0
OpensWhatWasLeft {F} slots = (count : ℕ) (before : Slots) (left : ℕ → Slot) (pages : FileValue F)
    → LeavesSlots count before.first before.calls left → IsOpenedOver slots count left pages
    → IsAsLeft slots count before pages
