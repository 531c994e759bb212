-- A file of slots as a disk: what reads of it return, and what a stop of the machine may leave of it. These are the rules that a
-- file system keeps; docs/STORE.md says which system calls promise them.
--
-- A slot reads as what was last written to it, if that write succeeded. A failed write may have reached the slot, or not, or in
-- part. A successful sync makes everything written durable; a failed one may drop it, and then nothing is known of the slots
-- written since the last successful sync until they are written again.
use Rattle.std.specs.Prelude.{◌≡◌, ◌⊎◌, ◌<◌, ◌≤◌, ◌+◌, ◌&&◌, ℕ, zero, suc, Bool, true, false, nat_eq, if◌then◌else◌, List, [], ◌∷◌, ◌++◌, length, take, slice_index_or, Option, Some, None}
use Rattle.dlms_pages.specs.declared.asking.SlotCall.{SlotCall}
use Rattle.dlms_pages.specs.declared.asking.SlotCall.TheVariants.{Reads, Writes, Syncs}
use Rattle.dlms_pages.specs.declared.asking.Came.{Came}
use Rattle.dlms_pages.specs.declared.asking.Came.TheVariants.{Slot as Octets, Short, Failed}
use Rattle.dlms_pages.specs.declared.device.PageRead.{PageRead}
use Rattle.dlms_pages.specs.declared.device.PageRead.TheVariants.{Content, Damaged}
use Rattle.dlms_pages.specs.Device.{Image, page_at}
use Rattle.dlms_pages.specs.Seal.{slot_of}

-- a slot's octets, or nothing if the file ends before it has all of them
abbrev pub Slot : Type 0
Slot = Option (List ℕ)

-- what is known of a file
pub record Slots : Type 0 where
  -- whether it keeps these rules
  pub keeps : Bool
  -- the content of each slot when the machine started; none past the list's end
  pub first : List Slot
  -- what was asked of it since, by whichever program, the newest first
  pub calls : List SlotCall

-- what was last written to slot k; if nothing was, its initial content
abbrev pub newest : List Slot → List SlotCall → ℕ → Slot
newest first [] k = slice_index_or first k None
newest first (Reads index came ∷ calls) k = newest first calls k
newest first (Writes index slot passed ∷ calls) k = if nat_eq index k then Some slot
    else newest first calls k
newest first (Syncs passed ∷ calls) k = newest first calls k

-- How a slot stands.
pub record Standing : Type 0 where
  -- a stop leaves its newest octets, and nothing else
  pub synced : Bool
  -- it reads as its newest octets
  pub sure : Bool

-- A slot is sure if its last write succeeded, and no sync failed after that before one succeeded; it is synced if a sync succeeded
-- while it was sure. Initial content is both.
abbrev pub standing : List SlotCall → ℕ → Standing
standing [] k = record { synced = true; sure = true }
standing (Reads index came ∷ calls) k = standing calls k
standing (Writes index slot passed ∷ calls) k = if nat_eq index k
    then record { synced = false; sure = passed } else standing calls k
standing (Syncs true ∷ calls) k = record {
  synced = (standing calls k).sure;
  sure = (standing calls k).sure;
}
standing (Syncs false ∷ calls) k = record {
  synced = (standing calls k).synced;
  sure = (standing calls k).synced;
}

-- each octet is that of the old slot or of the new one, if the file has the old one
abbrev pub IsMix : List ℕ → List ℕ → List ℕ → Type 0
IsMix old new mix = (length mix ≡ length new)
    × ((i : ℕ) → i < length new → (slice_index_or mix i 0 ≡ slice_index_or old i 0)
    ⊎ (slice_index_or mix i 0 ≡ slice_index_or new i 0))

-- What a torn write leaves in slot k: a mix of the old octets and the new, if the file had the old ones. This is where the seal is
-- trusted: no such mix is the slot of some content, except the old slot and the new one.
pub record IsTorn (k : ℕ) (old : Slot) (new : List ℕ) (slot : Slot) : Type 0 where
  pub mix : (was : List ℕ) → old ≡ Some was
      → (bytes : List ℕ) × (slot ≡ Some bytes) × IsMix was new bytes
  pub sealed : (content : List ℕ) → slot ≡ Some (slot_of k content)
      → (slot ≡ old) ⊎ (slot ≡ Some new)

-- this if it is true, otherwise that
abbrev pub Either : Bool → Type 0 → Type 0 → Type 0
Either true this that = this
Either false this that = that

-- What a stop may leave in slot k: its newest octets if it is synced; otherwise what it held before, or a write since, or the two
-- torn.
abbrev pub Leaves : List Slot → List SlotCall → ℕ → Slot → Type 0
Leaves first [] k slot = slot ≡ slice_index_or first k None
Leaves first (Reads index came ∷ calls) k slot = Leaves first calls k slot
Leaves first (Writes index bytes passed ∷ calls) k slot = Leaves first calls k slot
    ⊎ ((index ≡ k) × ((slot ≡ Some bytes)
    ⊎ ((old : Slot) × Leaves first calls k old × IsTorn k old bytes slot)))
Leaves first (Syncs true ∷ calls) k slot =
    Either (standing calls k).sure (slot ≡ newest first calls k) (Leaves first calls k slot)
Leaves first (Syncs false ∷ calls) k slot = Leaves first calls k slot

-- What a read of a slot returns, for a file that keeps the rules: one of the slots that a stop may leave; the newest if the slot is
-- sure. A file ends before a slot only if that is sure.
abbrev pub Gives : Slots → ℕ → Came → Type 0
Gives file k (Octets bytes) = Leaves file.first file.calls k (Some bytes)
    × ((standing file.calls k).sure ≡ true → newest file.first file.calls k ≡ Some bytes)
Gives file k Short = ((standing file.calls k).sure ≡ true) × (newest file.first file.calls k ≡ None)
Gives file k Failed = Unit {0}

-- ---- the same of pages

abbrev pub same_octets : List ℕ → List ℕ → Bool
same_octets [] [] = true
same_octets [] (b ∷ bs) = false
same_octets (a ∷ xs) [] = false
same_octets (a ∷ xs) (b ∷ bs) = nat_eq a b && same_octets xs bs

-- the page in slot k
abbrev pub page_in : ℕ → Slot → PageRead
page_in k None = Damaged
page_in k (Some slot) = if same_octets slot (slot_of k (take 512 slot)) then Content (take 512 slot)
    else Damaged

-- this many pages from this one on
abbrev pub pages_from : (ℕ → PageRead) → ℕ → ℕ → Image
pages_from page k zero = []
pages_from page k (suc count) = page k ∷ pages_from page (k + 1) count

-- What a stop may leave of page k: the content of its slot if that is synced; otherwise what it held before, or the content of a
-- write since, or it is damaged.
abbrev pub LeavesPage : List Slot → List SlotCall → ℕ → PageRead → Type 0
LeavesPage first [] k page = page ≡ page_in k (slice_index_or first k None)
LeavesPage first (Reads index came ∷ calls) k page = LeavesPage first calls k page
LeavesPage first (Writes index bytes passed ∷ calls) k page = LeavesPage first calls k page
    ⊎ ((index ≡ k) × ((page ≡ page_in k (Some bytes)) ⊎ (page ≡ Damaged)))
LeavesPage first (Syncs true ∷ calls) k page =
    Either (standing calls k).sure (page ≡ page_in k (newest first calls k))
    (LeavesPage first calls k page)
LeavesPage first (Syncs false ∷ calls) k page = LeavesPage first calls k page

-- this many pages, each as a stop may leave it
pub record LeavesImage (count : ℕ) (first : List Slot) (calls : List SlotCall) (image : Image)
    : Type 0 where
  pub counted : length image ≡ count
  pub page : (k : ℕ) → k < count → LeavesPage first calls k (page_at image k)

-- what a stop since call number t might have left
pub record LeftSince (count : ℕ) (first : List Slot) (calls : List SlotCall) (t : ℕ) (image : Image)
    : Type 0 where
  pub later : List SlotCall
  pub earlier : List SlotCall
  pub split : calls ≡ later ++ earlier
  pub since : t ≤ length earlier
  pub left : LeavesImage count first earlier image
