-- The disk rules, of a whole list of calls: what each page held at the last sync, what was written since, and which
-- images a stop may leave.
use Rattle.std.specs.Prelude.{◌≡◌, ◌⊎◌, ◌||◌, nat_eq, ℕ, Bool, false, List, [], ◌∷◌, length, slice_set}
use Rattle.dlms_pages.specs.declared.device.PageRead.{PageRead}
use Rattle.dlms_pages.specs.declared.device.PageRead.TheVariants.{Content, Damaged}
use Rattle.dlms_pages.specs.declared.memory.Call.{Call}
use Rattle.dlms_pages.specs.declared.memory.Call.TheVariants.{Write, Sync}
use Rattle.dlms_pages.specs.Device.{Image, page_at}

pub record Disk : Type 0 where
  -- what each page held at the last sync
  pub stable : Image
  -- what reads give
  pub seen : Image
  -- each write since that sync: its page and its content, the newest first
  pub since : List (ℕ × List ℕ)

-- nothing was written since
abbrev pub at_first : Image → Disk
at_first pages = record { stable = pages; seen = pages; since = [] }

-- one call that succeeded
abbrev pub after : Disk → Call → Disk
after disk (Write index bytes) = record {
  stable = disk.stable;
  seen = slice_set disk.seen index (Content bytes);
  since = (index, bytes) ∷ disk.since;
}
after disk Sync = record { stable = disk.seen; seen = disk.seen; since = [] }

abbrev pub disk_after : Disk → List Call → Disk
disk_after disk [] = disk
disk_after disk (call ∷ calls) = disk_after (after disk call) calls

-- one of the writes was of this page, and left this: its content, or the page torn
abbrev pub Left : List (ℕ × List ℕ) → ℕ → PageRead → Type 0
Left [] index page = ⊥
Left (write ∷ writes) index page = ((write.0 ≡ index)
    × ((page ≡ Content write.1) ⊎ (page ≡ Damaged))) ⊎ Left writes index page

-- whether one of the writes was of this page
abbrev pub was_written : List (ℕ × List ℕ) → ℕ → Bool
was_written [] index = false
was_written (write ∷ writes) index = nat_eq write.0 index || was_written writes index

-- An image that a stop may leave: each page as at the last sync or, if it was written since, as a write left it.
pub record IsImage (disk : Disk) (image : Image) : Type 0 where
  pub count : length image ≡ length disk.seen
  pub page : (k : ℕ) → (page_at image k ≡ page_at disk.stable k)
      ⊎ Left disk.since k (page_at image k)
