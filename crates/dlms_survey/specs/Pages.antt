-- The bytes of a page in a file.
use Rattle.std.specs.Prelude.{◌≡◌, ◌≤◌, ◌<◌, ◌+◌, ◌*◌, ℕ, List, length, slice_range, slice_index_or}
use Rattle.dlms_pages.specs.Seal.{ReadsSlot}
use Rattle.dlms_pages.specs.declared.device.PageRead.{PageRead}
use Rattle.dlms_pages.specs.declared.device.PageRead.TheVariants.{Damaged}
use Rattle.dlms_pages.specs.declared.seal.TheConstants.{SLOT_BYTES}

-- the bytes of a page and its seal
abbrev pub slot_at : ℕ → List ℕ → List ℕ
slot_at index bytes = slice_range bytes (index * SLOT_BYTES) (index * SLOT_BYTES + SLOT_BYTES)

-- bytes of this count end before the slot does
abbrev pub IsCut : (index count : ℕ) → Type 0
IsCut index count = count < index * SLOT_BYTES + SLOT_BYTES

-- A page is the content of its slot, by its seal; if the bytes end before the slot does, it is damaged.
pub record IsPageIn (index : ℕ) (bytes : List ℕ) (page : PageRead) : Type 0 where
  pub whole : index * SLOT_BYTES + SLOT_BYTES ≤ length bytes
      → ReadsSlot index (slot_at index bytes) page
  pub cut : IsCut index (length bytes) → page ≡ Damaged

-- the same for each page of a device
abbrev pub AreIn : List ℕ → List PageRead → Type 0
AreIn bytes pages = (k : ℕ) → k < length pages → IsPageIn k bytes (slice_index_or pages k Damaged)
