-- Pages in slots, one after another: 544 octets for each page, its content and its seal.
use Rattle.std.specs.Prelude.{◌≡◌, ℕ, ◌+◌, ◌*◌, ◌<◌, List, length, slice_range}
use Rattle.dlms_pages.specs.Device.{Image, page_at}
use Rattle.dlms_pages.specs.Seal.{ReadsSlot}

-- the octets of slot k
abbrev pub slot_in : List ℕ → ℕ → List ℕ
slot_in octets k = slice_range octets (544 * k) (544 * k + 544)

-- the image of this many pages, each as its slot reads
pub record IsLoaded (octets : List ℕ) (count : ℕ) (image : Image) : Type 0 where
  pub counted : length image ≡ count
  pub page : (k : ℕ) → k < count → ReadsSlot k (slot_in octets k) (page_at image k)
