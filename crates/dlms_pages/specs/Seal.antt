-- The bytes of a page in a file: 512 bytes of content and 32 of seal. Page i begins at byte 544 * i.
use Rattle.std.specs.Prelude.{◌≡◌, ℕ, List, ◌++◌}
use Rattle.std.specs.Int.{to_be_bytes, w16}
use Rattle.sha2.specs.Sha256.{sha256}
use Rattle.dlms_pages.specs.declared.device.PageRead.{PageRead}
use Rattle.dlms_pages.specs.declared.device.PageRead.TheVariants.{Content, Damaged}

-- the SHA-256 of the page's index, in two bytes with the high one first, and of its content
abbrev pub seal_of : ℕ → List ℕ → List ℕ
seal_of index content = sha256 (to_be_bytes w16 index ++ content)

-- a page's content and its seal
abbrev pub slot_of : ℕ → List ℕ → List ℕ
slot_of index content = content ++ seal_of index content

-- A slot reads as the content that it was made of, or as damaged if it was made of none.
abbrev pub ReadsSlot : ℕ → List ℕ → PageRead → Type 0
ReadsSlot index slot (Content content) = slot ≡ slot_of index content
ReadsSlot index slot Damaged = (content : List ℕ) → slot ≡ slot_of index content → ⊥
