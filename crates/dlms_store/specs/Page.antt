-- The contents of a page, whatever its unused bytes are. An edition is the version by which a page was written, and the checkpoint
-- that it belongs to.
use Rattle.std.specs.Prelude.{◌≡◌, ◌+◌, ℕ, List, Some}
use Rattle.dlms_journal.specs.declared.kind.PageKind.{PageKind}
use Rattle.dlms_journal.specs.declared.kind.PageKind.TheVariants.{OpenGate}
use Rattle.dlms_journal.specs.Page.{head_of, kind_named, payload_at}
use Rattle.dlms_checkpoint.specs.Layouts.{number_of}
use Rattle.dlms_checkpoint.specs.declared.version.Version.{Version}
use Rattle.dlms_checkpoint.specs.declared.version.Version.TheVariants.{Columns}
use Rattle.dlms_store.specs.declared.page.Edition.{Edition}
use Rattle.dlms_pages.specs.declared.device.PageRead.{PageRead}
use Rattle.dlms_pages.specs.declared.device.PageRead.TheVariants.{Content, Damaged}

-- what this program writes
abbrev pub present : ℕ → Edition
present generation = record { version = Columns; generation = generation }

-- the edition of the checkpoint after this one
abbrev pub next_of : Edition → Edition
next_of edition = present (edition.generation + 1)

-- a page of a version, in a place that does not record the checkpoint's generation
abbrev pub of_version : Version → ℕ → Edition
of_version version generation = record { version = version; generation = generation }

-- it does not hold
abbrev pub IsNot : Type 0 → Type 0
IsNot P = P → ⊥

-- the bytes are a page of this edition, kind and index, with this payload
pub record IsWhole (kind : PageKind) (index : ℕ) (edition : Edition) (payload bytes : List ℕ)
    : Type 0 where
  pub kind_is : kind_named (head_of bytes).kind ≡ Some kind
  pub version_is : (head_of bytes).version ≡ number_of edition.version
  pub index_is : (head_of bytes).index ≡ index
  pub generation_is : (head_of bytes).generation ≡ edition.generation
  pub payload_is : payload_at bytes ≡ Some payload

abbrev pub HasPage : PageKind → ℕ → Edition → List ℕ → PageRead → Type 0
HasPage kind index edition payload Damaged = ⊥
HasPage kind index edition payload (Content bytes) = IsWhole kind index edition payload bytes

-- the bytes are a page of this edition, kind and index, whatever its payload is
pub record IsHeaded (kind : PageKind) (index : ℕ) (edition : Edition) (bytes : List ℕ)
    : Type 0 where
  pub kind_is : kind_named (head_of bytes).kind ≡ Some kind
  pub version_is : (head_of bytes).version ≡ number_of edition.version
  pub index_is : (head_of bytes).index ≡ index
  pub generation_is : (head_of bytes).generation ≡ edition.generation

abbrev pub IsOf : PageKind → ℕ → Edition → PageRead → Type 0
IsOf kind index edition Damaged = ⊥
IsOf kind index edition (Content bytes) = IsHeaded kind index edition bytes

-- the bytes are an open gate of this edition; its index and payload are not looked at
pub record IsGate (edition : Edition) (bytes : List ℕ) : Type 0 where
  pub kind_is : kind_named (head_of bytes).kind ≡ Some OpenGate
  pub version_is : (head_of bytes).version ≡ number_of edition.version
  pub generation_is : (head_of bytes).generation ≡ edition.generation

abbrev pub IsOpen : Edition → PageRead → Type 0
IsOpen edition Damaged = ⊥
IsOpen edition (Content bytes) = IsGate edition bytes
