-- What holds of every run of a device that keeps the disk rules.
use Rattle.std.specs.Prelude.{◌≡◌, ◌<◌, ◌⊎◌, ◌↔◌, ℕ, true, List, [], ◌∷◌, Result, Ok, Err, slice_set}
use Rattle.dlms_pages.specs.declared.device.PageRead.{PageRead}
use Rattle.dlms_pages.specs.declared.device.PageRead.TheVariants.{Content, Damaged}
use Rattle.dlms_pages.specs.declared.device.DeviceFault.{DeviceFault}
use Rattle.dlms_pages.specs.Device.{View, Image, Goes, Reads, Writes, Syncs}
use Rattle.dlms_pages.specs.Disk.{IsImage}
use Rattle.dlms_pages.specs.Memory.{Memory, view_of}
use Rattle.dlms_pages.specs.Slots.{Slot, Slots, Leaves, LeavesImage, page_in, pages_from}
use Rattle.dlms_pages.specs.Stops.{IsFixed}

-- Calls of a device since it was `start`, without a sync that succeeded, and the writes among them, failed ones included,
-- the newest first.
pub data Run {P : Type 0} (view : P → View) (start : P) : List (ℕ × List ℕ) → P → Type 0 where
  Begins : Run view start [] start
  ThenRead : {writes : List (ℕ × List ℕ)} {mid : P} (now : P) (index : ℕ)
      (result : Result PageRead DeviceFault) → Run view start writes mid
      → Reads index (view mid) (view now) result → Run view start writes now
  ThenWrite : {writes : List (ℕ
      × List ℕ)} {mid : P} (now : P) (index : ℕ) (bytes : List ℕ)
      (result : Result (Unit {0}) DeviceFault) → Run view start writes mid
      → Writes index bytes (view mid) (view now) result
      → Run view start ((index, bytes) ∷ writes) now
  ThenFailedSync : {writes : List (ℕ × List ℕ)} {mid : P} (now : P) (fault : DeviceFault)
      → Run view start writes mid → Syncs {T = Unit {0}} (view mid) (view now) (Err fault)
      → Run view start writes now

-- From a moment on at which there is one image, a stop leaves each page as it was then, or as one of the writes since
-- left it: with its content, or torn.
abbrev pub StopsKeepTheRules : {P : Type 0} → (P → View) → Type 0
StopsKeepTheRules {P} view = (start now : P) (image : Image) (writes : List (ℕ × List ℕ))
    → IsFixed (view start) image → Run view start writes now → (c : Image) → (view now).may_leave c
    → IsImage (record { stable = image; seen = image; since = writes }) c

-- The same of a stop at any moment since then.
abbrev pub StopsSinceKeepTheRules : {P : Type 0} → (P → View) → Type 0
StopsSinceKeepTheRules {P} view = (start now : P) (image : Image) (writes : List (ℕ × List ℕ))
    → IsFixed (view start) image → Run view start writes now → (c : Image)
    → (view now).left_since (view start).moment c
    → IsImage (record { stable = image; seen = image; since = writes }) c

-- A sync that succeeds leaves one image, which is what reads give.
abbrev pub SyncsLeaveOneImage : {P : Type 0} → (P → View) → Type 0
SyncsLeaveOneImage {P} view = (before now : P) → (view before).honest ≡ true
    → Goes {T = Unit {0}} (view before) (view now) (Ok tt)
    → Syncs {T = Unit {0}} (view before) (view now) (Ok tt) → IsFixed (view now) (view now).seen

-- After a page was written and synced, and then written again, a stop may leave its old content, its new content, or the
-- page torn, and nothing else.
abbrev pub LeavesEachOutcome : Memory → ℕ → List ℕ → List ℕ → Type 0
LeavesEachOutcome memory index old new = (c : Image) → (view_of memory).may_leave c
    ↔ ((c ≡ slice_set memory.first index (Content old))
    ⊎ ((c ≡ slice_set memory.first index (Content new))
    ⊎ (c ≡ slice_set memory.first index Damaged)))

-- What a stop may leave of a file of slots, it may leave of its pages.
abbrev pub StopsAreOfPages : Type 0
StopsAreOfPages = (file : Slots) (count : ℕ) (slots : ℕ → Slot)
    → ((k : ℕ) → k < count → Leaves file.first file.calls k (slots k))
    → LeavesImage count file.first file.calls (pages_from (λ k. page_in k (slots k)) 0 count)
