-- The store's pages that an answer uses.
use Rattle.std.specs.Prelude.{◌≡◌, ◌<◌, ◌+◌}
use Rattle.dlms_pages.specs.declared.device.Pages.{Ghosts}
use Rattle.dlms_store.specs.Store.{IsRunning, IsRingFull}
use Rattle.dlms_store.specs.declared.layout.TheConstants.{JOURNAL_PAGES}
use Rattle.dlms_store.specs.declared.store.Store.{Store}

-- Where more than one page of the journal was free, and the ring took further rows, no checkpoint was made: unless the device
-- failed, the slot and its generation are as they were.
abbrev pub SparesSlots : {P A : Type 0} → {ghosts : Ghosts P} → Store P A ghosts → Store P A ghosts
    → Type 0
SparesSlots old new = IsRunning new → old.next + 1 < JOURNAL_PAGES → (IsRingFull old → ⊥)
    → (new.slot ≡ old.slot) × (new.generation ≡ old.generation)
