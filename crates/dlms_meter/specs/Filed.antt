-- A meter over pages in a file of slots, whose machine stops.
use Rattle.std.specs.Prelude.{◌≡◌, ◌≤◌, ◌++◌, ℕ, List, [], ◌∷◌, length}
use Rattle.dlms_pages.specs.declared.asking.SlotCall.{SlotCall}
use Rattle.dlms_pages.specs.declared.device.Pages.{Ghosts}
use Rattle.dlms_pages.specs.File.{FileValue, file_view}
use Rattle.dlms_pages.specs.Reopening.{LeavesSlots, IsOpenedOver}
use Rattle.dlms_pages.specs.Slots.{Slot, Slots}
use Rattle.dlms_state.specs.declared.event.Event.{Event}
use Rattle.dlms_store.specs.Fitting.{DeviceFits, OpensAs, StoreFits}
use Rattle.dlms_store.specs.World.{StoreWorld, IsRecovered}
use Rattle.dlms_store.specs.World.StoreStep.{Stops}
use Rattle.dlms_store.specs.World.StoreWorld.{Runs}
use Rattle.dlms_store.specs.declared.store.Store.{Store}
use Rattle.dlms_meter.specs.Run.{MeterWorld, first_world}
use Rattle.dlms_meter.specs.Steps.{Step, Run}
use Rattle.dlms_meter.specs.Storing.{store_steps}

-- the file as it was at one of the moments between these two
pub record IsBetween (old new at : Slots) : Type 0 where
  pub first : at.first ≡ new.first
  pub later : List SlotCall
  pub split : new.calls ≡ later ++ at.calls
  pub since : length old.calls ≤ length at.calls

-- The machine stopped when the file was so, and these pages were opened over what that left of its slots.
pub record IsOpenedBehind {F : Type 0} (slots : F
    → Slots) (count : ℕ) (at : Slots) (pages : FileValue F) : Type 0 where
  pub left : ℕ → Slot
  pub leaves : LeavesSlots count at.first at.calls left
  pub opened : IsOpenedOver slots count left pages

-- a store is what `open` makes of a device, whatever world the device fits
abbrev pub IsOpenOf : {F P A : Type 0} → {ghosts : Ghosts P} → (F → Slots) → FileValue F
    → Store P A ghosts → Type 0
IsOpenOf slots pages store = (before : StoreWorld) → DeviceFits (file_view slots pages) before
    → OpensAs before (file_view slots pages) store

-- what is found there: a beginning of the accepted events, with every event that was settled before an answer, and at most one
-- page of records less
pub record FindsInFile {P A : Type 0} {ghosts : Ghosts P} (w : MeterWorld) (steps : List Step)
    (run : Run first_world steps w) (store : Store P A ghosts) : Type 0 where
  pub found : List Event
  pub recovered : IsRecovered (store_steps first_world steps w run ++ Stops ∷ []) found
  pub fits : StoreFits store (Runs found [])
