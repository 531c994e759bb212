-- What never goes back.
use Rattle.std.specs.Prelude.{◌≡◌, ◌≤◌, ◌⊎◌, ◌^◌, ℕ, List, length}
use Rattle.dlms_pages.specs.Device.{View, Image, Rose}
use Rattle.dlms_pages.specs.declared.device.Pages.{Ghosts}
use Rattle.dlms_state.specs.declared.event.Event.{Event}
use Rattle.dlms_store.specs.Image.{Reads}
use Rattle.dlms_store.specs.Store.{IsStopped, state_in, view_of}
use Rattle.dlms_store.specs.Writing.{Leaves}
use Rattle.dlms_store.specs.declared.layout.Slot.{Slot}
use Rattle.dlms_store.specs.declared.layout.TheConstants.{LAST_GENERATION}
use Rattle.dlms_store.specs.declared.page.Edition.{Edition}
use Rattle.dlms_store.specs.declared.store.Store.{Store}

-- A device goes on: it stays as honest as it was, its pages stay as many, and the count of its faults does not fall.
pub record GoesOn (old new : View) : Type 0 where
  pub honest : new.honest ≡ old.honest
  pub count : length new.seen ≡ length old.seen
  pub faults : old.faults ≤ new.faults

-- A store continues, and its device with it. The generation of its checkpoint and the number of the next row do not fall, and it
-- stops only after a fault.
pub record IsLater {P A : Type 0} {ghosts : Ghosts P} (old new : Store P A ghosts) : Type 0 where
  pub device : GoesOn (view_of old) (view_of new)
  pub generation : old.generation ≤ new.generation
  pub number : (state_in old).rows.next ≤ (state_in new).rows.next
  pub stops : IsStopped new → IsStopped old ⊎ Rose (view_of old).faults (view_of new).faults

-- The image has an active checkpoint of this generation, or of a later one.
pub record IsFrom (generation : ℕ) (image : Image) : Type 0 where
  pub slot : Slot
  pub edition : Edition
  pub base : List Event
  pub pages : List (List Event)
  pub reads : Reads slot edition base pages image
  pub from : generation ≤ edition.generation

-- each image that a stop may leave of the device has one that is no earlier than the store's
abbrev pub LeavesNoEarlier : {P A : Type 0} → {ghosts : Ghosts P} → Store P A ghosts → View → Type 0
LeavesNoEarlier store device = Leaves device (IsFrom store.generation)

-- The store is at its end: no further checkpoint can be made, or no further row gets a number.
abbrev pub IsSpent : {P A : Type 0} → {ghosts : Ghosts P} → Store P A ghosts → Type 0
IsSpent store = (LAST_GENERATION ≤ store.generation) ⊎ (2 ^ 64 ≤ (state_in store).rows.next)
