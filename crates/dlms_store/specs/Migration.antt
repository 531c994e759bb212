-- A checkpoint leads from one edition of the pages to the next, which has version 2: if the edition has version 1, that is a
-- migration. This is stated of images, without any call.
use Rattle.std.specs.Prelude.{◌≤◌, ◌^◌, List, [], length, slice_set}
use Rattle.dlms_pages.specs.Device.{Image}
use Rattle.dlms_pages.specs.declared.device.PageRead.{PageRead}
use Rattle.dlms_state.specs.declared.event.Event.{Event}
use Rattle.dlms_state.specs.Events.{captures}
use Rattle.dlms_state.specs.Refusal.{IsLegal}
use Rattle.dlms_state.specs.StateValue.{state_of}
use Rattle.dlms_store.specs.declared.layout.Slot.{Slot}
use Rattle.dlms_store.specs.declared.page.Edition.{Edition}
use Rattle.dlms_store.specs.Image.{AreRings, IsBehind, Stands}
use Rattle.dlms_store.specs.Layout.{gate_of, other_of}
use Rattle.dlms_store.specs.Page.{IsOpen, next_of}

-- while the other slot's gate is closed, torn or of an older edition, the image represents its events as before
abbrev pub StandsWhileMigrating : Type 0
StandsWhileMigrating = (slot : Slot) (edition : Edition) (base : List Event)
    (pages : List (List Event)) (image : Image) (page : PageRead)
    → Stands slot edition base pages image → IsBehind edition.generation page
    → Stands slot edition base pages (slice_set image (gate_of (other_of slot)) page)

-- once that gate is open, and its bodies with the ring pages that they name encode the state, that slot represents the image's
-- events
abbrev pub MayMigrate : Type 0
MayMigrate = (slot : Slot) (edition : Edition) (base : List Event) (pages : List (List Event))
    (image : Image) (page : PageRead) (events : List Event)
    → Stands slot edition base pages image → IsOpen (next_of edition) page → IsLegal events
    → length (captures events) ≤ 2 ^ 64
    → AreRings (other_of slot) (next_of edition) (state_of events) image
    → Stands (other_of slot) (next_of edition) events [] (slice_set image
    (gate_of (other_of slot)) page)
