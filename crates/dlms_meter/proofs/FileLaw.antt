-- A meter in a file: what a stop of the machine left is opened again.
use Rattle.std.proofs.Common.{◌≡◌, List, length, sym, subst}
use Rattle.dlms_pages.specs.Device.{View}
use Rattle.dlms_pages.specs.File.{FileValue, file_view}
use Rattle.dlms_pages.specs.Slots.{Slots, LeavesImage}
use Rattle.dlms_pages.specs.Stops.{LeavesOnly}
use Rattle.dlms_pages.specs.declared.device.Pages.{Ghosts}
use Rattle.dlms_pages.proofs.OpenedOver.{opens_what_was_left}
use Rattle.dlms_store.specs.Fitting.{DeviceFits, StoreFits}
use Rattle.dlms_store.specs.Going.{LeftDuring, StopsDuring}
use Rattle.dlms_store.specs.World.{StoreWorld, StoreStep}
use Rattle.dlms_store.specs.World.StoreWorld.{Rests}
use Rattle.dlms_store.specs.declared.store.Store.{Store}
use Rattle.dlms_store.proofs.Going.{stopped_during}
use Rattle.dlms_store.proofs.Keeping.{left_between_calls}
use Rattle.dlms_store.proofs.Opening.{rests}
use Rattle.dlms_meter.specs.Filed.{FindsInFile, IsBetween, IsOpenedBehind, IsOpenOf}
use Rattle.dlms_meter.specs.Run.{MeterWorld, first_world}
use Rattle.dlms_meter.specs.Steps.{Step, Run}
use Rattle.dlms_meter.proofs.StoreLaw.{recovers_in_runs}

-- at any moment of calls that were these steps
pub stops_in_a_file : {F : Type 0} (slots : F → Slots) (old new pages : FileValue F) (before : StoreWorld) (steps : List StoreStep) → LeavesOnly (file_view slots old) (file_view slots new) (LeftDuring before steps)
    → (at : Slots) → IsBetween (slots old.file) (slots new.file) at → IsOpenedBehind slots (length new.unsynced) at pages → (now : StoreWorld) × StopsDuring before steps now × DeviceFits (file_view slots pages) now
stops_in_a_file slots old new pages before steps only at between behind =
    let as_left = opens_what_was_left slots (length new.unsynced) at behind.left pages behind.leaves behind.opened in
    let left = only.each as_left.image (record {
      later = between.later;
      earlier = at.calls;
      split = between.split;
      since = between.since;
      left = subst (λ first. LeavesImage (length new.unsynced) first at.calls as_left.image) between.first as_left.left;
    }) in
    stopped_during (file_view slots pages) as_left.image as_left.fixed steps before left

-- between two calls of a meter, recovered over the pages
pub finds_in_a_file : {F P A Q B : Type 0} {ghosts : Ghosts P} {others : Ghosts Q} (slots : F → Slots) (device pages : FileValue F) (store : Store P A ghosts) (again : Store Q B others) → ghosts.view store.device ≡ file_view slots device
    → (w : MeterWorld) (steps : List Step) (run : Run first_world steps w) → StoreFits store w.store → IsOpenedBehind slots (length device.unsynced) (slots device.file) pages → IsOpenOf slots pages again → FindsInFile w steps run again
finds_in_a_file slots device pages store again is_view w steps run fits behind opens =
    let as_left = opens_what_was_left slots (length device.unsynced) (slots device.file) behind.left pages behind.leaves behind.opened in
    let (events, stops, stands) = left_between_calls w.store store fits as_left.image (subst (λ (v : View). v.may_leave as_left.image) (sym is_view) as_left.left) in
    let opened = opens (Rests events) (rests (file_view slots pages) as_left.image events as_left.fixed stands) in
    record {
      found = opened.found;
      recovered = recovers_in_runs w steps run (Rests events) opened.now opened.found stops opened.next;
      fits = subst (StoreFits again) opened.next.1 opened.fits;
    }
