-- How an answer is settled before it goes out.
use Rattle.std.specs.Prelude.{List, [], Bool, if◌then◌else◌, Result, Ok, Err}
use Rattle.dlms_pages.specs.declared.device.Pages.{Ghosts}
use Rattle.dlms_state.specs.declared.event.Event.{Event}
use Rattle.dlms_store.specs.World.{StoreWorld, StoreStep}
use Rattle.dlms_store.specs.Going.{Goes}
use Rattle.dlms_store.specs.declared.fault.AddFault.{AddFault}
use Rattle.dlms_store.specs.declared.store.Store.{Store}
use Rattle.dlms_meter.specs.Run.{IsSettling, IsUnsettling, MayFail}

-- The events were taken and all is settled; or a call failed or was refused, for its cause, the events being taken or not.
abbrev pub Settled : {P A : Type 0} → {ghosts : Ghosts P} → Result (Unit {0}) AddFault → StoreWorld
    → List Event → Store P A ghosts → Store P A ghosts → Type 0
Settled (Ok done) before events old new = (steps : List StoreStep) × (now : StoreWorld)
    × IsSettling events steps × Goes before steps now old new
Settled (Err fault) before events old new =
    (kept : Bool) × (steps : List StoreStep) × (now : StoreWorld)
    × IsUnsettling (if kept then events else []) steps × Goes before steps now old new
    × MayFail events old new
