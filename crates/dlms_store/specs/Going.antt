-- Calls of a store, one after another.
use Rattle.std.specs.Prelude.{◌≡◌, ◌⊎◌, ℕ, List, [], ◌∷◌, ◌++◌, take, Result, Ok, Err}
use Rattle.dlms_pages.specs.Device.{Image}
use Rattle.dlms_pages.specs.Stops.{LeavesOnly}
use Rattle.dlms_pages.specs.declared.device.Pages.{Ghosts}
use Rattle.dlms_state.specs.declared.event.Event.{Event}
use Rattle.dlms_store.specs.Fitting.{StoreFits, LeftBy, commit_step}
use Rattle.dlms_store.specs.Store.{Remembers, IsStopped, IsRunning, view_of}
use Rattle.dlms_store.specs.World.{StoreWorld, StoreStep, Next, StoreRun}
use Rattle.dlms_store.specs.World.StoreWorld.{Runs, InDoubt, Rests}
use Rattle.dlms_store.specs.World.StoreStep.{Adds, AddsBehind, Fails, Refuses, Stops}
use Rattle.dlms_store.specs.declared.store.Store.{Store}
use Rattle.dlms_store.specs.declared.fault.AddFault.{AddFault}
use Rattle.dlms_store.specs.declared.fault.AddFault.TheVariants as add
use Rattle.dlms_store.specs.declared.fault.StoreFault.{StoreFault}

-- What a store knows of a world, whatever its device does: if its device also keeps the rules, it fits the world.
abbrev pub Knows : {P A : Type 0} → {ghosts : Ghosts P} → Store P A ghosts → StoreWorld → Type 0
Knows store (Runs settled pending) = IsRunning store × Remembers settled pending store
Knows store (InDoubt settled pending) = IsStopped store × Remembers settled pending store
Knows store (Rests events) = ⊥

-- what a stop during these steps may leave: what it may leave in the world before one of them
abbrev pub LeftDuring : StoreWorld → List StoreStep → Image → Type 0
LeftDuring before [] image = LeftBy before image
LeftDuring before (step ∷ []) image = LeftBy before image
LeftDuring before (step ∷ other ∷ steps) image = LeftBy before image
    ⊎ ((mid : StoreWorld) × Next before step mid × LeftDuring mid (other ∷ steps) image)

-- The power stopped in these steps: some of them were taken, and then the stop.
abbrev pub StopsDuring : StoreWorld → List StoreStep → StoreWorld → Type 0
StopsDuring before steps now = (count : ℕ) × StoreRun before (take count steps ++ Stops ∷ []) now

-- Calls, one after another, that were these steps. Where the device keeps the rules, a stop at any moment of them leaves what a
-- stop may leave in a world before one of them.
pub record Goes {P A : Type 0} {ghosts : Ghosts P} (before : StoreWorld) (steps : List StoreStep)
    (now : StoreWorld) (old new : Store P A ghosts) : Type 0 where
  pub run : StoreRun before steps now
  pub knows : Knows new now
  pub fits : StoreFits old before → StoreFits new now
  pub any_moment : StoreFits old before
      → LeavesOnly (view_of old) (view_of new) (LeftDuring before steps)

-- one of the steps by which a store takes an event
abbrev pub IsAdd : Event → StoreStep → Type 0
IsAdd event step = (step ≡ Adds event) ⊎ (step ≡ AddsBehind event)

-- what an `add` was
abbrev pub AddGoes : {P A : Type 0} → {ghosts : Ghosts P} → Result (Unit {0}) AddFault → Event
    → StoreWorld → Store P A ghosts → Store P A ghosts → Type 0
AddGoes (Ok done) event before old new = (step : StoreStep) × (now : StoreWorld) × IsAdd event step
    × Goes before (step ∷ []) now old new
AddGoes (Err add.Device) event before old new = (now : StoreWorld)
    × Goes before (Fails ∷ []) now old new
AddGoes (Err add.Stopped) event before old new = Goes before (Refuses ∷ []) before old new
AddGoes (Err add.Exhausted) event before old new = Goes before (Refuses ∷ []) before old new
AddGoes (Err (add.Refused cause)) event before old new = Goes before (Refuses ∷ []) before old new

-- what a `commit` was
abbrev pub CommitGoes : {P A : Type 0} → {ghosts : Ghosts P} → Result (Unit {0}) StoreFault
    → StoreWorld → Store P A ghosts → Store P A ghosts → Type 0
CommitGoes result before old new = (now : StoreWorld)
    × Goes before (commit_step result ∷ []) now old new
