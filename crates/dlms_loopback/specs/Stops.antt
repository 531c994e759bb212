-- The loopback's meter: the events that it takes, and how it comes back from a stop of the power.
use Rattle.std.specs.Prelude.{◌≡◌, ◌<◌, ◌⊎◌, ◌+◌, ◌*◌, ◌++◌, ℕ, List, [], ◌∷◌, length, Result, Ok, Err}
use Rattle.dlms_meter.specs.Run.{Judges, MeterWorld, Stands, events_in, events_of, first_world, recovered, with_store}
use Rattle.dlms_meter.specs.declared.meter.Meter.{Meter}
use Rattle.dlms_pages.specs.Device.{page_at}
use Rattle.dlms_pages.specs.Memory.{Memory, disk_of}
use Rattle.dlms_pages.specs.declared.device.Pages.{Ghosts}
use Rattle.dlms_state.specs.declared.event.Event.{Event}
use Rattle.dlms_state.specs.declared.event.Event.TheVariants.{Pulses, Moment}
use Rattle.dlms_store.specs.Cause.{IsCause}
use Rattle.dlms_store.specs.Fitting.{GivesUp, IsOpened, StoreFits}
use Rattle.dlms_store.specs.Later.{GoesOn}
use Rattle.dlms_store.specs.Store.{IsRunning, Remembers, records_in, view_of}
use Rattle.dlms_store.specs.World.{StoreRun, StoreStep, StoreWorld}
use Rattle.dlms_store.specs.World.StoreStep.{Closes, ClosesInDoubt, Opens, Stops}
use Rattle.dlms_store.specs.World.StoreWorld.{Runs}
use Rattle.dlms_store.specs.declared.fault.AddFault.{AddFault}
use Rattle.dlms_store.specs.declared.fault.OpenFault.{OpenFault}
use Rattle.dlms_ends.specs.declared.fault.RunFault.{RunFault}
use Rattle.dlms_ends.specs.declared.fault.RunFault.TheVariants.{Open, Add, Memory as OutOfMemory}

-- ---- events

-- A new meter's events: 42 pulses on channel 0, and the ends of two capture periods of 900 seconds.
abbrev pub first_events : List Event
first_events = Pulses 0 42 ∷ Moment 900 ∷ Moment 1800 ∷ []

-- The events after a stop: one more pulse on channel 0, and the end of the next period.
abbrev pub events_after : ℕ → List Event
events_after round = Pulses 0 1 ∷ Moment ((2 + round) * 900) ∷ []

-- From a world of the meter these events were accepted, in their order, and nothing else happened.
pub record Took {P A : Type 0} {ghosts : Ghosts P} (old new : Meter P A ghosts)
    (events : List Event) (w : MeterWorld) : Type 0 where
  pub store : StoreWorld
  pub stands : Stands new (with_store w store)
  pub accepted : events_in store ≡ events_of w ++ events
  pub fits : StoreFits old.store w.store → StoreFits new.store store

-- The meter accepted these events, in their order, and nothing else happened to it.
abbrev pub Takes : {P A : Type 0} → {ghosts : Ghosts P} → Meter P A ghosts → Meter P A ghosts
    → List Event → Type 0
Takes old new events = (w : MeterWorld) → Stands old w → Took old new events w

-- The meter accepted the events before one of them, and that one failed.
pub record TakesPart {P A : Type 0} {ghosts : Ghosts P} (old new : Meter P A ghosts)
    (events : List Event) (why : AddFault) : Type 0 where
  pub front : List Event
  pub event : Event
  pub rest : List Event
  pub mid : Meter P A ghosts
  pub split : front ++ event ∷ rest ≡ events
  pub took : Takes old mid front
  pub judged : Judges mid event (Err why) new

-- The meter accepted these events; or one of them failed, and that fault is returned.
abbrev pub TakesAll : {P A T : Type 0} → {ghosts : Ghosts P} → Meter P A ghosts → Meter P A ghosts
    → List Event → Result T RunFault → Type 0
TakesAll old new events (Ok done) = Takes old new events
TakesAll old new events (Err fault) = (why : AddFault) × (fault ≡ Add why)
    × TakesPart old new events why

-- ---- a new meter

-- A new meter: its line is quiet, no client is connected, and it has accepted the first events and no others.
pub record IsBegun {P A : Type 0} {ghosts : Ghosts P} (meter : Meter P A ghosts) : Type 0 where
  pub store : StoreWorld
  pub stands : Stands meter (with_store first_world store)
  pub accepted : events_in store ≡ first_events
  pub fits : StoreFits meter.store store

-- Why there is no new meter: memory ran out, the device could not be formatted, or one of the first events failed.
pub data MakesNone {P A : Type 0} (ghosts : Ghosts P) (alloc : A) (fault : RunFault) : Type 0 where
  NoPages : fault ≡ OutOfMemory → MakesNone ghosts alloc fault
  NotFormatted : (why : OpenFault) → fault ≡ Open why → MakesNone ghosts alloc fault
  NotTaken : (why : AddFault) → fault ≡ Add why → (empty after : Meter P A ghosts)
      → Stands empty first_world → TakesPart empty after first_events why
      → MakesNone ghosts alloc fault

-- ---- a stop

-- A device that was closed.
pub record IsClosed {P A : Type 0} {ghosts : Ghosts P} (old : Meter P A ghosts) (closed : P)
    : Type 0 where
  pub gives_up : (before : StoreWorld) → StoreFits old.store before
      → GivesUp Closes before (view_of old.store) (ghosts.view closed)
      ⊎ GivesUp ClosesInDoubt before (view_of old.store) (ghosts.view closed)
  pub nothing : IsRunning old.store → records_in old.store ≡ [] → closed ≡ old.store.device
  pub later : GoesOn (view_of old.store) (ghosts.view closed)

-- The power stopped: each page holds what it held at the last sync, and no call came after that.
pub record LosesUnsynced (old new : Memory) : Type 0 where
  pub count : length new.first ≡ length old.first
  pub page : (k : ℕ) → k < length old.first → page_at new.first k ≡ page_at (disk_of old).stable k
  pub calls : new.calls ≡ []

-- The events that a recovery finds: those that were settled when the meter was closed, and a prefix of the others.
pub record Finds {P A : Type 0} {ghosts : Ghosts P} (before : StoreWorld) (back : Meter P A ghosts)
    : Type 0 where
  pub closing : StoreStep
  pub closes : (closing ≡ Closes) ⊎ (closing ≡ ClosesInDoubt)
  pub found : List Event
  pub run : StoreRun before (closing ∷ Stops ∷ Opens found ∷ []) (Runs found [])
  pub stands : Stands back (recovered found)
  pub fits : StoreFits back.store (Runs found [])

-- The meter was closed, its device lost what was not synced, and a meter was opened with the device's contents: its links are down.
pub record ComesBack {A : Type 0} {ghosts : Ghosts Memory} (old back : Meter Memory A ghosts)
    : Type 0 where
  pub closed : Memory
  pub cut : Memory
  pub closes : IsClosed old closed
  pub loses : LosesUnsynced closed cut
  pub opened : IsOpened cut.first back.store
  pub stands : (events : List Event) → Remembers events [] back.store
      → Stands back (recovered events)
  pub finds : (before : StoreWorld) → StoreFits old.store before → Finds before back

-- The meter came back from a stop, and accepted the events that follow it.
pub record GoesAgain {A : Type 0} {ghosts : Ghosts Memory} (old : Meter Memory A ghosts) (round : ℕ)
    (new : Meter Memory A ghosts) : Type 0 where
  pub back : Meter Memory A ghosts
  pub comes : ComesBack old back
  pub took : Takes back new (events_after round)

-- The meter was closed and its device lost what was not synced, and then the device could not be opened.
pub record IsUnopened {A : Type 0} {ghosts : Ghosts Memory} (old : Meter Memory A ghosts)
    (fault : RunFault) : Type 0 where
  pub why : OpenFault
  pub tells : fault ≡ Open why
  pub closed : Memory
  pub cut : Memory
  pub closes : IsClosed old closed
  pub loses : LosesUnsynced closed cut
  pub cause : IsCause why cut.first

-- The meter came back from a stop, and one of the events that follow it failed.
pub record GoesNoFurther {A : Type 0} {ghosts : Ghosts Memory} (old : Meter Memory A ghosts)
    (round : ℕ) (fault : RunFault) : Type 0 where
  pub why : AddFault
  pub tells : fault ≡ Add why
  pub back : Meter Memory A ghosts
  pub after : Meter Memory A ghosts
  pub comes : ComesBack old back
  pub takes : TakesPart back after (events_after round) why

-- Why a meter did not go on after a stop.
abbrev pub StaysAway : {A : Type 0} → {ghosts : Ghosts Memory} → Meter Memory A ghosts → ℕ
    → RunFault → Type 0
StaysAway old round fault = IsUnopened old fault ⊎ GoesNoFurther old round fault

abbrev pub Restarts : {A : Type 0} → {ghosts : Ghosts Memory} → Meter Memory A ghosts → ℕ
    → Result (Meter Memory A ghosts) RunFault → Type 0
Restarts old round (Ok new) = GoesAgain old round new
Restarts old round (Err fault) = StaysAway old round fault
