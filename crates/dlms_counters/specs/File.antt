-- What a call leaves of a file of counters.
use Rattle.std.specs.Prelude.{◌≡◌, true, false, Option, Some, None, Result, Ok, Err, OnOk, OnErr}
use Rattle.dlms_pages.specs.Device.{View, Rose}
use Rattle.dlms_pages.specs.declared.device.Pages.{Ghosts}
use Rattle.dlms_counters.specs.Slot.{CounterState}
use Rattle.dlms_counters.specs.Writing.{GoesOn, IsSettled, Stores}
use Rattle.dlms_counters.specs.declared.fault.CounterFault.{CounterFault}
use Rattle.dlms_counters.specs.declared.fault.CounterFault.TheVariants.{Device}
use Rattle.dlms_counters.specs.declared.file.CounterFile.{CounterFile}

abbrev pub view_of : {P : Type 0} → {ghosts : Ghosts P} → CounterFile P ghosts → View
view_of {ghosts = ghosts} file = ghosts.view file.device

-- The next contents were written. After an Ok they are the file's, and settled. After a fault the
-- file is stopped with the old ones; a stop leaves the old or the next ones.
pub record Attempts {T P : Type 0} {ghosts : Ghosts P} (next : CounterState)
    (old new : CounterFile P ghosts) (result : Result T CounterFault) : Type 0 where
  pub device : GoesOn (view_of old) (view_of new)
  pub done : OnOk result ((new.counters ≡ next) × (new.stopped ≡ false))
  pub failed : OnErr result ((new.counters ≡ old.counters) × (new.stopped ≡ true)
      × Rose (view_of old).faults (view_of new).faults)
  pub fault : OnErr result (result ≡ Err Device)
  pub stores : IsSettled (view_of old) old.counters
      → Stores old.counters next (view_of old) (view_of new) result
  pub settled : IsSettled (view_of old) old.counters → OnOk result (IsSettled (view_of new) next)

-- a change was made, or refused with nothing changed
abbrev pub Changes : {T P : Type 0} → {ghosts : Ghosts P} → Result CounterState CounterFault
    → (old new : CounterFile P ghosts) → Result T CounterFault → Type 0
Changes (Err fault) old new result = (result ≡ Err fault) × (new ≡ old)
Changes (Ok next) old new result = Attempts next old new result

-- the same, if there may be nothing to change
abbrev pub MayChange : {P : Type 0} → {ghosts : Ghosts P}
    → Result (Option CounterState) CounterFault → (old new : CounterFile P ghosts) → Result (Unit {0}) CounterFault → Type 0
MayChange (Err fault) old new result = (result ≡ Err fault) × (new ≡ old)
MayChange (Ok None) old new result = (result ≡ Ok tt) × (new ≡ old)
MayChange (Ok (Some next)) old new result = Attempts next old new result
