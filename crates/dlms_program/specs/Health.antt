-- What lies between two moments of a replay, and the faults that a call may meet there.
use Rattle.std.specs.Prelude.{◌≡◌, ◌⊎◌, true, ℕ, List, [], ◌∷◌, ◌++◌, Option, Some, None, Result}
use Rattle.dlms_pages.specs.Device.{View, Rose}
use Rattle.dlms_pages.specs.declared.device.Pages.{Ghosts}
use Rattle.dlms_state.specs.declared.event.Event.{Event}
use Rattle.dlms_store.specs.Cause.{IsAtLast, IsCause}
use Rattle.dlms_store.specs.Fitting.{DeviceFits, GivesUp, IsOpened, OpensAs, StoreFits}
use Rattle.dlms_store.specs.Later.{GoesOn, IsSpent, LeavesNoEarlier}
use Rattle.dlms_store.specs.Store.{AddIsExhausted, CommitIsExhausted, IsRunning, IsStopped, IsTooSmall, Remembers, view_of}
use Rattle.dlms_store.specs.World.{StoreWorld}
use Rattle.dlms_store.specs.World.StoreStep.{Closes, ClosesInDoubt}
use Rattle.dlms_store.specs.declared.fault.AddFault.{AddFault}
use Rattle.dlms_store.specs.declared.fault.OpenFault.{OpenFault}
use Rattle.dlms_store.specs.declared.fault.OpenFault.TheVariants as opening
use Rattle.dlms_store.specs.declared.store.Store.{Store}
use Rattle.dlms_meter.specs.declared.meter.Meter.{Meter}
use Rattle.dlms_meter.specs.Run.{JudgedFor, MayChoose, Stands, Turn, recovered}
use Rattle.dlms_meter.specs.Steps.{Call, Fed, IsCall, Told}

-- ---- from one moment to another

-- What `close` says of the device that it gives back.
pub record IsClosed {P A : Type 0} {ghosts : Ghosts P} (old : Meter P A ghosts) (device : P)
    : Type 0 where
  pub run : (before : StoreWorld) → StoreFits old.store before
      → GivesUp Closes before (view_of old.store) (ghosts.view device)
      ⊎ GivesUp ClosesInDoubt before (view_of old.store) (ghosts.view device)
  pub settles : (IsStopped old.store → ⊥)
      → (Rose (view_of old.store).faults (ghosts.view device).faults → ⊥)
      → (CommitIsExhausted old.store → ⊥)
      → (before : StoreWorld) → StoreFits old.store before
      → GivesUp Closes before (view_of old.store) (ghosts.view device)
  pub later : GoesOn (view_of old.store) (ghosts.view device)
  pub from : IsRunning old.store → (Rose (view_of old.store).faults (ghosts.view device).faults → ⊥)
      → (before : StoreWorld) → StoreFits old.store before
      → LeavesNoEarlier old.store (ghosts.view device)

-- Why no meter was recovered from a device: its contents, or that it failed in that call, or that it is too small.
pub record IsRefused (old new : View) (fault : OpenFault) : Type 0 where
  pub exact : old.honest ≡ true → IsCause fault old.seen
  pub device : fault ≡ opening.Device → Rose old.faults new.faults
  pub size : fault ≡ opening.Size → IsTooSmall old
  pub later : GoesOn old new

-- What `recover` says of the meter that it makes of a device.
pub record IsMade {P A : Type 0} {ghosts : Ghosts P} (device : P) (meter : Meter P A ghosts)
    : Type 0 where
  pub opens : (before : StoreWorld) → DeviceFits (ghosts.view device) before
      → OpensAs before (ghosts.view device) meter.store
  pub stands : (events : List Event) → Remembers events [] meter.store
      → Stands meter (recovered events)
  pub exact : (ghosts.view device).honest ≡ true → IsOpened (ghosts.view device).seen meter.store
  pub later : GoesOn (ghosts.view device) (view_of meter.store)

-- so it was recovered, or refused for such a cause
abbrev pub IsRecovered : {P A : Type 0} → {ghosts : Ghosts P} → P → Option (Meter P A ghosts)
    → Type 0
IsRecovered device (Some meter) = IsMade device meter
IsRecovered {P} {A} {ghosts} device None = (back : P) × (fault : OpenFault)
    × IsRefused (ghosts.view device) (ghosts.view back) fault

-- one call of a meter; or it is closed, and recovered or not
abbrev pub Leads : {P A : Type 0} → {ghosts : Ghosts P} → Option (Meter P A ghosts)
    → Option (Meter P A ghosts) → Type 0
Leads {P} {A} {ghosts} (Some old) (Some new) = ((call : Call) × IsCall old call new)
    ⊎ ((device : P) × IsClosed old device × IsRecovered device (Some new))
Leads {P} {A} {ghosts} (Some old) None = (device : P) × IsClosed old device
    × IsRecovered {A = A} {ghosts = ghosts} device None
Leads None meter = ⊥

-- so it goes from one moment to another
pub data Reaches {P A : Type 0} {ghosts : Ghosts P} (start : Option (Meter P A ghosts)) : Option
    (Meter P A ghosts) → Type 0 where
  Here : Reaches start start
  Further : (mid new : Option (Meter P A ghosts)) → Reaches start mid → Leads mid new
      → Reaches start new

-- A meter was closed, and for this cause not recovered.
pub record IsGone {P A : Type 0} {ghosts : Ghosts P} (start : Option (Meter P A ghosts))
    (fault : OpenFault) : Type 0 where
  pub old : Meter P A ghosts
  pub reaches : Reaches start (Some old)
  pub device : P
  pub closed : IsClosed old device
  pub back : P
  pub refused : IsRefused (ghosts.view device) (ghosts.view back) fault

-- ---- the calls of one line

-- One call judged the event. It reports a fault of the device only if the device's count of faults rose in this call, and an
-- exhausted generation only if the store could not take this event before it.
pub record IsToldBy {P A : Type 0} {ghosts : Ghosts P} (event : Event)
    (outcome : Result (Unit {0}) AddFault) (old new : Meter P A ghosts) : Type 0 where
  pub call : IsCall old (Told event outcome) new
  pub cause : JudgedFor event outcome old.store new.store

-- Calls of feed, one after another, took these bytes. Each call ended no frame, or one: that frame's turn follows the turns of
-- the calls before, and if the frame was answered as by a device that failed, the cause lies in this call.
pub data IsFedBy {P A : Type 0} {ghosts : Ghosts P} (start : Meter P A ghosts) : List ℕ → List Turn
    → Meter P A ghosts → Type 0 where
  NoCall : IsFedBy start [] [] start
  NoFrame : (bytes taken : List ℕ) (turns : List Turn) (old new : Meter P A ghosts)
      → IsFedBy start bytes turns old
      → IsCall old (Fed taken None) new → IsFedBy start (bytes ++ taken) turns new
  OneFrame : (bytes taken : List ℕ) (turns : List Turn) (turn : Turn) (old new : Meter P A ghosts)
      → IsFedBy start bytes turns old
      → IsCall old (Fed taken turn.reply) new → MayChoose old.store new.store turn.choice
      → IsFedBy start (bytes ++ taken) (turns ++ turn ∷ []) new

-- The meter was closed, and its device refused for this cause.
pub record StaysClosed {P A : Type 0} {ghosts : Ghosts P} (old : Meter P A ghosts)
    (fault : OpenFault) : Type 0 where
  pub device : P
  pub closed : IsClosed old device
  pub back : P
  pub refused : IsRefused (ghosts.view device) (ghosts.view back) fault

-- ---- a device that fails

-- a call met a fault of the device, or a checkpoint was wanting, or a number for a row
abbrev pub ServesIll : {P A : Type 0} → {ghosts : Ghosts P} → Store P A ghosts → Store P A ghosts
    → Type 0
ServesIll old new = Rose (view_of old).faults (view_of new).faults ⊎ CommitIsExhausted new
    ⊎ ((event : Event) × (AddIsExhausted old event ⊎ AddIsExhausted new event))

-- the same when a meter was closed
abbrev pub ClosesIll : {P A : Type 0} → {ghosts : Ghosts P} → Store P A ghosts → View → Type 0
ClosesIll old device = Rose (view_of old).faults device.faults ⊎ CommitIsExhausted old

-- and when its device was opened
abbrev pub OpensIll : View → View → Type 0
OpensIll old new = Rose old.faults new.faults ⊎ IsAtLast old.seen

-- Somewhere between these two moments of a replay it was so.
pub data MeetsFault {P A : Type 0} {ghosts : Ghosts P} (start finish : Option (Meter P A ghosts))
    : Type 0 where
  InCall : (old new : Meter P A ghosts) (call : Call) → Reaches start (Some old)
      → IsCall old call new → Reaches (Some new) finish → ServesIll old.store new.store
      → MeetsFault start finish
  InClose : (old : Meter P A ghosts) (device : P) (new : Option (Meter P A ghosts))
      → Reaches start (Some old) → IsClosed old device → IsRecovered device new → Reaches new finish
      → ClosesIll old.store (ghosts.view device) → MeetsFault start finish
  InOpen : (fault : OpenFault) (gone : IsGone start fault) → Reaches None finish
      → OpensIll (ghosts.view gone.device) (ghosts.view gone.back) → MeetsFault start finish

-- ---- what a caller sees of it at the two ends

-- A store was at its end: at the later moment, or when a meter was closed between the two.
pub data MeetsEnd {P A : Type 0} {ghosts : Ghosts P} (start finish : Option (Meter P A ghosts))
    : Type 0 where
  AtLast : (meter : Meter P A ghosts) → finish ≡ Some meter → IsSpent meter.store
      → MeetsEnd start finish
  AtClose : (old : Meter P A ghosts) (device : P) (new : Option (Meter P A ghosts))
      → Reaches start (Some old) → IsClosed old device → IsRecovered device new → Reaches new finish
      → IsSpent old.store → MeetsEnd start finish
