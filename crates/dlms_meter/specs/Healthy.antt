-- Runs in which the device served each call: none is answered with the result of a device that failed.
use Rattle.std.specs.Prelude.{List, [], ◌∷◌, Result, Ok, Err, map, ◌⊎◌}
use Rattle.dlms_pages.specs.Device.{Rose}
use Rattle.dlms_pages.specs.declared.device.Pages.{Ghosts}
use Rattle.dlms_state.specs.declared.event.Event.{Event}
use Rattle.dlms_store.specs.Store.{AddIsExhausted, CommitIsExhausted, IsStopped, view_of}
use Rattle.dlms_store.specs.declared.fault.AddFault.{AddFault}
use Rattle.dlms_store.specs.declared.fault.AddFault.TheVariants.{Refused}
use Rattle.dlms_store.specs.declared.store.Store.{Store}
use Rattle.dlms_meter.specs.declared.meter.Meter.{Meter}
use Rattle.dlms_meter.specs.Run.{MeterWorld, Turn, Choice, Served, DeviceFails, Stands}
use Rattle.dlms_meter.specs.Steps.{Step, Piece, Silence, Happens, Run, Call, Calls, step_of}

-- a call met no fault of the device, the store was not stopped before it, and no checkpoint was wanting
pub record IsHealthy {P A : Type 0} {ghosts : Ghosts P} (old new : Store P A ghosts) : Type 0 where
  pub steady : Rose (view_of old).faults (view_of new).faults → ⊥
  pub running : IsStopped old → ⊥
  pub settles : CommitIsExhausted new → ⊥
  pub takes : (event : Event) → AddIsExhausted old event ⊎ AddIsExhausted new event → ⊥

-- so did each of these calls
abbrev pub AreHealthy : {P A : Type 0} → {ghosts : Ghosts P}
    → (old : Meter P A ghosts) (calls : List Call) (new : Meter P A ghosts) → Calls old calls new
    → Type 0
AreHealthy old [] new is = Unit {0}
AreHealthy old (call ∷ calls) new (mid, is, rest) = IsHealthy old.store mid.store
    × AreHealthy mid calls new rest

-- the frame is answered as the service has it, want of memory being the one free choice
abbrev pub IsServed : Choice → Type 0
IsServed (Served memory) = Unit {0}
IsServed (DeviceFails kept wanted) = ⊥

-- so are these
abbrev pub AreServed : List Turn → Type 0
AreServed [] = Unit {0}
AreServed (turn ∷ turns) = IsServed turn.choice × AreServed turns

-- the event is accepted, or refused by the table of events
abbrev pub IsDecided : Result (Unit {0}) AddFault → Type 0
IsDecided (Ok done) = Unit {0}
IsDecided (Err (Refused cause)) = Unit {0}
IsDecided (Err _) = ⊥

-- no frame of this run is answered with the device's fault, and no event meets one
abbrev pub GoesWell : (w : MeterWorld) (steps : List Step) (w' : MeterWorld) → Run w steps w'
    → Type 0
GoesWell w [] w' run = Unit {0}
GoesWell w (Piece bytes replies ∷ steps) w' (mid, leads, rest) = AreServed leads.turns
    × GoesWell mid steps w' rest
GoesWell w (Silence ∷ steps) w' (mid, leads, rest) = GoesWell mid steps w' rest
GoesWell w (Happens event outcome ∷ steps) w' (mid, leads, rest) = IsDecided outcome
    × GoesWell mid steps w' rest

-- calls of which each met no fault are such a run
abbrev pub HealthyCallsGoWell : {P A : Type 0} → {ghosts : Ghosts P} → Meter P A ghosts
    → Meter P A ghosts → Type 0
HealthyCallsGoWell old new =
    (calls : List Call) (w : MeterWorld) (is : Calls old calls new) → AreHealthy old calls new is
    → Stands old w
    → (w' : MeterWorld) × (run : Run w (map step_of calls) w')
    × GoesWell w (map step_of calls) w' run × Stands new w'
