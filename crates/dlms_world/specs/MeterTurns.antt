-- How the calls of a meter are steps of the world.
use Rattle.std.specs.Prelude.{◌≡◌, ◌≢◌, ◌⊎◌, ℕ, ◌+◌, List, [], ◌∷◌, ◌++◌, length, Option, None, Some, Bool, true, false, Result, Ok, Err}
use Rattle.dlms_frame.specs.Frame.{Parts, spelling}
use Rattle.dlms_frame.specs.Stream.{IsNext}
use Rattle.dlms_headend.specs.declared.stage.Course.TheVariants.{Running}
use Rattle.dlms_link.specs.declared.phase.Phase.TheVariants.{Closed}
use Rattle.dlms_frame.specs.declared.client.Client.{Client}
use Rattle.dlms_meter.specs.Run.{MeterWorld, HasNoFrame, client_at, events_in, is_same, recovered, Stands, Feeds, Judges}
use Rattle.dlms_meter.specs.declared.meter.Meter.{Meter}
use Rattle.dlms_headend.specs.Asking.{PlanValue}
use Rattle.dlms_pages.specs.Device.{Image}
use Rattle.dlms_pages.specs.Stops.{LeavesOnly}
use Rattle.dlms_pages.specs.declared.device.Pages.{Ghosts}
use Rattle.dlms_state.specs.declared.event.Event.{Event}
use Rattle.dlms_store.specs.declared.fault.AddFault.{AddFault}
use Rattle.dlms_store.specs.declared.fault.AddFault.TheVariants.{Device}
use Rattle.dlms_store.specs.Fitting.{DeviceFits, StoreFits, GivesBack, GivesUp, OpensAs}
use Rattle.dlms_store.specs.Image.{IsLeftFor}
use Rattle.dlms_store.specs.Store.{Remembers, view_of}
use Rattle.dlms_store.specs.World.StoreStep.{Closes, ClosesInDoubt}
use Rattle.dlms_store.specs.World.{StoreWorld}
use Rattle.dlms_store.specs.World.StoreWorld.{Rests}
use Rattle.dlms_store.specs.declared.fault.OpenFault.{OpenFault}
use Rattle.dlms_world.specs.World.{World, first_world}
use Rattle.dlms_world.specs.Turn.{Turn, Run, restarted}

-- the meter is the one that the world speaks of
pub record IsMeterOf (m : MeterWorld) (w : World) : Type 0 where
  pub own : m.records w.plan.client ≡ record { link = w.link.meter; session = w.session }
  pub others : (other : Client) → other ≢ w.plan.client → m.records other ≡ w.others other
  pub store : m.store ≡ w.memory

-- the poll, its end of the line and the file are as they were
pub record IsPollSame (w now : World) : Type 0 where
  pub plan : now.plan ≡ w.plan
  pub course : now.course ≡ w.course
  pub rows : now.rows ≡ w.rows
  pub file : now.file ≡ w.file
  pub client : now.link.client ≡ w.link.client
  pub taken : now.link.taken ≡ w.link.taken

-- what a call puts on the line towards the poller: its reply, or nothing
abbrev pub Puts : Option (List ℕ) → (before after : List Parts) → Type 0
Puts None before after = after ≡ before
Puts (Some reply) before after = (frame : Parts) × (reply ≡ spelling frame)
    × (after ≡ before ++ frame ∷ [])

-- A step of the world, after which this is its meter: these frames are left on the way to it, and its reply is on the line.
abbrev pub AnswersTo : World → (left : List Parts) → Option (List ℕ) → MeterWorld → Type 0
AnswersTo w left reply m = (now : World) × Turn w now × IsMeterOf m now × IsPollSame w now
    × (now.link.up_line ≡ left) × Puts reply w.link.down_line now.link.down_line

-- the same, and the line is as it was
abbrev pub StepsTo : World → MeterWorld → Type 0
StepsTo w m = AnswersTo w w.link.up_line None m

-- A frame that a call of feed took. One of the poller's client is the step of the oldest frame on the way, whose reply goes onto
-- the line; or, if no poll is under way and that client's link is closed, the step of another sender, whose reply does not arrive
-- here. One of another client is a step that leaves the poller's line as it is.
abbrev pub StepsFrom : Bool → World → Parts → Option (List ℕ) → MeterWorld → Type 0
StepsFrom true w frame reply m =
    ((rest : List Parts) → w.link.up_line ≡ frame ∷ rest → AnswersTo w rest reply m)
    × (w.course ≢ Running → w.link.client.phase ≡ Closed → StepsTo w m)
StepsFrom false w frame reply m = StepsTo w m

-- a frame of anyone else is no step, and has no reply
abbrev pub StepsAt : Option Client → World → Parts → Option (List ℕ) → MeterWorld → Type 0
StepsAt None w frame reply m = IsMeterOf m w × (reply ≡ None)
StepsAt (Some who) w frame reply m = StepsFrom (is_same w.plan.client who) w frame reply m

-- these bytes end the next frame of the stretch with their last one, and it is such a step
abbrev pub EndsInStep : MeterWorld → List ℕ → World → Option (List ℕ) → MeterWorld → Type 0
EndsInStep m taken w reply m' =
    (i : ℕ) × (j : ℕ) × (frame : Parts) × IsNext (m.stretch ++ taken) m.place i j frame
    × (j + 1 ≡ length (m.stretch ++ taken)) × StepsAt (client_at frame.src) w frame reply m'

-- what a call of feed is: its bytes ended no frame, and nothing is replied; or they ended one
abbrev pub FeedsAreTurns : {P A : Type 0} → {ghosts : Ghosts P} → Meter P A ghosts
    → Meter P A ghosts → Type 0
FeedsAreTurns old new =
    (taken : List ℕ) (reply : Option (List ℕ)) (m : MeterWorld) (w : World)
    → Feeds old taken reply new → Stands old m → IsMeterOf m w
    → (m' : MeterWorld) × Stands new m'
    × (StoreFits old.store m.store → StoreFits new.store m'.store)
    × ((HasNoFrame (m.stretch ++ taken) m.place × (reply ≡ None) × IsMeterOf m' w)
    ⊎ EndsInStep m taken w reply m')

-- a step in which the meter alone changes, by these events
abbrev pub Accepts : World → List Event → MeterWorld → Type 0
Accepts w events m = (now : World) × Turn w now × IsMeterOf m now
    × (now ≡ record w { memory = now.memory })
    × (events_in now.memory ≡ events_in w.memory ++ events)

-- by its outcome: an event that is accepted, a device that fails, or no step at all
abbrev pub IsToldIn : World → Event → Result (Unit {0}) AddFault → MeterWorld → Type 0
IsToldIn w event (Ok done) m = Accepts w (event ∷ []) m
IsToldIn w event (Err Device) m = Accepts w [] m
IsToldIn w event (Err _) m = IsMeterOf m w

-- what a call of pulses or moment is
abbrev pub EventsAreTurns : {P A : Type 0} → {ghosts : Ghosts P} → Meter P A ghosts
    → Meter P A ghosts → Type 0
EventsAreTurns old new =
    (event : Event) (outcome : Result (Unit {0}) AddFault) (m : MeterWorld) (w : World)
    → Judges old event outcome new → Stands old m → IsMeterOf m w
    → (m' : MeterWorld) × Stands new m'
    × (StoreFits old.store m.store → StoreFits new.store m'.store) × IsToldIn w event outcome m'

-- ---- stops and recoveries

-- an image that represents the events of a world in which the power has stopped
abbrev pub IsLeftInStep : World → Image → Type 0
IsLeftInStep w image = (events : List Event) × Turn w (restarted w (Rests events))
    × IsLeftFor events image

-- what a stop at any moment of a call may leave, of feed and of an event
abbrev pub StopsAreTurns : {P A : Type 0} → {ghosts : Ghosts P} → Meter P A ghosts
    → Meter P A ghosts → Type 0
StopsAreTurns old new =
    (m : MeterWorld) (w : World) → Stands old m → StoreFits old.store m.store → IsMeterOf m w
    → (((taken : List ℕ) (reply : Option (List ℕ)) → Feeds old taken reply new
    → LeavesOnly (view_of old.store) (view_of new.store) (IsLeftInStep w))
    × ((event : Event) (outcome : Result (Unit {0}) AddFault) → Judges old event outcome new
    → LeavesOnly (view_of old.store) (view_of new.store) (IsLeftInStep w)))

-- A recovery over a device that fits the world's memory: the meter that it makes is that of the world after it, with the events
-- found.
abbrev pub RecoveriesAreTurns : {P A : Type 0} → {ghosts : Ghosts P} → Meter P A ghosts → Type 0
RecoveriesAreTurns {P} {A} {ghosts} new =
    (first : PlanValue) (w : World) (device : P) → Run (first_world first) w
    → OpensAs w.memory (ghosts.view device) new.store
    → ((events : List Event) → Remembers events [] new.store → Stands new (recovered events))
    → (found : List Event) × (memory : StoreWorld) × Turn w (restarted w memory)
    × Stands new (recovered found) × IsMeterOf (recovered found) (restarted w memory)
    × StoreFits new.store memory

-- a device that a recovery, or a close, gave back
abbrev pub RestsAreTurns : {P A : Type 0} → {ghosts : Ghosts P} → Meter P A ghosts → Type 0
RestsAreTurns {P} {A} {ghosts} meter =
    (w : World) (old new : P)
    → (((fault : OpenFault) → GivesBack w.memory (ghosts.view old) (ghosts.view new) fault
    → (memory : StoreWorld) × Turn w (restarted w memory)
    × DeviceFits (ghosts.view new) memory)
    × (GivesUp Closes w.memory (ghosts.view old) (ghosts.view new)
    ⊎ GivesUp ClosesInDoubt w.memory (ghosts.view old) (ghosts.view new)
    → (memory : StoreWorld) × Turn w (restarted w memory) × DeviceFits (ghosts.view new) memory))
