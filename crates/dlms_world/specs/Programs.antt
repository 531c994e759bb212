-- Programs that hold a meter, a poller and a readings file, with a line between them, and make their calls.
use Rattle.std.specs.Prelude.{◌≡◌, ◌≢◌, ℕ, ◌+◌, List, [], ◌∷◌, ◌++◌, length, Option, None, Some, Result}
use Rattle.dlms_frame.specs.Frame.{Parts, FrameSpelling}
use Rattle.dlms_frame.specs.Stream.{IsNext}
use Rattle.dlms_headend.specs.Asking.{PlanValue}
use Rattle.dlms_headend.specs.Merged.{merged}
use Rattle.dlms_headend.specs.PollerValue.{PollerValue}
use Rattle.dlms_headend.specs.Polling.{fresh_poll, Fits, Begins as BeginsPoll, Polls, TimesOut, CanTimeOut}
use Rattle.dlms_headend.specs.declared.poll_fault.PollFault.{PollFault}
use Rattle.dlms_headend.specs.declared.row.Row.{Row}
use Rattle.dlms_headend.specs.declared.stage.Course.TheVariants.{Ready, Running, Done}
use Rattle.dlms_headend.specs.declared.step.PollStep.{PollStep}
use Rattle.dlms_meter.specs.declared.meter.Meter.{Meter}
use Rattle.dlms_meter.specs.Run.{MeterWorld, client_at, events_of, first_world as first_of_meter, recovered, silent, Stands, Feeds as FeedsMeter, Judges}
use Rattle.dlms_pages.specs.Device.{Image}
use Rattle.dlms_pages.specs.Stops.{IsFixed}
use Rattle.dlms_pages.specs.declared.device.Pages.{Ghosts}
use Rattle.dlms_state.specs.declared.event.Event.{Event}
use Rattle.dlms_store.specs.Fitting.{DeviceFits, StoreFits, GivesBack, OpensAs}
use Rattle.dlms_store.specs.Store.{Remembers, view_of}
use Rattle.dlms_store.specs.World.{StoreWorld}
use Rattle.dlms_store.specs.declared.fault.AddFault.{AddFault}
use Rattle.dlms_store.specs.declared.fault.OpenFault.{OpenFault}
use Rattle.dlms_world.specs.Agree.{AreCaptures}
use Rattle.dlms_world.specs.Sublists.{IsSublist}
use Rattle.dlms_world.specs.PollTurns.{sent_first, sent_on, sent_again}

-- what such a program holds, with the frames that are on the line, the oldest first: going to the meter, and coming to the poller
pub record Held (P A : Type 0) (ghosts : Ghosts P) : Type 0 where
  pub meter : Meter P A ghosts
  pub poller : PollerValue
  pub file : List Row
  pub going : List Parts
  pub coming : List Parts

-- ---- bytes that come to the meter

-- they end this frame, the next one of the earlier bytes
abbrev pub EndsFrameOf : {P A : Type 0} → {ghosts : Ghosts P} → Meter P A ghosts → List ℕ → Parts
    → Type 0
EndsFrameOf meter taken frame = (m : MeterWorld) → Stands meter m
    → (i : ℕ) × (j : ℕ) × IsNext (m.stretch ++ taken) m.place i j frame
    × (j + 1 ≡ length (m.stretch ++ taken))

-- they end no frame of the poller's client
abbrev pub EndsNoneOf : {P A : Type 0} → {ghosts : Ghosts P} → Meter P A ghosts → List ℕ → PlanValue
    → Type 0
EndsNoneOf meter taken plan =
    (m : MeterWorld) (i j : ℕ) (frame : Parts) → Stands meter m
    → IsNext (m.stretch ++ taken) m.place i j frame → j + 1 ≡ length (m.stretch ++ taken)
    → client_at frame.src ≢ Some plan.client

-- a reply spells this frame, or there is none
abbrev pub IsReply : Option (List ℕ) → List Parts → Type 0
IsReply None frames = frames ≡ []
IsReply (Some reply) frames = (frame : Parts) × FrameSpelling reply frame × (frames ≡ frame ∷ [])

-- ---- recoveries

-- what the contract of a recovery that made a meter says
pub record Opens {P A : Type 0} {ghosts : Ghosts P} (device : P) (new : Meter P A ghosts)
    : Type 0 where
  pub opens : (before : StoreWorld) → DeviceFits (ghosts.view device) before
      → OpensAs before (ghosts.view device) new.store
  pub stands : (events : List Event) → Remembers events [] new.store → Stands new (recovered events)

-- and what that of one that answered a fault says
abbrev pub Fails : {P : Type 0} → Ghosts P → (device back : P) → OpenFault → Type 0
Fails ghosts device back fault = (before : StoreWorld) → DeviceFits (ghosts.view device) before
    → GivesBack before (ghosts.view device) (ghosts.view back) fault

-- Recoveries over a device, one after another, of which the last makes this meter: others answer a fault, or are cut off by a stop.
pub data Recovers {P A : Type 0} {ghosts : Ghosts P} (new : Meter P A ghosts) : P → Type 0 where
  Made : (device : P) → Opens device new → Recovers new device
  Failed : (device back : P) (fault : OpenFault) → Fails ghosts device back fault
      → Recovers new back → Recovers new device
  CutOff : (device back after : P) (fault : OpenFault) (image : Image)
      → Fails ghosts device back fault
      → (ghosts.view back).left_since (ghosts.view device).moment image
      → IsFixed (ghosts.view after) image → Recovers new after → Recovers new device
  CutOffMaking : (device after : P) (other : Meter P A ghosts) (image : Image) → Opens device other
      → (view_of other.store).left_since (ghosts.view device).moment image
      → IsFixed (ghosts.view after) image → Recovers new after → Recovers new device

-- ---- what it may do

pub data Act {P A : Type 0} {ghosts : Ghosts P} : Held P A ghosts → Held P A ghosts → Type 0 where
  -- the poller gives its first frame
  Begins : (h : Held P A ghosts) (result : Option Parts) (new : PollerValue)
      → h.poller.course ≡ Ready → BeginsPoll h.poller result new
      → Act h (record h { poller = new; going = h.going ++ sent_first result })
  -- it is given the oldest frame on the way to it
  Hears : (h : Held P A ghosts) (frame : Parts) (rest : List Parts)
      (result : Result PollStep PollFault) (new : PollerValue) → h.poller.course ≡ Running
      → h.coming ≡ frame ∷ rest
      → ((apdus : List (List ℕ)) → Fits h.poller apdus → Polls apdus frame h.poller result new)
      → Act h (record h { poller = new; going = h.going ++ sent_on result; coming = rest })
  -- a timeout is reported to it, while nothing is on the line
  Waits : (h : Held P A ghosts) (result : Result Parts PollFault) (new : PollerValue)
      → h.poller.course ≡ Running → CanTimeOut h.poller → h.going ≡ [] → h.coming ≡ []
      → TimesOut h.poller result new
      → Act h (record h { poller = new; going = sent_again result })
  -- While nothing is on the line a new poller is made, by a plan of whatever client, wherever the last one stands: its poll is over, or
  -- the head end was stopped.
  Renews : (h : Held P A ghosts) (plan : PlanValue) → h.going ≡ [] → h.coming ≡ []
      → Act h (record h { poller = fresh_poll plan })
  -- rows of a poll that is done are merged into the file: all of them, or some of them in their order
  Merges : (h : Held P A ghosts) (kept : List Row) → h.poller.course ≡ Done
      → IsSublist kept h.poller.talk.rows → Act h (record h { file = merged h.file kept })
  -- the oldest frame is lost
  LosesGoing : (h : Held P A ghosts) (frame : Parts) (rest : List Parts) → h.going ≡ frame ∷ rest
      → Act h (record h { going = rest })
  LosesComing : (h : Held P A ghosts) (frame : Parts) (rest : List Parts) → h.coming ≡ frame ∷ rest
      → Act h (record h { coming = rest })
  -- the meter is fed bytes with which the oldest frame on the way to it ends, and its reply goes onto the line
  Arrives : (h : Held P A ghosts) (frame : Parts) (rest sent : List Parts) (taken : List ℕ)
      (reply : Option (List ℕ)) (new : Meter P A ghosts) → h.going ≡ frame ∷ rest
      → client_at frame.src ≡ Some h.poller.plan.client → EndsFrameOf h.meter taken frame
      → FeedsMeter h.meter taken reply new → IsReply reply sent
      → Act h (record h { meter = new; going = rest; coming = h.coming ++ sent })
  -- bytes with which no frame of the poller's client ends: half a frame, noise, and what other clients send
  Feeds : (h : Held P A ghosts) (taken : List ℕ) (reply : Option (List ℕ)) (new : Meter P A ghosts)
      → EndsNoneOf h.meter taken h.poller.plan → FeedsMeter h.meter taken reply new
      → Act h (record h { meter = new })
  -- before the poller begins, any bytes of anyone
  Intrudes : (h : Held P A ghosts) (taken : List ℕ) (reply : Option (List ℕ))
      (new : Meter P A ghosts) → h.poller.course ≡ Ready → FeedsMeter h.meter taken reply new
      → Act h (record h { meter = new })
  -- silence, a pulse, a moment
  Idles : (h : Held P A ghosts) (new : Meter P A ghosts)
      → ((m : MeterWorld) → Stands h.meter m → Stands new (silent m)) → new.store ≡ h.meter.store
      → Act h (record h { meter = new })
  Tells : (h : Held P A ghosts) (event : Event) (outcome : Result (Unit {0}) AddFault)
      (new : Meter P A ghosts) → Judges h.meter event outcome new → Act h (record h { meter = new })
  -- the power stops between two calls of the meter, inside one of feed, or inside one that tells an event, and the meter is recovered
  Stops : (h : Held P A ghosts) (image : Image) (after : P) (new : Meter P A ghosts)
      → (view_of h.meter.store).may_leave image → IsFixed (ghosts.view after) image
      → Recovers new after → Act h (record h { meter = new })
  StopsFeeding : (h : Held P A ghosts) (taken : List ℕ) (reply : Option (List ℕ))
      (cut : Meter P A ghosts) (image : Image) (after : P) (new : Meter P A ghosts)
      → FeedsMeter h.meter taken reply cut
      → (view_of cut.store).left_since (view_of h.meter.store).moment image
      → IsFixed (ghosts.view after) image → Recovers new after → Act h (record h { meter = new })
  StopsTelling : (h : Held P A ghosts) (event : Event) (outcome : Result (Unit {0}) AddFault)
      (cut : Meter P A ghosts) (image : Image) (after : P) (new : Meter P A ghosts)
      → Judges h.meter event outcome cut
      → (view_of cut.store).left_since (view_of h.meter.store).moment image
      → IsFixed (ghosts.view after) image → Recovers new after → Act h (record h { meter = new })

-- one after another
pub data Acts {P A : Type 0} {ghosts : Ghosts P} (first : Held P A ghosts) : Held P A ghosts
    → Type 0 where
  Begun : Acts first first
  Then : (mid now : Held P A ghosts) → Acts first mid → Act mid now → Acts first now

-- initially: a formatted meter on a device that keeps the rules, a poller that has not begun, an empty file, and nothing on the
-- line
pub record IsFirst {P A : Type 0} {ghosts : Ghosts P} (plan : PlanValue) (h : Held P A ghosts)
    : Type 0 where
  pub stands : Stands h.meter first_of_meter
  pub fits : StoreFits h.meter.store first_of_meter.store
  pub poller : h.poller ≡ fresh_poll plan
  pub file : h.file ≡ []
  pub going : h.going ≡ []
  pub coming : h.coming ≡ []

-- Whatever such a program does, in whatever order: each row of its file is a capture of the events that its meter holds.
abbrev pub FilesAreCaptures : {P A : Type 0} → {ghosts : Ghosts P} → Meter P A ghosts → Type 0
FilesAreCaptures {P} {A} {ghosts} meter =
    (plan : PlanValue) (first now : Held P A ghosts) → IsFirst plan first → Acts first now
    → now.meter ≡ meter
    → (m : MeterWorld) × Stands meter m × StoreFits meter.store m.store
    × AreCaptures (events_of m) now.file
