-- The calls of a kept meter. The writes and syncs of its store in a call are handed out before the call's reply, and before the
-- next call.
use Rattle.std.specs.Prelude.{◌≡◌, ◌≢◌, ◌<◌, ◌≤◌, ℕ, true, false, List, [], ◌∷◌, ◌++◌, Option, Some, None, Result, ◌⊎◌, ◌↔◌, length, take, IfSome, IfNone, MatchOption, option_map}
use mathlib.Core.List.{IsPrefix}
use Rattle.rtrb.specs.Ring.{ConsumerLooked, SameConsumer, known_items, received}
use Rattle.dlms_meter.specs.Run.{Feeds, Judges, MeterWorld, Stands, events_of, silent}
use Rattle.dlms_meter.specs.declared.meter.Meter.{Meter}
use Rattle.dlms_pages.specs.declared.device.Pages.{Ghosts}
use Rattle.dlms_pages.specs.Seal.{slot_of}
use Rattle.dlms_pages.specs.declared.memory.Call.{Call}
use Rattle.dlms_pages.specs.declared.memory.Call.TheVariants.{Write, Sync}
use Rattle.dlms_state.specs.declared.event.Event.{Event}
use Rattle.dlms_store.specs.Fitting.{GivesUp, StoreFits}
use Rattle.dlms_store.specs.Store.{CommitIsExhausted, view_of}
use Rattle.dlms_store.specs.World.StoreStep.{Closes as Closing}
use Rattle.dlms_store.specs.World.StoreWorld.{Runs}
use Rattle.dlms_store.specs.declared.fault.AddFault.{AddFault}
use Rattle.dlms_c.specs.Codes.{add_code}
use Rattle.dlms_c.specs.Refusal.{closed_code, idle_refusal_of, refusal_of, reply_refusal_of}
use Rattle.dlms_c.specs.declared.codes.TheConstants.{DEVICE, DONE, NOTHING, SHORT}
use Rattle.dlms_c.specs.HangingUp.{HangsUp}
use Rattle.dlms_state.specs.Events.{buffer_after, clock_after, moment_after, registers_after}
use Rattle.dlms_c.specs.declared.meter.MeterState.{MeterState}
use Rattle.dlms_c.specs.declared.kept_meter.KeptMeter.{KeptMeter}

-- both are there
abbrev pub Both : {X : Type 0} → Option X → Option X → (X → X → Type 0) → Type 0
Both None new p = ⊥
Both (Some old) None p = ⊥
Both (Some old) (Some new) p = p old new

-- a meter took this many of the octets, and this is its reply
abbrev pub Fed : {P A : Type 0} → {ghosts : Ghosts P} → Option (Meter P A ghosts) → List ℕ → ℕ
    → Option (List ℕ) → Option (Meter P A ghosts) → Type 0
Fed old octets taken reply new =
    Both old new (λ before after. Feeds before (take taken octets) reply after)

abbrev pub Judged : {P A : Type 0} → {ghosts : Ghosts P} → Option (Meter P A ghosts) → Event
    → Result (Unit {0}) AddFault → Option (Meter P A ghosts) → Type 0
Judged old event outcome new = Both old new (λ before after. Judges before event outcome after)

abbrev pub FallsSilent : {P A : Type 0} → {ghosts : Ghosts P} → Option (Meter P A ghosts)
    → Option (Meter P A ghosts) → Type 0
FallsSilent old new = Both old new (λ before after. (w : MeterWorld) → Stands before w
    → Stands after (silent w))

-- Nothing was handed out, and no page was lost. The relay may have seen that more writes or syncs wait.
pub record Rests (old new : KeptMeter) : Type 0 where
  pub relay : ConsumerLooked old.relay new.relay
  pub is_lost : new.is_lost ≡ old.is_lost

-- it was only looked at
pub record Looked (old new : KeptMeter) : Type 0 where
  pub meter : new.meter ≡ old.meter
  pub reply : new.reply ≡ old.reply
  pub rests : Rests old new

-- A meter that is there takes octets through at most one frame, and its reply waits.
pub record TakesOctets (old : KeptMeter) (octets : List ℕ) (code taken : ℕ) (new : KeptMeter)
    : Type 0 where
  pub code_is : code ≡ closed_code old.meter
  pub within : taken ≤ length octets
  pub fed : code ≡ 0 → Fed old.meter octets taken
      (option_map (λ reply. reply.items) new.reply) new.meter
  pub some : code ≡ 0 → 0 < length octets → 0 < taken
  pub left : code ≢ 0 → (taken ≡ 0) × (new ≡ old)
  pub others : new ≡ record old { meter = new.meter; reply = new.reply }

-- The meter takes octets through at most one frame, and its reply waits. If the call is refused, nothing changes.
pub record FeedsKept (old : KeptMeter) (octets : List ℕ) (code taken : ℕ) (new : KeptMeter)
    : Type 0 where
  pub code_is : code ≡ refusal_of old new
  pub within : taken ≤ length octets
  pub fed : code ≡ 0 → Fed old.meter octets taken
      (option_map (λ reply. reply.items) new.reply) new.meter
  pub some : code ≡ 0 → 0 < length octets → 0 < taken
  pub refused : code ≢ 0 → (taken ≡ 0) × (new.meter ≡ old.meter) × (new.reply ≡ old.reply)
  pub rests : Rests old new

-- A meter that is there judges an event, and the code is of its outcome.
pub record JudgesOn {P A : Type 0} {ghosts : Ghosts P} (old : Option (Meter P A ghosts))
    (event : Event) (code : ℕ)
    (new : Option (Meter P A ghosts)) : Type 0 where
  pub closed : closed_code old ≢ 0 → (code ≡ closed_code old) × (new ≡ old)
  pub judged : closed_code old ≡ 0
      → (outcome : Result (Unit {0}) AddFault) × (code ≡ add_code outcome)
      × Judged old event outcome new

-- The meter judges an event, and the code is of its outcome. If the call is refused, nothing changes.
pub record JudgesKept (old : KeptMeter) (event : Event) (code : ℕ) (new : KeptMeter) : Type 0 where
  pub refused : refusal_of old new ≢ 0 → (code ≡ refusal_of old new) × (new.meter ≡ old.meter)
  pub judged : refusal_of old new ≡ 0
      → (outcome : Result (Unit {0}) AddFault) × (code ≡ add_code outcome)
      × Judged old.meter event outcome new.meter
  pub reply : new.reply ≡ old.reply
  pub rests : Rests old new

-- The next of the writes and syncs; none if none waits. If a page was lost, none is handed out, and nothing changes.
pub record HandsOut (old : KeptMeter) (call : Option Call) (new : KeptMeter) : Type 0 where
  pub next : IfSome call (λ c. (received new.relay ≡ received old.relay ++ c ∷ [])
      × IsPrefix (known_items old.relay) (c ∷ known_items new.relay))
  pub none : IfNone call (received new.relay ≡ received old.relay)
  pub all : old.is_lost ≡ false → IfNone call (known_items new.relay ≡ [])
  pub lost : old.is_lost ≡ true → (call ≡ None) × (new ≡ old)
  pub ring : SameConsumer old.relay new.relay
  pub meter : new.meter ≡ old.meter
  pub reply : new.reply ≡ old.reply
  pub is_lost : new.is_lost ≡ old.is_lost

-- a reply is put whole, or the room is too short, and the size that it needs is reported
pub record PutsReply (reply : List ℕ) (room code : ℕ) (sent : List ℕ) (size : ℕ) : Type 0 where
  pub whole : length reply ≤ room → (code ≡ DONE) × (sent ≡ reply)
  pub short : room < length reply → (code ≡ SHORT) × (size ≡ length reply)

-- The reply is given, once. With any other code than DONE it stays, and nothing else changes.
pub record Replies (old : KeptMeter) (room code : ℕ) (sent : List ℕ) (size : ℕ) (new : KeptMeter)
    : Type 0 where
  pub refused : reply_refusal_of old new ≢ 0 → (code ≡ reply_refusal_of old new) × (size ≡ 0)
  pub given : reply_refusal_of old new ≡ 0
      → MatchOption old.reply ((code ≡ NOTHING)
      × (size ≡ 0)) (λ reply. PutsReply reply.items room code sent size)
  pub gone : code ≡ DONE → new.reply ≡ None
  pub left : code ≢ DONE → new.reply ≡ old.reply
  pub meter : new.meter ≡ old.meter
  pub rests : Rests old new

-- Half a frame is forgotten. If the call is refused, nothing changes.
pub record FallsSilentKept (old : KeptMeter) (code : ℕ) (new : KeptMeter) : Type 0 where
  pub code_is : code ≡ idle_refusal_of old
  pub silent : code ≡ 0 → FallsSilent old.meter new.meter
  pub refused : code ≢ 0 → new.meter ≡ old.meter
  pub others : new ≡ record old { meter = new.meter }

-- every client's link of a meter that is there has ended
abbrev pub HangsUpBoth : {P A : Type 0} → {ghosts : Ghosts P} → Option (Meter P A ghosts)
    → Option (Meter P A ghosts) → Type 0
HangsUpBoth old new = Both old new HangsUp

-- Every link of a meter that is there has ended, and no reply is left.
pub record EndsLinks (old : KeptMeter) (code : ℕ) (new : KeptMeter) : Type 0 where
  pub code_is : code ≡ closed_code old.meter
  pub ended : code ≡ 0 → HangsUpBoth old.meter new.meter × (new.reply ≡ None)
  pub left : code ≢ 0 → new ≡ old
  pub others : new ≡ record old { meter = new.meter; reply = new.reply }

-- Every client's link has ended, and no reply is left. If the call is refused, nothing changes.
pub record HangsUpKept (old : KeptMeter) (code : ℕ) (new : KeptMeter) : Type 0 where
  pub code_is : code ≡ refusal_of old new
  pub ended : code ≡ 0 → HangsUpBoth old.meter new.meter × (new.reply ≡ None)
  pub refused : code ≢ 0 → (new.meter ≡ old.meter) × (new.reply ≡ old.reply)
  pub rests : Rests old new

-- The store returned its device. If that never failed, `close` is reported as done, and all accepted events are settled on it,
-- unless the store has no further generation.
abbrev pub IsGivenBack : {P A : Type 0} → {ghosts : Ghosts P} → Option (Meter P A ghosts) → ℕ
    → Type 0
IsGivenBack None code = ⊥
IsGivenBack {P = P} {ghosts = ghosts} (Some meter) code = (device : P)
    × ((code ≡ 0) ↔ ((ghosts.view device).faults ≡ 0))
    × ((settled pending : List Event) → code ≡ 0 → StoreFits meter.store (Runs settled pending)
    → (CommitIsExhausted meter.store → ⊥)
    → GivesUp Closing (Runs settled pending) (view_of meter.store) (ghosts.view device))

-- A meter that is there is closed.
pub record Settles (old : KeptMeter) (code : ℕ) (new : KeptMeter) : Type 0 where
  pub closed : closed_code old.meter ≢ 0 → (code ≡ closed_code old.meter) × (new ≡ old)
  pub settled : closed_code old.meter ≡ 0
      → ((code ≡ DONE) ⊎ (code ≡ DEVICE)) × IsGivenBack old.meter code × (new.meter ≡ None)
      × (new.reply ≡ None)
  pub others : new ≡ record old { meter = new.meter; reply = new.reply }

-- The meter is closed, and its last writes and syncs wait: done, or the device failed (33). If the call is refused, nothing changes.
pub record Closes (old : KeptMeter) (code : ℕ) (new : KeptMeter) : Type 0 where
  pub refused : refusal_of old new ≢ 0
      → (code ≡ refusal_of old new) × (new.meter ≡ old.meter) × (new.reply ≡ old.reply)
  pub closed : refusal_of old new ≡ 0
      → ((code ≡ DONE) ⊎ (code ≡ DEVICE)) × IsGivenBack old.meter code × (new.meter ≡ None)
      × (new.reply ≡ None)
  pub rests : Rests old new

-- what is answered of a write or a sync
abbrev pub TellsPage : Option Call → (code index : ℕ) (slot : List ℕ) → Type 0
TellsPage None code index slot = code ≡ 1
TellsPage (Some (Write at bytes)) code index slot = (code ≡ 2) × (index ≡ at)
    × (slot ≡ slot_of at bytes)
TellsPage (Some Sync) code index slot = code ≡ 3

-- the next of them, handed out
pub record HandsPage (old : KeptMeter) (code index : ℕ) (slot : List ℕ) (new : KeptMeter)
    : Type 0 where
  pub call : Option Call
  pub hands : HandsOut old call new
  pub lost : old.is_lost ≡ true → code ≡ 20
  pub tells : old.is_lost ≡ false → TellsPage call code index slot

-- what a meter that is there shows of its events: registers, clock and how many rows
abbrev pub Shows : {P A : Type 0} → {ghosts : Ghosts P} → Option (Meter P A ghosts) → MeterState
    → Type 0
Shows None state = ⊥
Shows (Some meter) state = (w : MeterWorld) → Stands meter w
    → (registers_after (events_of w) ≡ state.active_import ∷ state.active_export
    ∷ state.reactive_import ∷ [])
    × (state.second ≡ clock_after (events_of w)) × (state.running ≡ moment_after (events_of w))
    × (state.rows ≡ length (buffer_after (events_of w)))
