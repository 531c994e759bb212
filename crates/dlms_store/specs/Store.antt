-- What a store knows of events, whatever its device does.
use Rattle.std.specs.Prelude.{◌≡◌, ◌≢◌, ◌≤◌, ◌<◌, ◌+◌, ℕ, true, false, List, [], ◌∷◌, ◌++◌, ◌⊎◌, length, Option}
use Rattle.dlms_pages.specs.Device.{View, Rose}
use Rattle.dlms_pages.specs.declared.device.Pages.{Ghosts}
use Rattle.dlms_state.specs.declared.event.Event.{Event}
use Rattle.dlms_state.specs.declared.event.Refused.{Refused}
use Rattle.dlms_state.specs.Refusal.{refusal}
use Rattle.dlms_state.specs.StateValue.{StateValue, IsStateOf, HasNumberFor}
use Rattle.dlms_journal.specs.Record.{Holds, record_of}
use Rattle.dlms_store.specs.Layout.{other_of}
use Rattle.dlms_store.specs.declared.store.Store.{Store}
use Rattle.dlms_store.specs.declared.layout.TheConstants.{JOURNAL_PAGES, PAGES}
use Rattle.dlms_journal.specs.declared.page.TheConstants.{MOST_PAYLOAD}
use Rattle.dlms_store.specs.declared.layout.TheConstants.{LAST_GENERATION, MOST_CAPTURED}

-- what is known of its device
abbrev pub view_of : {P A : Type 0} → {ghosts : Ghosts P} → Store P A ghosts → View
view_of {ghosts = ghosts} store = ghosts.view store.device

-- it holds the state after all accepted events
abbrev pub state_in : {P A : Type 0} → {ghosts : Ghosts P} → Store P A ghosts → StateValue
state_in store = store.state

-- the records of the events that are not committed
abbrev pub records_in : {P A : Type 0} → {ghosts : Ghosts P} → Store P A ghosts → List ℕ
records_in store = store.pending.items

-- its device failed in an earlier call
abbrev pub IsStopped : {P A : Type 0} → {ghosts : Ghosts P} → Store P A ghosts → Type 0
IsStopped store = store.stopped ≡ true

abbrev pub IsRunning : {P A : Type 0} → {ghosts : Ghosts P} → Store P A ghosts → Type 0
IsRunning store = store.stopped ≡ false

-- a device on which no store has room
abbrev pub IsTooSmall : View → Type 0
IsTooSmall device = length device.seen < PAGES

-- a commit of the pending events makes a checkpoint
abbrev pub IsFull : {P A : Type 0} → {ghosts : Ghosts P} → Store P A ghosts → Type 0
IsFull store = store.next ≡ JOURNAL_PAGES

-- no further checkpoint can be made
abbrev pub IsLast : {P A : Type 0} → {ghosts : Ghosts P} → Store P A ghosts → Type 0
IsLast store = store.generation ≡ LAST_GENERATION

-- why the event may not come next, or None
abbrev pub refusal_in : {P A : Type 0} → {ghosts : Ghosts P} → Store P A ghosts → Event
    → Option Refused
refusal_in store event = refusal store.state.last store.state.offset event

-- the ring takes no further row before the next checkpoint
abbrev pub IsRingFull : {P A : Type 0} → {ghosts : Ghosts P} → Store P A ghosts → Type 0
IsRingFull store = store.captured ≡ MOST_CAPTURED

-- the event's record fits after the pending ones
abbrev pub HasRoom : {P A : Type 0} → {ghosts : Ghosts P} → Store P A ghosts → Event → Type 0
HasRoom store event = length store.pending.items + length (record_of event) ≤ MOST_PAYLOAD

-- `add` appends the event to the pending ones; otherwise those are settled first, and it is the only pending one. If the ring is
-- full, every event needs a checkpoint.
abbrev pub JoinsPending : {P A : Type 0} → {ghosts : Ghosts P} → Store P A ghosts → Event → Type 0
JoinsPending store event = HasRoom store event × (store.captured < MOST_CAPTURED)

-- no page of the journal is left, and no checkpoint can be made: what is pending stays so
abbrev pub IsExhausted : {P A : Type 0} → {ghosts : Ghosts P} → Store P A ghosts → Type 0
IsExhausted store = IsFull store × IsLast store

-- a commit needs a checkpoint that can no longer be made
abbrev pub CommitIsExhausted : {P A : Type 0} → {ghosts : Ghosts P} → Store P A ghosts → Type 0
CommitIsExhausted store = (records_in store ≢ []) × IsExhausted store

-- the event's `add` needs a checkpoint that can no longer be made
abbrev pub RoomIsExhausted : {P A : Type 0} → {ghosts : Ghosts P} → Store P A ghosts → Event
    → Type 0
RoomIsExhausted store event = (JoinsPending store event → ⊥) × (IsRingFull store ⊎ IsFull store)
    × IsLast store

-- the event captures a row whose number would be past 64 bits, or its `add` needs a checkpoint that can no longer be made
abbrev pub AddIsExhausted : {P A : Type 0} → {ghosts : Ghosts P} → Store P A ghosts → Event → Type 0
AddIsExhausted store event = (HasNumberFor (state_in store) event → ⊥) ⊎ RoomIsExhausted store event

-- These events are settled, and those are pending: the store has the state of them all, and the records of the pending ones.
pub record Remembers {P A : Type 0} {ghosts : Ghosts P} (settled pending : List Event)
    (store : Store P A ghosts) : Type 0 where
  pub state : IsStateOf (settled ++ pending) (state_in store)
  pub records : Holds (records_in store) pending

-- what was settled and pending is so still
abbrev pub Keeps : {P A : Type 0} → {ghosts : Ghosts P} → Store P A ghosts → Store P A ghosts
    → Type 0
Keeps old new = (settled pending : List Event) → Remembers settled pending old
    → Remembers settled pending new

-- what was pending is settled
abbrev pub Settles : {P A : Type 0} → {ghosts : Ghosts P} → Store P A ghosts → Store P A ghosts
    → Type 0
Settles old new = (settled pending : List Event) → Remembers settled pending old
    → Remembers (settled ++ pending) [] new

-- the event joined those that are pending
abbrev pub Joins : {P A : Type 0} → {ghosts : Ghosts P} → Event → Store P A ghosts
    → Store P A ghosts → Type 0
Joins event old new = (settled pending : List Event) → Remembers settled pending old
    → Remembers settled (pending ++ event ∷ []) new

-- what was pending is settled, and the event alone is pending
abbrev pub JoinsAlone : {P A : Type 0} → {ghosts : Ghosts P} → Event → Store P A ghosts
    → Store P A ghosts → Type 0
JoinsAlone event old new = (settled pending : List Event) → Remembers settled pending old
    → Remembers (settled ++ pending) (event ∷ []) new

-- The device failed in this call: the store is stopped, and it knows of the events what it knew.
pub record Fails {P A : Type 0} {ghosts : Ghosts P} (old new : Store P A ghosts) : Type 0 where
  pub cause : Rose (view_of old).faults (view_of new).faults
  pub stopped : IsStopped new
  pub keeps : Keeps old new

-- The call changed nothing but what is held of events in memory, and how many rows they captured.
pub record IsElsewhereSame {P A : Type 0} {ghosts : Ghosts P} (old new : Store P A ghosts)
    : Type 0 where
  pub device : new.device ≡ old.device
  pub slot : new.slot ≡ old.slot
  pub generation : new.generation ≡ old.generation
  pub next : new.next ≡ old.next
  pub stopped : new.stopped ≡ old.stopped

-- A checkpoint was made: the other slot is active, of the next generation, the journal begins again, and no row was captured since.
pub record IsRenewed {P A : Type 0} {ghosts : Ghosts P} (old new : Store P A ghosts) : Type 0 where
  pub slot : new.slot ≡ other_of old.slot
  pub generation : new.generation ≡ old.generation + 1
  pub next : new.next ≡ 0
  pub captured : new.captured ≡ 0

-- What was pending went into the next journal page, of this slot and generation.
pub record TakesPage {P A : Type 0} {ghosts : Ghosts P} (old new : Store P A ghosts) : Type 0 where
  pub slot : new.slot ≡ old.slot
  pub generation : new.generation ≡ old.generation
  pub next : new.next ≡ old.next + 1

-- A checkpoint was made: the other slot is active, of the next generation, and the journal begins again.
pub record MakesCheckpoint {P A : Type 0} {ghosts : Ghosts P} (old new : Store P A ghosts)
    : Type 0 where
  pub slot : new.slot ≡ other_of old.slot
  pub generation : new.generation ≡ old.generation + 1
  pub next : new.next ≡ 0
