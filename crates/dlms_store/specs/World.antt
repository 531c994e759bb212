-- A store, its device and its power, over whole runs.
use Rattle.std.specs.Prelude.{◌≡◌, ◌≤◌, ◌⊎◌, ℕ, List, [], ◌∷◌, ◌++◌, length, take}
use Rattle.std.specs.List.{flat_map}
use Rattle.dlms_state.specs.declared.event.Event.{Event}
use Rattle.dlms_journal.specs.Record.{record_of}
use Rattle.dlms_journal.specs.declared.page.TheConstants.{MOST_PAYLOAD}

-- how many bytes the events' records have
abbrev pub record_bytes : List Event → ℕ
record_bytes events = length (flat_map record_of events)

pub data StoreWorld : Type 0 where
  -- a running store: each image represents the settled events; the pending ones are in memory
  Runs : (settled pending : List Event) → StoreWorld
  -- a stopped store, or the device that it returned: each image represents the settled events and a prefix of the others
  InDoubt : (settled pending : List Event) → StoreWorld
  -- a device after a stop, or one that recovery has synced: each image represents these
  Rests : (events : List Event) → StoreWorld

pub data StoreStep : Type 0 where
  -- `add` answered Ok, and the event joined those that are pending
  Adds : (event : Event) → StoreStep
  -- `add` answered Ok, having settled what was pending
  AddsBehind : (event : Event) → StoreStep
  -- `commit` or `checkpoint` answered Ok
  Settles : StoreStep
  -- a call answered Refused, Stopped or Exhausted
  Refuses : StoreStep
  -- a call answered Device
  Fails : StoreStep
  -- `close` settled what was pending
  Closes : StoreStep
  -- `close` could not settle it
  ClosesInDoubt : StoreStep
  -- the power stopped, inside a call or after it
  Stops : StoreStep
  -- `open` answered Ok with the state of these events
  Opens : (events : List Event) → StoreStep
  -- `open` answered a fault
  OpenFails : StoreStep

-- these events and a beginning of those
abbrev pub IsBetween : List Event → List Event → List Event → Type 0
IsBetween settled pending events = (n : ℕ) × (events ≡ settled ++ take n pending)

-- From before, this step may lead to now.
abbrev pub Next : StoreWorld → StoreStep → StoreWorld → Type 0
Next (Runs s p) (Adds e) now = (now ≡ Runs s (p ++ e ∷ []))
    × (record_bytes (p ++ e ∷ []) ≤ MOST_PAYLOAD)
Next (Runs s p) (AddsBehind e) now = (now ≡ Runs (s ++ p) (e ∷ []))
    × (record_bytes (e ∷ []) ≤ MOST_PAYLOAD)
Next (Runs s p) Settles now = now ≡ Runs (s ++ p) []
Next (Runs s p) Refuses now = now ≡ Runs s p
Next (Runs s p) Fails now = now ≡ InDoubt s p
Next (Runs s p) Closes now = now ≡ Rests (s ++ p)
Next (Runs s p) ClosesInDoubt now = now ≡ InDoubt s p
Next (Runs s p) Stops now = (events : List Event) × IsBetween s p events × (now ≡ Rests events)
Next (InDoubt s p) Refuses now = now ≡ InDoubt s p
Next (InDoubt s p) ClosesInDoubt now = now ≡ InDoubt s p
Next (InDoubt s p) Stops now = (events : List Event) × IsBetween s p events × (now ≡ Rests events)
-- the first sync that succeeds fixes what it finds
Next (InDoubt s p) (Opens events) now = IsBetween s p events × (now ≡ Runs events [])
Next (InDoubt s p) OpenFails now = (now ≡ InDoubt s p)
    ⊎ ((events : List Event) × IsBetween s p events × (now ≡ Rests events))
Next (Rests events) Stops now = now ≡ Rests events
Next (Rests events) (Opens found) now = (found ≡ events) × (now ≡ Runs found [])
Next (Rests events) OpenFails now = now ≡ Rests events
-- no other step is taken
Next (Runs s p) (Opens events) now = ⊥
Next (Runs s p) OpenFails now = ⊥
Next (InDoubt s p) (Adds e) now = ⊥
Next (InDoubt s p) (AddsBehind e) now = ⊥
Next (InDoubt s p) Settles now = ⊥
Next (InDoubt s p) Fails now = ⊥
Next (InDoubt s p) Closes now = ⊥
Next (Rests events) (Adds e) now = ⊥
Next (Rests events) (AddsBehind e) now = ⊥
Next (Rests events) Settles now = ⊥
Next (Rests events) Refuses now = ⊥
Next (Rests events) Fails now = ⊥
Next (Rests events) Closes now = ⊥
Next (Rests events) ClosesInDoubt now = ⊥

abbrev pub StoreRun : StoreWorld → List StoreStep → StoreWorld → Type 0
StoreRun before [] now = now ≡ before
StoreRun before (step ∷ steps) now = (mid : StoreWorld) × Next before step mid
    × StoreRun mid steps now

-- the events that are accepted: those whose `add` answered Ok since format, and after a recovery those that it found
abbrev pub accept : List Event → StoreStep → List Event
accept events (Adds e) = events ++ e ∷ []
accept events (AddsBehind e) = events ++ e ∷ []
accept events (Opens found) = found
accept events _ = events

-- those that an answer may have spoken of: what was accepted before a call that settled it
abbrev pub answer : List Event → List Event → StoreStep → List Event
answer answered events (AddsBehind e) = events
answer answered events Settles = events
answer answered events Closes = events
answer answered events (Opens found) = found
answer answered events _ = answered

abbrev pub accepted_after : List Event → List StoreStep → List Event
accepted_after events [] = events
accepted_after events (step ∷ steps) = accepted_after (accept events step) steps

abbrev pub answered_after : List Event → List Event → List StoreStep → List Event
answered_after answered events [] = answered
answered_after answered events (step ∷ steps) =
    answered_after (answer answered events step) (accept events step) steps

abbrev pub accepted : List StoreStep → List Event
accepted steps = accepted_after [] steps

abbrev pub answered : List StoreStep → List Event
answered steps = answered_after [] [] steps

abbrev pub IsBeginning : List Event → List Event → Type 0
IsBeginning xs ys = (rest : List Event) × (xs ++ rest ≡ ys)

-- What a recovery after these steps finds: a prefix of the accepted events, with every event that was answered, lacking at most one
-- page of records.
pub record IsRecovered (steps : List StoreStep) (found : List Event) : Type 0 where
  pub missing : List Event
  pub beginning : found ++ missing ≡ accepted steps
  pub answered : IsBeginning (answered steps) found
  pub page : record_bytes missing ≤ MOST_PAYLOAD

-- Steps in which no event is added: stops, recoveries that succeed or fail, refusals, commits, closes and faults.
abbrev pub IsQuiet : List StoreStep → Type 0
IsQuiet [] = Unit {0}
IsQuiet (Adds e ∷ steps) = ⊥
IsQuiet (AddsBehind e ∷ steps) = ⊥
IsQuiet (_ ∷ steps) = IsQuiet steps

-- from a formatted store on
abbrev pub RunsTo : List StoreStep → StoreWorld → Type 0
RunsTo steps now = StoreRun (Runs [] []) steps now

-- the run law
abbrev pub RecoversABeginning : Type 0
RecoversABeginning = (steps : List StoreStep) (found : List Event) (now : StoreWorld)
    → RunsTo (steps ++ Opens found ∷ []) now → IsRecovered steps found

-- The first stop fixes what every later recovery finds, until an event is added.
abbrev pub NoFurtherStopMatters : Type 0
NoFurtherStopMatters = (steps quiet : List StoreStep) (at_stop now : StoreWorld)
    (found : List Event) → RunsTo (steps ++ Stops ∷ []) at_stop → IsQuiet quiet
    → StoreRun at_stop (quiet ++ Opens found ∷ []) now → at_stop ≡ Rests found

-- So does the first sync of a recovery, which succeeded in a recovery that answered Ok: what it found is found again.
abbrev pub NoFurtherRecoveryMatters : Type 0
NoFurtherRecoveryMatters = (before mid now : StoreWorld) (quiet : List StoreStep)
    (first found : List Event) → Next before (Opens first) mid → IsQuiet quiet
    → StoreRun mid (quiet ++ Opens found ∷ []) now → first ≡ found

-- The same is true if that recovery failed afterwards.
abbrev pub NoFurtherRecoveryMattersAfterAFault : Type 0
NoFurtherRecoveryMattersAfterAFault =
    (before now : StoreWorld) (quiet : List StoreStep) (events found : List Event)
    → Next before OpenFails (Rests events) → IsQuiet quiet
    → StoreRun (Rests events) (quiet ++ Opens found ∷ []) now → events ≡ found
