-- Runs of calls of a file of counters, with stops between them and inside them, and the laws over
-- all runs.
use Rattle.std.specs.Prelude.{◌≡◌, ◌≤◌, ◌<◌, ◌^◌, ◌⊎◌, ℕ, true, false, List, [], ◌∷◌, Option, Some, None, Result, Ok, Err}
use Rattle.dlms_pages.specs.Device.{Image}
use Rattle.dlms_pages.specs.declared.device.Pages.{Ghosts}
use Rattle.dlms_counters.specs.Slot.{CounterState}
use Rattle.dlms_counters.specs.Table.{is_known, last_of}
use Rattle.dlms_counters.specs.Image.{recovered}
use Rattle.dlms_counters.specs.Change.{accepting, reserving}
use Rattle.dlms_counters.specs.File.{view_of}
use Rattle.dlms_counters.specs.Writing.{IsEither}
use Rattle.dlms_counters.specs.declared.fault.CounterFault.{CounterFault}
use Rattle.dlms_counters.specs.declared.file.CounterFile.{CounterFile}

-- the contents that the file has, and those that a recovery may find instead
pub record World : Type 0 where
  pub known : CounterState
  pub maybe : CounterState

-- a recovery finds these and no others
abbrev pub settled : CounterState → World
settled c = record { known = c; maybe = c }

-- a recovery may find these contents
abbrev pub LeftBy : World → CounterState → Type 0
LeftBy w c = (c ≡ w.known) ⊎ (c ≡ w.maybe)

-- A call with its result; or a stop, and the recovery after it. A call that a stop cuts off is one
-- whose result is a fault.
pub data Event : Type 0 where
  Reserves : ℕ → Result ℕ CounterFault → Event
  Accepts : List ℕ → ℕ → Result (Unit {0}) CounterFault → Event
  Stops : Event

-- A call that failed changed nothing, or a recovery may find the next contents.
abbrev pub MayHave : World → (CounterState → Type 0) → World → Type 0
MayHave w IsNext v =
    (v ≡ w) ⊎ ((next : CounterState) × IsNext next × (v ≡ record w { maybe = next }))

abbrev pub IsStep : World → Event → World → Type 0
IsStep w (Reserves step (Ok end)) v = (next : CounterState)
    × (reserving false step w.known ≡ Ok next) × (end ≡ next.reserved) × (v ≡ settled next)
IsStep w (Reserves step (Err fault)) v =
    MayHave w (λ next. reserving false step w.known ≡ Ok next) v
IsStep w (Accepts title counter (Ok done)) v =
    ((is_known (last_of w.known.peers title) counter ≡ true) × (v ≡ w))
    ⊎ ((next : CounterState) × (accepting false title counter w.known ≡ Ok (Some next))
    × (v ≡ settled next))
IsStep w (Accepts title counter (Err fault)) v =
    MayHave w (λ next. accepting false title counter w.known ≡ Ok (Some next)) v
IsStep w Stops v = (c : CounterState) × LeftBy w c × (v ≡ settled c)

abbrev pub AreSteps : World → List Event → World → Type 0
AreSteps w [] v = v ≡ w
AreSteps w (e ∷ es) v = (next : World) × IsStep w e next × AreSteps next es v

-- ---- order

-- the second counter is there if the first is, and not below it
abbrev pub IsNotBelow : Option ℕ → Option ℕ → Type 0
IsNotBelow None second = Unit {0}
IsNotBelow (Some a) None = ⊥
IsNotBelow (Some a) (Some b) = a ≤ b

-- nothing in d is below c
pub record AtLeast (c d : CounterState) : Type 0 where
  pub reserved : c.reserved ≤ d.reserved
  pub peers : (title : List ℕ) → IsNotBelow (last_of c.peers title) (last_of d.peers title)

-- every world of a file
pub record IsWorld (w : World) : Type 0 where
  pub higher : AtLeast w.known w.maybe
  pub known : w.known.reserved < 2 ^ 32
  pub maybe : w.maybe.reserved < 2 ^ 32

-- what a call returned is in the contents, or something higher
abbrev pub IsKept : Event → CounterState → Type 0
IsKept (Reserves step (Ok end)) c = end ≤ c.reserved
IsKept (Reserves step (Err fault)) c = Unit {0}
IsKept (Accepts title counter (Ok done)) c = IsNotBelow (Some counter) (last_of c.peers title)
IsKept (Accepts title counter (Err fault)) c = Unit {0}
IsKept Stops c = Unit {0}

abbrev pub AreKept : List Event → CounterState → Type 0
AreKept [] c = Unit {0}
AreKept (e ∷ es) c = IsKept e c × AreKept es c

-- ---- the laws

-- Over all calls and stops a recovery finds no reservation below one that `reserve` returned, and
-- for each peer no counter below one that `accept` returned for.
abbrev pub NothingIsLost : Type 0
NothingIsLost = (w v : World) (events : List Event) (c : CounterState) → IsWorld w
    → AreSteps w events v → LeftBy v c → AreKept events c

-- Nothing is lowered.
abbrev pub NothingIsLowered : Type 0
NothingIsLowered = (w v : World) (events : List Event) (c : CounterState) → IsWorld w
    → AreSteps w events v → LeftBy v c → AtLeast w.known c

-- The premises of the laws of `dlms_security` at a stop. An association's reservation and its peer's
-- counter were not above those in the file. Then the file opens with a reservation and a counter
-- that are not below the association's.
abbrev pub RestoresAssociations : Type 0
RestoresAssociations = (w v : World) (events : List Event) (c : CounterState) (reserved : ℕ)
    (peer : List ℕ) (accepted : Option ℕ) → IsWorld w → AreSteps w events v → LeftBy v c
    → reserved ≤ w.known.reserved → IsNotBelow accepted (last_of w.known.peers peer)
    → (reserved ≤ c.reserved) × IsNotBelow accepted (last_of c.peers peer)

-- ---- a file in a world

-- The file has the known contents; in each image that a stop may leave a recovery finds these or
-- the others; while it runs, there are no others.
pub record Fits {P : Type 0} {ghosts : Ghosts P} (file : CounterFile P ghosts) (w : World)
    : Type 0 where
  pub honest : (view_of file).honest ≡ true
  pub known : file.counters ≡ w.known
  pub each : (image : Image) → (view_of file).may_leave image → IsEither w.known w.maybe image
  pub runs : file.stopped ≡ false → w.maybe ≡ w.known

-- what a recovery may find after a stop inside this event
abbrev pub LeftDuring : World → Event → Image → Type 0
LeftDuring w e image =
    (v : World) × IsStep w e v × (c : CounterState) × LeftBy v c × (recovered image ≡ Some c)

-- the event leads to a world that the file fits
abbrev pub Leads : {P : Type 0} → {ghosts : Ghosts P} → World → Event → CounterFile P ghosts
    → Type 0
Leads w e file = (v : World) × IsStep w e v × Fits file v
