-- The calls of a file of slots.
use Rattle.std.specs.Prelude.{◌≡◌, ◌+◌, ◌≤◌, ℕ, Bool, true, false, List, [], ◌∷◌, ◌++◌, reverse, length, Option, Some, None, Result, Ok, Err, if◌then◌else◌}
use Rattle.dlms_pages.specs.Seal.{slot_of}
use Rattle.dlms_pages.specs.Slots.{Slot, Slots, Gives, Leaves, LeavesPage, newest, page_in, standing}
use Rattle.dlms_pages.specs.declared.asking.SlotCall.{SlotCall}
use Rattle.dlms_pages.specs.declared.asking.SlotCall.TheVariants.{Reads, Writes, Syncs}
use Rattle.dlms_pages.specs.declared.asking.Came.{Came}
use Rattle.dlms_pages.specs.declared.asking.Came.TheVariants.{Slot as Octets, Short, Failed}
use Rattle.dlms_pages.specs.declared.device.PageRead.{PageRead}
use Rattle.dlms_pages.specs.declared.device.DeviceFault.{DeviceFault}

abbrev pub came_of : {E : Type 0} → Result Bool E → List ℕ → Came
came_of (Ok true) slot = Octets slot
came_of (Ok false) slot = Short
came_of (Err e) slot = Failed

abbrev pub passed : {T E : Type 0} → Result T E → Bool
passed (Ok x) = true
passed (Err e) = false

-- these calls came after those of before; the initial content, and whether the file keeps the rules, are the same
abbrev pub Asks : Slots → Slots → List SlotCall → Type 0
Asks old new calls = new ≡ record old { calls = reverse calls ++ old.calls }

-- the same call, that did not pass
abbrev pub failed : SlotCall → SlotCall
failed (Reads index came) = Reads index Failed
failed (Writes index slot is) = Writes index slot false
failed (Syncs is) = Syncs false

-- these calls, up to one that failed
pub record AsksUntilFault (old new : Slots) (calls : List SlotCall) : Type 0 where
  pub front : List SlotCall
  pub call : SlotCall
  pub rest : List SlotCall
  pub split : calls ≡ front ++ call ∷ rest
  pub asked : Asks old new (front ++ failed call ∷ [])

-- an Ok asked all of these calls, and each passed; a fault is that of the first that failed
abbrev pub AsksAll : {T E : Type 0} → Slots → Slots → List SlotCall → Result T E → Type 0
AsksAll old new calls (Ok x) = Asks old new calls
AsksAll old new calls (Err e) = AsksUntilFault old new calls

-- the content of a page, by the file's answer to the read of its slot
abbrev pub ReadsAs : ℕ → Came → Result PageRead DeviceFault → Type 0
ReadsAs index (Octets bytes) result = result ≡ Ok (page_in index (Some bytes))
ReadsAs index Short result = result ≡ Ok (page_in index None)
ReadsAs index Failed (Ok page) = ⊥
ReadsAs index Failed (Err fault) = Unit {0}

-- each page that was written is written again, in their order
abbrev pub written_again : ℕ → List (Option (List ℕ)) → List SlotCall
written_again from [] = []
written_again from (None ∷ pages) = written_again (from + 1) pages
written_again from (Some bytes ∷ pages) = Writes from (slot_of from bytes) true
    ∷ written_again (from + 1) pages

-- The calls of a sync: if a write or a sync has failed since the last successful one, everything written since is written again
-- first.
abbrev pub sync_calls : Bool → List (Option (List ℕ)) → List SlotCall
sync_calls behind pages = (if behind then written_again 0 pages else []) ++ Syncs true ∷ []

-- ---- a file that is opened

-- a slot is read, and written again unchanged if the file has all of it
abbrev pub renewal_of : ℕ → Came → List SlotCall
renewal_of index (Octets bytes) = Reads index (Octets bytes) ∷ Writes index bytes true ∷ []
renewal_of index Short = Reads index Short ∷ []
renewal_of index Failed = Reads index Failed ∷ []

-- the slots from this index on, one after another
abbrev pub renewals : ℕ → List Came → List SlotCall
renewals from [] = []
renewals from (came ∷ cames) = renewal_of from came ++ renewals (from + 1) cames

-- the reading did not fail
abbrev pub IsThere : Came → Type 0
IsThere (Octets bytes) = Unit {0}
IsThere Short = Unit {0}
IsThere Failed = ⊥

abbrev pub AreThere : List Came → Type 0
AreThere [] = Unit {0}
AreThere (came ∷ cames) = IsThere came × AreThere cames

-- the slot was read and written again unchanged, and both calls succeeded
pub record IsSlotRenewed (index : ℕ) (old new : Slots) : Type 0 where
  pub came : Came
  pub there : IsThere came
  pub gives : old.keeps ≡ true → Gives old index came
  pub calls : Asks old new (renewal_of index came)

-- each of these slots was read and written again unchanged, then the file was synced, and all calls succeeded
pub record IsRenewed (count : ℕ) (old new : Slots) : Type 0 where
  pub cames : List Came
  pub counted : length cames ≡ count
  pub there : AreThere cames
  pub calls : Asks old new (renewals 0 cames ++ Syncs true ∷ [])

-- What the opening does to a slot of a file that keeps the rules. The slot is synced, and its content is one of those that a stop
-- might have left before; if the content was sure, it is that one.
pub record Reopens (old new : Slots) (k : ℕ) : Type 0 where
  pub synced : (standing new.calls k).synced ≡ true
  pub sure : (standing new.calls k).sure ≡ true
  pub left : Leaves old.first old.calls k (newest new.first new.calls k)
  pub same : (standing old.calls k).sure ≡ true
      → newest new.first new.calls k ≡ newest old.first old.calls k

-- a slot is read and, if the file has all of it, written unchanged; the write may fail
abbrev pub touch_of : ℕ → Came → Bool → List SlotCall
touch_of index (Octets bytes) passed = Reads index (Octets bytes) ∷ Writes index bytes passed ∷ []
touch_of index Short passed = Reads index Short ∷ []
touch_of index Failed passed = Reads index Failed ∷ []

-- so it was; either call may have failed
pub record IsSlotTouched (index : ℕ) (old new : Slots) : Type 0 where
  pub came : Came
  pub passed : Bool
  pub gives : old.keeps ≡ true → Gives old index came
  pub calls : Asks old new (touch_of index came passed)

-- Whatever a stop leaves of slot k at any moment of the calls that lead from the one to the other: it reads as a page that a stop
-- before them might have left.
abbrev pub SparesSlot : Slots → Slots → ℕ → Type 0
SparesSlot old new k = (later earlier : List SlotCall) → new.calls ≡ later ++ earlier
    → length old.calls ≤ length earlier → (slot : Slot) → Leaves new.first earlier k slot
    → LeavesPage old.first old.calls k (page_in k slot)
