-- What a stop leaves of a device: after calls, and while one of them writes a page, the bodies of a slot, or a slot.
use Rattle.std.specs.Prelude.{◌≡◌, ◌≢◌, ℕ, List, Result, OnOk, slice_set, ◌<◌, ◌≤◌, ◌⊎◌, ◌+◌, ◌++◌, length, [], replicate, true, false}
use Rattle.dlms_pages.specs.Device.{View, Image, Outcome, page_at}
use Rattle.dlms_pages.specs.Stops.{LeavesOnly}
use Rattle.dlms_pages.specs.declared.device.PageRead.TheVariants.{Content, Damaged}
use Rattle.dlms_pages.specs.declared.device.PageRead.{PageRead}
use Rattle.dlms_journal.specs.Page.{IsPage}
use Rattle.dlms_journal.specs.declared.kind.PageKind.TheVariants.{Journal, OpenGate}
use Rattle.dlms_pages.specs.declared.device.Pages.{Ghosts}
use Rattle.dlms_state.specs.StateValue.{StateValue}
use Rattle.dlms_state.specs.Events.{captures}
use Rattle.dlms_store.specs.Image.{IsRingPage, Spells, Stands, all_of}
use Rattle.dlms_store.specs.declared.layout.TheConstants.{BODIES, JOURNAL}
use Rattle.dlms_state.specs.declared.event.Event.{Event}
use Rattle.dlms_store.specs.declared.layout.Slot.{Slot}
use Rattle.dlms_store.specs.declared.layout.Slot.TheVariants.{First}
use Rattle.dlms_store.specs.declared.store.Store.{Store}
use Rattle.dlms_store.specs.Page.{IsOf, next_of, present}
use Rattle.dlms_store.specs.declared.page.Edition.{Edition}
use Rattle.dlms_checkpoint.specs.declared.version.Version.TheVariants.{Columns, Rings}
use Rattle.dlms_store.specs.Layout.{gate_of, index_of, other_of, ring_place}
use Rattle.dlms_store.specs.Store.{state_in}

-- ---- between calls

-- the device keeps the rules, and each image that a stop may leave has this
pub record Leaves (v : View) (P : Image → Type 0) : Type 0 where
  pub honest : v.honest ≡ true
  pub each : (image : Image) → v.may_leave image → P image

-- Every page holds zeros: stated of one image, in which there is no slot yet and so no events.
abbrev pub IsClear : Image → Type 0
IsClear image = (k : ℕ) → k < length image → page_at image k ≡ Content (replicate 512 0)

-- These events are settled: said of a store, which runs, and whose slot, generation, next page and rows captured since the
-- checkpoint are those of each image.
pub record IsSettled {P A : Type 0} {ghosts : Ghosts P} (store : Store P A ghosts)
    (settled : List Event) : Type 0 where
  pub runs : store.stopped ≡ false
  pub base : List Event
  pub pages : List (List Event)
  pub spelled : base ++ all_of pages ≡ settled
  pub next : store.next ≡ length pages
  pub captured : length (captures base) + store.captured ≡ (state_in store).rows.next
  pub device : Leaves (ghosts.view store.device)
      (Stands store.slot (present store.generation) base pages)

-- the slot's gate is an open one of this generation, octet for octet
pub record HasGate (slot : Slot) (generation : ℕ) (image : Image) : Type 0 where
  pub page : List ℕ
  pub there : page_at image (gate_of slot) ≡ Content page
  pub is : IsPage page OpenGate (index_of slot) generation []

-- the journal's page at this place is one of these records, octet for octet
pub record HasJournalPage (place generation : ℕ) (records : List ℕ) (image : Image) : Type 0 where
  pub page : List ℕ
  pub there : page_at image (JOURNAL + place) ≡ Content page
  pub is : IsPage page Journal place generation records

-- a device that was just formatted: the first slot's gate is open, and every page after that slot holds zeros
pub record IsFormatted (image : Image) : Type 0 where
  pub gate : HasGate First 1 image
  pub zeros : (k : ℕ) → BODIES < k → k < length image → page_at image k ≡ Content (replicate 512 0)

-- ---- while a call writes

-- A stop inside the call or after it leaves an image that has Meanwhile, and after an Ok one that has AtLast.
pub record Brings {T E : Type 0} (Meanwhile AtLast : Image
    → Type 0) (old new : View) (result : Result T E) : Type 0 where
  pub any_moment : LeavesOnly old new Meanwhile
  pub after : (image : Image) → new.may_leave image → Meanwhile image
  pub at_last : OnOk result ((image : Image) → new.may_leave image → AtLast image)

-- a page: as it was, new or torn, and at last new
abbrev pub Puts : {T E : Type 0} → ℕ → List ℕ → View → View → Result T E → Type 0
Puts index bytes old new result =
    Brings (Outcome index bytes old.may_leave)
    (λ image. image ≡ slice_set old.seen index (Content bytes)) old new result

-- an image of before, with anything in the bodies after this gate
pub record Scribbled (gate : ℕ) (old : Image → Type 0) (image : Image) : Type 0 where
  pub before : Image
  pub was : old before
  pub length_is : length image ≡ length before
  pub elsewhere : (k : ℕ) → (k ≤ gate) ⊎ (gate + BODIES < k) → page_at image k ≡ page_at before k

-- bodies: anything after this gate, and at the end those of these bytes
abbrev pub PutsBodies : {T E : Type 0} → ℕ → Edition → List ℕ → View → View → Result T E → Type 0
PutsBodies gate edition bytes old new result =
    Brings (Scribbled gate old.may_leave) (Spells gate edition bytes) old new result

-- this is true of each ring page from this one up to that one
abbrev pub IsEachRingPage : (from to : ℕ) → (ℕ → Type 0) → Type 0
IsEachRingPage from to P = (k : ℕ) → from ≤ k → k < to → P k

-- an image of before, with anything where these ring pages stand
pub record RingScribbled (from to : ℕ) (old : Image → Type 0) (image : Image) : Type 0 where
  pub before : Image
  pub was : old before
  pub length_is : length image ≡ length before
  pub elsewhere : (place : ℕ) → IsEachRingPage from to (λ k. place ≢ ring_place k)
      → page_at image place ≡ page_at before place

-- ring pages: anything in their places, and at the end the rows of this state
abbrev pub PutsRing : {T E : Type 0} → (from to : ℕ) → StateValue → View → View → Result T E
    → Type 0
PutsRing from to s old new result =
    Brings (RingScribbled from to old.may_leave)
    (λ image. IsEachRingPage from to
    (λ k. IsRingPage Columns s k (page_at image (ring_place k)))) old new result

-- the slot of before is active, or the other one, of the next edition and with an empty journal
abbrev pub IsEither : Slot → Edition → List Event → List (List Event) → List Event → Image → Type 0
IsEither slot edition base pages events image = Stands slot edition base pages image
    ⊎ Stands (other_of slot) (next_of edition) events [] image

-- a slot: either is active, and at last the other one
abbrev pub WritesSlot : {T E : Type 0} → Slot → Edition → List Event → List (List Event)
    → List Event → View → View → Result T E → Type 0
WritesSlot slot edition base pages events old new result =
    Brings (IsEither slot edition base pages events)
    (Stands (other_of slot) (next_of edition) events []) old new result

-- ---- while a recovery clears the journal's first page

-- a page that holds nothing: zeros, or damaged
abbrev pub IsBare : PageRead → Type 0
IsBare page = (page ≡ Content (replicate 512 0)) ⊎ (page ≡ Damaged)

-- The image as it was, or, if the journal's first page has the edition that comes next, with nothing there.
abbrev pub IsBlanked : Edition → Image → Image → Type 0
IsBlanked next old image = (image ≡ old)
    ⊎ (IsOf Journal 0 next (page_at old JOURNAL)
    × ((page : PageRead) × IsBare page × (image ≡ slice_set old JOURNAL page)))

-- so that no page of that edition is left there
pub record IsBlank (next : Edition) (old image : Image) : Type 0 where
  pub blanked : IsBlanked next old image
  pub none : IsOf Journal 0 next (page_at image JOURNAL) → ⊥

-- what is of version 1 is cleared so before the next edition comes; what is of version 2 stays
abbrev pub IsCleared : Edition → Image → Image → Type 0
IsCleared edition old image = (image ≡ old)
    ⊎ ((edition.version ≡ Rings) × IsBlanked (next_of edition) old image)

pub record IsClearOf (edition : Edition) (old image : Image) : Type 0 where
  pub cleared : IsCleared edition old image
  pub none : edition.version ≡ Rings → IsOf Journal 0 (next_of edition) (page_at image JOURNAL) → ⊥
