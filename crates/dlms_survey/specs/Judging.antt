-- Which pages a recovery counts, and the verdicts on the others.
use Rattle.std.specs.Prelude.{◌≡◌, ◌≢◌, ◌⊎◌, ◌<◌, ◌≤◌, ◌+◌, ◌-◌, ◌/◌, ◌%◌, ◌^◌, ◌==◌, ◌||◌, ◌&&◌, ◌++◌, ◌∷◌, ℕ, min, nat_le, nat_lt, List, [], length, Option, Some, None, is_none, Result, Ok, Err, MatchResult, Bool, true, false, not, IsTrue, if◌then◌else◌, ⊤}
use Rattle.dlms_checkpoint.specs.Bodies.{awaited, first_fault}
use Rattle.dlms_checkpoint.specs.Layouts.{as_present, version_named}
use Rattle.dlms_checkpoint.specs.declared.reading.BodyFault.{BodyFault}
use Rattle.dlms_checkpoint.specs.declared.version.Version.{Version}
use Rattle.dlms_checkpoint.specs.declared.writing.TheConstants.{RING_ROWS}
use Rattle.dlms_journal.specs.declared.kind.PageKind.{PageKind}
use Rattle.dlms_journal.specs.declared.kind.PageKind.TheVariants as kind
use Rattle.dlms_journal.specs.declared.page.TheConstants.{MOST_PAYLOAD}
use Rattle.dlms_journal.specs.Page.{Head, head_of, kind_named}
use Rattle.dlms_journal.specs.Record.{Holds}
use Rattle.dlms_pages.specs.Device.{page_at}
use Rattle.dlms_pages.specs.declared.device.PageRead.{PageRead}
use Rattle.dlms_pages.specs.declared.device.PageRead.TheVariants.{Content, Damaged}
use Rattle.dlms_state.specs.Refusal.{IsLegal, refusal_after}
use Rattle.dlms_state.specs.StateValue.{StateValue, IsStateOf}
use Rattle.dlms_state.specs.declared.event.Event.{Event}
use Rattle.dlms_state.specs.declared.event.Refused.{Refused}
use Rattle.dlms_store.specs.Layout.{gate_of}
use Rattle.dlms_store.specs.declared.fault.OpenFault.{OpenFault}
use Rattle.dlms_store.specs.declared.fault.OpenFault.TheVariants as opening
use Rattle.dlms_store.specs.Page.{of_version}
use Rattle.dlms_store.specs.declared.layout.Slot.{Slot}
use Rattle.dlms_store.specs.declared.layout.Slot.TheVariants.{First, Second}
use Rattle.dlms_store.specs.declared.layout.TheConstants.{RING, RING_PAGES}
use Rattle.dlms_store.specs.declared.open.Found.{Found}
use Rattle.dlms_store.specs.declared.page.Edition.{Edition}
use Rattle.dlms_survey.specs.Image.{ImageValue}
use Rattle.dlms_survey.specs.Own.{own, payload_of}
use Rattle.dlms_survey.specs.Pages.{IsCut}
use Rattle.dlms_survey.specs.declared.judging.Named.{Named}
use Rattle.dlms_survey.specs.declared.place.Place.{Place}
use Rattle.dlms_survey.specs.declared.place.Place.TheVariants as place
use Rattle.dlms_survey.specs.declared.survey.Survey.{Survey}
use Rattle.dlms_survey.specs.declared.verdict.Verdict.{Verdict}
use Rattle.dlms_survey.specs.declared.verdict.Verdict.TheVariants as verdict

-- ---- what counts

-- a gate counts if its slot is the one that counts
abbrev pub CountsGate : {A : Type 0} → Slot → Survey A → Type 0
CountsGate slot survey = (edition : Edition) × (survey.active ≡ Ok (slot, edition))

-- a journal page counts if a recovery applies its events
abbrev pub CountsJournal : {A : Type 0} → ℕ → Survey A → Type 0
CountsJournal k survey = MatchResult survey.found (λ found. k < found.journal.pages) (λ fault. ⊥)

-- the page comes before the one that a recovery names in its refusal
abbrev pub IsBefore : {A : Type 0} → ℕ → Result (Found A) OpenFault → Type 0
IsBefore page (Err (opening.Corrupt unfit)) = page < unfit
IsBefore page _ = ⊤

-- A body counts exactly in the slot that counts, before the page that a recovery names; a further one exactly if the first one asks
-- for more.
pub record MayCountBody {A : Type 0} (slot : Slot) (k page : ℕ) (more : Bool) (survey : Survey A)
    : Type 0 where
  pub slot_counts : CountsGate slot survey
  pub asked_for : IsTrue ((k == 0) || more)
  pub before : IsBefore page survey.found

-- a recovery refuses this very page
abbrev pub refuses : {A : Type 0} → ℕ → Result (Found A) OpenFault → Bool
refuses page (Err (opening.Corrupt unfit)) = unfit == page
refuses page _ = false

-- ---- what the bodies of the slot that counts name

-- the first body is one, and asks for a second
abbrev pub asks_by : Version → Result (List ℕ) Verdict → Bool
asks_by version (Err told) = false
asks_by version (Ok body) = if is_none (first_fault version body)
    then not (awaited (as_present version body) == 0) else false

abbrev pub asks_for_more : ImageValue → Result (Slot × Edition) OpenFault → Bool
asks_for_more image (Err fault) = false
asks_for_more image (Ok (slot, edition)) =
    asks_by edition.version (payload_of image (gate_of slot + 1) edition)

-- the number of the ring page at this index, if that one is the first that may be named: the least from it on
abbrev pub number_from : (first index : ℕ) → ℕ
number_from first index = min (first + (index + RING_PAGES - first % RING_PAGES) % RING_PAGES)
    (2 ^ 64 - 1)

-- The ring page after the last named one: if a recovery finds a state, the page that the checkpoint's rows do not fill; if a
-- recovery refuses a ring page, the one after it; otherwise none is named.
abbrev pub behind_named : {A : Type 0} → ℕ → Result (Found A) OpenFault → ℕ
behind_named first (Ok found) = (found.state.rows.next - found.journal.captured) / RING_ROWS
behind_named first (Err (opening.Corrupt page)) = if nat_le RING page
    then min (number_from first (page - RING) + 1) (2 ^ 64 - 1) else first
behind_named first (Err _) = first

abbrev pub IsBehindNamed : {A : Type 0} → ℕ → Result (Found A) OpenFault → ℕ → Type 0
IsBehindNamed first found behind = behind ≡ behind_named first found

-- A ring page counts exactly if the bodies name one for its place, from the first one on, before the one after the last, and if a
-- recovery does not refuse that very page.
abbrev pub MayCountRing : ℕ → Option Named → Type 0
MayCountRing k None = ⊥
MayCountRing k (Some named) = (n : ℕ) × (named.first ≤ n) × (n < named.behind)
    × (n % RING_PAGES ≡ k)

pub record CountsRing {A : Type 0} (k page : ℕ) (named : Option Named) (survey : Survey A)
    : Type 0 where
  pub named_one : MayCountRing k named
  pub fits : survey.found ≢ Err (opening.Corrupt page)

-- ---- what is told of each page

-- a page that has what its place requires, if nothing that counts refers to it
abbrev pub older_told : Verdict → Verdict
older_told verdict.Unused = verdict.Older
older_told told = told

-- of a gate: its slot counts, or both gates are of one generation, or what it tells by itself
abbrev pub is_slot : Slot → Slot → Bool
is_slot First First = true
is_slot Second Second = true
is_slot _ _ = false

abbrev pub gate_told : Slot → Result (Slot × Edition) OpenFault → Verdict → Verdict
gate_told slot (Ok (active, edition)) told = if is_slot active slot then verdict.Counts
    else older_told told
gate_told slot (Err (opening.Corrupt page)) told = verdict.SameGeneration
gate_told slot (Err _) told = older_told told

-- of the body that a recovery refuses: what its page lacks; of a further one its length; of the first one what its bytes are
abbrev pub first_told : Option BodyFault → Verdict
first_told None = verdict.NoState
first_told (Some fault) = verdict.Body fault

abbrev pub body_told : ℕ → Version → Result (List ℕ) Verdict → Verdict
body_told k version (Err told) = told
body_told k version (Ok body) = if nat_lt 0 k then verdict.OtherLength
    else first_told (first_fault version body)

-- of a body of the slot that counts, which the first one asks for
abbrev pub asked_told : {A : Type 0} → ImageValue → (k page : ℕ) → Edition
    → Result (Found A) OpenFault → Verdict
asked_told image k page edition (Err (opening.Corrupt unfit)) =
    if unfit == page then body_told k edition.version (payload_of image page edition)
    else if nat_lt page unfit then verdict.Counts
    else verdict.Unused
asked_told image k page edition _ = verdict.Counts

abbrev pub body_at : {A : Type 0} → ImageValue → Result (Found A) OpenFault → (more : Bool) → Slot
    → (k page : ℕ) → Result (Slot × Edition) OpenFault → Verdict
body_at image found more slot k page (Err fault) = own image page
body_at image found more slot k page (Ok (active, edition)) =
    if is_slot active slot && ((k == 0) || more) then asked_told image k page edition found
    else own image page

-- after the events E the others may come up to one that is refused, for this cause
pub record IsRefusal (E events : List Event) (refused : Refused) : Type 0 where
  pub before : List Event
  pub event : Event
  pub behind : List Event
  pub are : events ≡ before ++ event ∷ behind
  pub legal : IsLegal (E ++ before)
  pub is : refusal_after (E ++ before) event ≡ Some refused

-- these are the events of a payload, and this refusal is that of the first event after the state that is refused, if any
abbrev pub HasRefusal : StateValue → List ℕ → Refused → Type 0
HasRefusal state payload refused = (events : List Event) × Holds payload events
    × ((E : List Event) → IsStateOf E state → IsRefusal E events refused)

abbrev pub HasNoRefusal : StateValue → List ℕ → Type 0
HasNoRefusal state payload = (events : List Event) × Holds payload events
    × ((E : List Event) → IsStateOf E state → IsLegal (E ++ events))

-- of the journal page after the last one whose events are applied: no whole record, the first event that is refused, or too many
-- rows
abbrev pub IsRecordsTold : StateValue → List ℕ → Verdict → Type 0
IsRecordsTold state payload verdict.NoRecords = (payload ≡ [])
    ⊎ ((events : List Event) → Holds payload events → ⊥)
IsRecordsTold state payload (verdict.Refused refused) = HasRefusal state payload refused
IsRecordsTold state payload verdict.RingFull = (0 < length payload) × HasNoRefusal state payload
IsRecordsTold state payload _ = ⊥

-- of a journal page after those whose events are applied
abbrev pub IsBehindTold : StateValue → (pages k : ℕ) → Result (List ℕ) Verdict → Verdict → Type 0
IsBehindTold state pages k (Err other) told = told ≡ other
IsBehindTold state pages k (Ok payload) told = (pages < k → told ≡ verdict.Behind)
    × (k ≤ pages → IsRecordsTold state payload told)

abbrev pub IsJournalTold : {A : Type 0} → ImageValue → (k page : ℕ) → Result (Found A) OpenFault
    → Verdict → Type 0
IsJournalTold image k page (Err fault) told = told ≡ own image page
IsJournalTold image k page (Ok found) told =
    (k < found.journal.pages → told ≡ verdict.Counts)
    × (found.journal.pages ≤ k → IsBehindTold found.state found.journal.pages k
    (payload_of image page found.edition) told)

-- of the ring page that a recovery refuses: what its page lacks, or that its rows are not those; a page of version 1 may serve too
abbrev pub rows_told : (serves_older : Bool) → Result (List ℕ) Verdict → Verdict
rows_told true (Err (verdict.OtherVersion version)) = verdict.NoRows
rows_told serves_older (Err told) = told
rows_told serves_older (Ok rows) = verdict.NoRows

abbrev pub ring_told : ImageValue → (page number : ℕ) → Named → Result (Slot × Edition) OpenFault
    → Verdict
ring_told image page number named (Err fault) = own image page
ring_told image page number named (Ok (slot, edition)) =
    rows_told named.serves_older (payload_of image page (of_version edition.version number))

abbrev pub named_told : {A : Type 0} → ImageValue → (page number : ℕ) → Named → Survey A → Verdict
named_told image page number named survey = if refuses page survey.found
    then ring_told image page number named survey.active else verdict.Counts

abbrev pub ring_at : {A : Type 0} → ImageValue → Survey A → (k page : ℕ) → Option Named → Verdict
ring_at image survey k page None = own image page
ring_at image survey k page (Some named) =
    if nat_lt (number_from named.first k) named.behind
    then named_told image page (number_from named.first k) named survey else own image page

-- by the place of the page
abbrev pub IsToldAt : {A : Type 0} → ImageValue → Survey A → (more : Bool) → Option Named
    → (page : ℕ) → Place → Verdict → Type 0
IsToldAt image survey more named page (place.Gate slot) told =
    told ≡ gate_told slot survey.active (own image page)
IsToldAt image survey more named page (place.Body slot k) told =
    told ≡ body_at image survey.found more slot k page survey.active
IsToldAt image survey more named page (place.Journal k) told =
    IsJournalTold image k page survey.found told
IsToldAt image survey more named page (place.Ring k) told = told ≡ ring_at image survey k page named

-- ---- what is told of a page is so

-- a page that is whole, and whose head meets this condition
abbrev pub HasHead : PageRead → (Head → Type 0) → Type 0
HasHead Damaged P = ⊥
HasHead (Content bytes) P = P (head_of bytes)

-- the kind by its number, if that has a name
abbrev pub IsKind : Option PageKind → Head → Type 0
IsKind kind head = kind_named head.kind ≡ kind

abbrev pub SaysOf : ImageValue → ℕ → PageRead → Verdict → Type 0
SaysOf image page read verdict.Cut = (read ≡ Damaged) × IsCut page image.bytes
SaysOf image page read verdict.Torn = (read ≡ Damaged) × (IsCut page image.bytes → ⊥)
SaysOf image page read verdict.Empty = HasHead read (IsKind (Some kind.Empty))
SaysOf image page read (verdict.UnknownKind number) = HasHead read (λ head. IsKind None head
    × (head.kind ≡ number))
SaysOf image page read (verdict.UnknownVersion version) =
    HasHead read (λ head. (version_named version ≡ None) × (head.version ≡ version))
SaysOf image page read (verdict.OtherKind kind) = HasHead read (IsKind (Some kind))
SaysOf image page read (verdict.OtherIndex index) = HasHead read (λ head. head.index ≡ index)
SaysOf image page read verdict.Closed = HasHead read (IsKind (Some kind.ClosedGate))
SaysOf image page read (verdict.OtherCheckpoint generation) =
    HasHead read (λ head. head.generation ≡ generation)
SaysOf image page read (verdict.OtherVersion version) =
    HasHead read (λ head. head.version ≡ version)
SaysOf image page read verdict.Overlong = HasHead read (λ head. MOST_PAYLOAD < head.payload)
-- of what counts, and of the payload: `IsToldAt` says when
SaysOf image page read verdict.Counts = ⊤
SaysOf image page read verdict.Unused = ⊤
SaysOf image page read verdict.Older = ⊤
SaysOf image page read verdict.SameGeneration = ⊤
SaysOf image page read (verdict.Body fault) = ⊤
SaysOf image page read verdict.OtherLength = ⊤
SaysOf image page read verdict.NoState = ⊤
SaysOf image page read verdict.NoRows = ⊤
SaysOf image page read verdict.NoRecords = ⊤
SaysOf image page read (verdict.Refused refused) = ⊤
SaysOf image page read verdict.RingFull = ⊤
SaysOf image page read verdict.Behind = ⊤

-- what a verdict says of a page's bytes and of its head: by its seal, and by the readers of heads
abbrev pub Says : ImageValue → ℕ → Verdict → Type 0
Says image page told = SaysOf image page (page_at image.pages page) told
