-- What a page shows by itself, whatever counts: whether it has what its place requires, and otherwise the first thing that is
-- missing.
use Rattle.std.specs.Prelude.{ℕ, ◌+◌, ◌*◌, ◌==◌, nat_lt, if◌then◌else◌, Bool, true, false, is_some, List, Option, Some, None, Result, Ok, Err}
use Rattle.dlms_checkpoint.specs.Layouts.{number_of, version_named}
use Rattle.dlms_checkpoint.specs.declared.version.Version.{Version}
use Rattle.dlms_journal.specs.declared.kind.PageKind.{PageKind}
use Rattle.dlms_journal.specs.declared.kind.PageKind.TheVariants as kind
use Rattle.dlms_journal.specs.Page.{head_of, kind_named, payload_at}
use Rattle.dlms_pages.specs.Device.{page_at}
use Rattle.dlms_pages.specs.declared.device.PageRead.{PageRead}
use Rattle.dlms_pages.specs.declared.device.PageRead.TheVariants.{Content, Damaged}
use Rattle.dlms_pages.specs.declared.seal.TheConstants.{SLOT_BYTES}
use Rattle.dlms_store.specs.declared.page.Edition.{Edition}
use Rattle.dlms_survey.specs.Image.{ImageValue}
use Rattle.dlms_survey.specs.Places.{index_at, place_at}
use Rattle.dlms_survey.specs.declared.place.Place.{Place}
use Rattle.dlms_survey.specs.declared.place.Place.TheVariants.{Gate, Body, Journal, Ring}
use Rattle.dlms_survey.specs.declared.verdict.Verdict.{Verdict}
use Rattle.dlms_survey.specs.declared.verdict.Verdict.TheVariants as verdict

-- ---- what a place asks for

-- the kinds of pages that belong at a place
abbrev pub is_for : Place → PageKind → Bool
is_for (Gate slot) kind.OpenGate = true
is_for (Gate slot) kind.ClosedGate = true
is_for (Body slot k) kind.Body = true
is_for (Journal k) kind.Journal = true
is_for (Ring k) kind.Ring = true
is_for _ _ = false

-- its index, and a payload that a page can hold
abbrev pub held : Bool → Verdict
held true = verdict.Unused
held false = verdict.Overlong

abbrev pub indexed : Option ℕ → (index : ℕ) → (has_payload : Bool) → Verdict
indexed None index has_payload = verdict.Unused
indexed (Some asked) index has_payload = if asked == index then held has_payload
    else verdict.OtherIndex index

-- a page of a kind that belongs there; a closed gate is reported as closed
abbrev pub placed : Place → PageKind → (index : ℕ) → (has_payload : Bool) → Verdict
placed place kind.ClosedGate index has_payload = verdict.Closed
placed place _ index has_payload = indexed (index_at place) index has_payload

-- of its version, first of all whether it is known
abbrev pub versioned : Option Version → Place → PageKind → (version index : ℕ)
    → (has_payload : Bool) → Verdict
versioned None place kind version index has_payload = verdict.UnknownVersion version
versioned (Some known) place kind version index has_payload = if is_for place kind
    then placed place kind index has_payload else verdict.OtherKind kind

abbrev pub fit : Place → PageKind → (version index : ℕ) → (has_payload : Bool) → Verdict
fit place kind.Empty version index has_payload = verdict.Empty
fit place kind version index has_payload =
    versioned (version_named version) place kind version index has_payload

-- ---- the page itself

abbrev pub kind_told : Option PageKind → Place → List ℕ → Verdict
kind_told None place octets = verdict.UnknownKind (head_of octets).kind
kind_told (Some kind) place octets =
    fit place kind (head_of octets).version (head_of octets).index (is_some (payload_at octets))

-- a damaged page is cut if the bytes end before it does
abbrev pub told : Place → (page bytes : ℕ) → PageRead → Verdict
told place page bytes Damaged = if nat_lt bytes (page * SLOT_BYTES + SLOT_BYTES) then verdict.Cut
    else verdict.Torn
told place page bytes (Content octets) = kind_told (kind_named (head_of octets).kind) place octets

abbrev pub own : ImageValue → ℕ → Verdict
own image page = told (place_at page) page image.bytes (page_at image.pages page)

-- ---- its payload, where it has what its place asks for and is of an edition

abbrev pub payload_held : Option (List ℕ) → Result (List ℕ) Verdict
payload_held None = Err verdict.Overlong
payload_held (Some payload) = Ok payload

abbrev pub of_edition : Edition → List ℕ → Result (List ℕ) Verdict
of_edition edition octets =
    if (head_of octets).generation == edition.generation
    then (if (head_of octets).version == number_of edition.version
    then payload_held (payload_at octets)
    else Err (verdict.OtherVersion (head_of octets).version))
    else Err (verdict.OtherCheckpoint (head_of octets).generation)

abbrev pub payload_told : Verdict → Edition → PageRead → Result (List ℕ) Verdict
payload_told verdict.Unused edition (Content octets) = of_edition edition octets
payload_told other edition read = Err other

abbrev pub payload_of : ImageValue → ℕ → Edition → Result (List ℕ) Verdict
payload_of image page edition = payload_told (own image page) edition (page_at image.pages page)
