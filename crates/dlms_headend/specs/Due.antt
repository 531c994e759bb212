-- What a poll asks of a meter, whatever carries its APDUs: the APDU that is due at each stage, and the one that it asks once it took a
-- list of APDUs.
use Rattle.std.specs.Prelude.{◌≡◌, ◌⊎◌, ◌<◌, ℕ, if◌then◌else◌, List, [], ◌∷◌, ◌++◌, Option, Some, None}
use Rattle.dlms_acse.specs.Writing.{credentials, field, initiate_request, logical_names, release_request}
use Rattle.dlms_frame.specs.declared.client.Client.{Client}
use Rattle.dlms_frame.specs.Client.{has_secret}
use Rattle.dlms_headend.specs.Asking.{PlanValue, IsBufferRequest, association_bytes, columns_bytes, next_bytes}
use Rattle.dlms_headend.specs.Poll.{Asks, HasAccepted, HasBlocks, HasNamed, HasRows}
use Rattle.dlms_headend.specs.declared.plan.Columns.{Columns}
use Rattle.dlms_headend.specs.declared.plan.Columns.TheVariants.{Asked}
use Rattle.dlms_headend.specs.declared.row.Row.{Row}
use Rattle.dlms_headend.specs.declared.stage.Stage.{Stage}
use Rattle.dlms_headend.specs.declared.stage.Stage.TheVariants.{Associating, Naming, Getting, Checking, Releasing, Leaving}

-- ---- the association request (IEC 62056-5-3)

-- A secret goes with the low-level mechanism; without one no mechanism is named.
abbrev pub credentials_of : Option (List ℕ) → List ℕ
credentials_of None = []
credentials_of (Some secret) = credentials secret

-- the services 00 7E 1F are proposed, and APDUs of 1,200 bytes
abbrev pub association_with : Option (List ℕ) → List ℕ
association_with secret =
    field 0x60 (field 0xA1 logical_names ++ credentials_of secret
    ++ field 0xBE (field 0x04 (initiate_request 0x007E1F 1200)))

-- the secret that a client sends: none if the client has none
abbrev pub sent_secret : Client → List ℕ → Option (List ℕ)
sent_secret client secret = if has_secret client then Some secret else None

-- ---- by the stage of the poll

-- the GET of the buffer between these seconds, or of its next block after so many
abbrev pub IsNextGet : (after until : Option ℕ) → ℕ → List ℕ → Type 0
IsNextGet after until taken apdu = ((taken ≡ 0) × IsBufferRequest after until apdu)
    ⊎ ((0 < taken) × (apdu ≡ next_bytes taken))

-- the APDU that is due at this stage, of a poll with this association request between these seconds; none once the release was answered
abbrev pub IsDueAt : List ℕ → (after until : Option ℕ) → Stage → List ℕ → Type 0
IsDueAt association after until Associating apdu = apdu ≡ association
IsDueAt association after until Naming apdu = apdu ≡ columns_bytes
IsDueAt association after until (Getting taken) apdu = IsNextGet after until taken apdu
IsDueAt association after until Checking apdu = apdu ≡ columns_bytes
IsDueAt association after until Releasing apdu = apdu ≡ release_request
IsDueAt association after until Leaving apdu = ⊥

-- ---- by the APDUs that it took

-- what a poll reads: its association request, the first and the last second of the rows, and whether the columns are asked for
pub record Requests : Type 0 where
  pub association : List ℕ
  pub after : Option ℕ
  pub until : Option ℕ
  pub columns : Columns

-- what a poll asks once it took these APDUs: an association request, a GET of the columns, a GET of the buffer, a GET of the next
-- block, a GET of the columns again, a release
pub data AsksFor (r : Requests) (apdus : List (List ℕ)) (apdu : List ℕ) : Type 0 where
  Associates : apdus ≡ [] → apdu ≡ r.association → AsksFor r apdus apdu
  Names : r.columns ≡ Asked → HasAccepted apdus → apdu ≡ columns_bytes → AsksFor r apdus apdu
  Gets : (joined : List ℕ) → HasBlocks r.columns apdus 0 joined
      → IsBufferRequest r.after r.until apdu
      → AsksFor r apdus apdu
  GetsBlock : (taken : ℕ) (joined : List ℕ) → 0 < taken → HasBlocks r.columns apdus taken joined
      → apdu ≡ next_bytes taken
      → AsksFor r apdus apdu
  Checks : (rows : List Row) → r.columns ≡ Asked → HasRows r.columns apdus rows
      → apdu ≡ columns_bytes → AsksFor r apdus apdu
  Releases : (rows : List Row) → HasNamed r.columns apdus rows → apdu ≡ release_request
      → AsksFor r apdus apdu

-- ---- over the client's link

-- what a poll over the client's link asks
abbrev pub requests_by : PlanValue → Requests
requests_by plan = record {
  association = association_bytes plan;
  after = plan.after;
  until = plan.until;
  columns = plan.columns;
}

-- It asks the same as a poll over any carrier: its association request has the secret that the client sends, and once it took the same
-- APDUs its next request is the same.
pub record AsksTheSame (plan : PlanValue) : Type 0 where
  pub association : association_with (sent_secret plan.client plan.secret) ≡ association_bytes plan
  pub over_carrier : (apdus : List (List ℕ)) (apdu : List ℕ) → Asks plan apdus apdu
      → AsksFor (requests_by plan) apdus apdu
  pub over_link : (apdus : List (List ℕ)) (apdu : List ℕ) → AsksFor (requests_by plan) apdus apdu
      → Asks plan apdus apdu
