-- A poll of the load profile, by the APDUs that it took since its link came up: an association response that accepts, then answers
-- to GET whose data, or whose blocks joined, spell an array of rows, then the answer to the release. If the plan asks for the
-- columns, an answer with them comes before the rows, and another one after them. The next request of a poll, and why it fails,
-- depend on the whole list of these APDUs.
use Rattle.std.specs.Prelude.{◌≡◌, ◌⊎◌, ℕ, ◌+◌, ◌<◌, ◌==◌, if◌then◌else◌, Bool, true, false, List, [], ◌∷◌, ◌++◌, length, Result, Ok, Err}
use Rattle.dlms_acse.specs.declared.fault.AcseFault.{AcseFault}
use Rattle.dlms_acse.specs.declared.outcome.Verdict.{Verdict}
use Rattle.dlms_acse.specs.declared.outcome.Verdict.TheVariants.{Accepted, Refused as Rejected}
use Rattle.dlms_acse.specs.Reading.{aare_at}
use Rattle.dlms_acse.specs.Writing.{release_request}
use Rattle.dlms_apdu.specs.declared.fault.Refusal.{Refusal}
use Rattle.dlms_apdu.specs.Forms.{ResponseForm, get_data, get_result, get_block, get_block_result, exception}
use Rattle.dlms_apdu.specs.Reading.{response_at}
use Rattle.dlms_headend.specs.declared.answer.TheConstants.{EXCEPTION}
use Rattle.dlms_headend.specs.declared.row.Row.{Row}
use Rattle.dlms_headend.specs.declared.poll_fault.PollFault.{PollFault}
use Rattle.dlms_headend.specs.declared.poll_fault.PollFault.TheVariants.{Refused, Result as BadResult, Protocol}
use Rattle.dlms_headend.specs.Rows.{IsProfile, IsEncoded, HasSome}
use Rattle.dlms_headend.specs.Asking.{PlanValue, association_bytes, columns_bytes, IsBufferRequest, next_bytes}
use Rattle.dlms_headend.specs.Columns.{TellsColumns, MissesColumns}
use Rattle.dlms_headend.specs.declared.plan.Columns.{Columns}
use Rattle.dlms_headend.specs.declared.plan.Columns.TheVariants.{Trusted, Asked}

-- ---- one APDU

-- an exception in place of an answer: its tag, the state error and the service error
abbrev pub is_exception : List ℕ → Bool
is_exception (tag ∷ state ∷ service ∷ []) = tag == 0xD8
is_exception _ = false

-- an APDU of another form than the awaited one
abbrev pub other_fault : List ℕ → PollFault
other_fault apdu = if is_exception apdu then BadResult EXCEPTION else Protocol

-- the association is accepted
abbrev pub AcceptsBy : Result Verdict AcseFault → Type 0
AcceptsBy (Ok (Accepted conformance size)) = Unit {0}
AcceptsBy (Ok (Rejected diagnostic error)) = ⊥
AcceptsBy (Err fault) = ⊥

abbrev pub Accepts : List ℕ → Type 0
Accepts apdu = AcceptsBy (aare_at apdu)

-- it is refused, or the APDU is no association response
abbrev pub DeniesBy : Result Verdict AcseFault → List ℕ → PollFault → Type 0
DeniesBy (Ok (Accepted conformance size)) apdu fault = ⊥
DeniesBy (Ok (Rejected diagnostic error)) apdu fault = fault ≡ Refused diagnostic
DeniesBy (Err unread) apdu fault = fault ≡ other_fault apdu

abbrev pub Denies : List ℕ → PollFault → Type 0
Denies apdu fault = DeniesBy (aare_at apdu) apdu fault

-- After so many blocks, whose bytes were joined: a further block with the next number, which is not the last one.
abbrev pub IsMoreBy : ℕ → Result ResponseForm Refusal → List ℕ → Type 0
IsMoreBy taken (Ok (get_block invoke last number raw)) bytes = (last ≡ false) × (number ≡ taken + 1)
    × (raw ≡ bytes)
IsMoreBy taken _ bytes = ⊥

abbrev pub IsMore : ℕ → List ℕ → List ℕ → Type 0
IsMore taken apdu bytes = IsMoreBy taken (response_at apdu) bytes

-- Or the rows are there: in an answer with data, if no block came before, or with the last block.
abbrev pub SpellsBy : ℕ → List ℕ → Result ResponseForm Refusal → List Row → Type 0
SpellsBy taken joined (Ok (get_data invoke v)) rows = (taken ≡ 0) × IsProfile v rows
SpellsBy taken joined (Ok (get_block invoke last number raw)) rows = (last ≡ true)
    × (number ≡ taken + 1) × IsEncoded (joined ++ raw) rows
SpellsBy taken joined _ rows = ⊥

abbrev pub Spells : ℕ → List ℕ → List ℕ → List Row → Type 0
Spells taken joined apdu rows = SpellsBy taken joined (response_at apdu) rows

-- neither
pub record IsNeither (taken : ℕ) (joined : List ℕ) (read : Result ResponseForm Refusal)
    : Type 0 where
  pub no_more : (bytes : List ℕ) → IsMoreBy taken read bytes → ⊥
  pub no_rows : (rows : List Row) → SpellsBy taken joined read rows → ⊥

-- Then it is a result, in place of data if no block came before, or in place of a block; or an exception; or an APDU of another
-- form.
abbrev pub FailsBy : ℕ → List ℕ → Result ResponseForm Refusal → PollFault → Type 0
FailsBy taken joined (Ok (get_result invoke code)) fault = fault ≡ (if taken == 0
    then BadResult code else Protocol)
FailsBy taken joined (Ok (get_block_result invoke number code)) fault = fault ≡ BadResult code
FailsBy taken joined (Ok (exception state service)) fault = fault ≡ BadResult EXCEPTION
FailsBy taken joined read fault = (fault ≡ Protocol) × IsNeither taken joined read

abbrev pub Fails : ℕ → List ℕ → List ℕ → PollFault → Type 0
Fails taken joined apdu fault = FailsBy taken joined (response_at apdu) fault

-- Memory may be missing for data that is an array of rows, not of none, if no block came before; and for a block with the next
-- number, if it has bytes to join, or if it is the last one and rows are spelled.
abbrev pub NeedsBy : ℕ → List ℕ → Result ResponseForm Refusal → Type 0
NeedsBy taken joined (Ok (get_data invoke v)) = (taken ≡ 0) × HasSome (IsProfile v)
NeedsBy taken joined (Ok (get_block invoke last number raw)) = (number ≡ taken + 1)
    × ((0 < length raw) ⊎ ((last ≡ true) × HasSome (IsEncoded (joined ++ raw))))
NeedsBy taken joined _ = ⊥

-- the answer to the release, which is any APDU that begins so
abbrev pub is_release : List ℕ → Bool
is_release [] = false
is_release (tag ∷ rest) = tag == 0x63

-- ---- all APDUs

-- these are the blocks after number `before`, up to number `taken`, none of them the last; their bytes are joined
abbrev pub AreBlocks : ℕ → List (List ℕ) → ℕ → List ℕ → Type 0
AreBlocks before [] taken joined = (taken ≡ before) × (joined ≡ [])
AreBlocks before (apdu ∷ apdus) taken joined = (bytes : List ℕ) × (rest : List ℕ)
    × IsMore before apdu bytes × (joined ≡ bytes ++ rest) × AreBlocks (before + 1) apdus taken rest

-- the association was accepted
pub record HasAccepted (apdus : List (List ℕ)) : Type 0 where
  pub response : List ℕ
  pub are : apdus ≡ response ∷ []
  pub accepts : Accepts response

-- and then, if the plan asks for them, came an answer with the columns
abbrev pub AreNamed : Columns → List (List ℕ) → Type 0
AreNamed Trusted apdus = apdus ≡ []
AreNamed Asked apdus = (answer : List ℕ) × (apdus ≡ answer ∷ []) × TellsColumns answer

-- and then so many blocks
pub record HasBlocks (columns : Columns) (apdus : List (List ℕ)) (taken : ℕ) (joined : List ℕ)
    : Type 0 where
  pub response : List ℕ
  pub names : List (List ℕ)
  pub blocks : List (List ℕ)
  pub are : apdus ≡ response ∷ (names ++ blocks)
  pub accepts : Accepts response
  pub named : AreNamed columns names
  pub come : AreBlocks 0 blocks taken joined

-- and then the rows
pub record HasRows (columns : Columns) (apdus : List (List ℕ)) (rows : List Row) : Type 0 where
  pub before : List (List ℕ)
  pub answer : List ℕ
  pub taken : ℕ
  pub joined : List ℕ
  pub are : apdus ≡ before ++ answer ∷ []
  pub blocks : HasBlocks columns before taken joined
  pub spelled : Spells taken joined answer rows

-- and then, if the plan asks for them, an answer with the columns again
pub record HasNamed (columns : Columns) (apdus : List (List ℕ)) (rows : List Row) : Type 0 where
  pub before : List (List ℕ)
  pub names : List (List ℕ)
  pub are : apdus ≡ before ++ names
  pub polled : HasRows columns before rows
  pub named : AreNamed columns names

-- and then the answer to the release
pub record HasReleased (columns : Columns) (apdus : List (List ℕ)) (rows : List Row) : Type 0 where
  pub before : List (List ℕ)
  pub answer : List ℕ
  pub are : apdus ≡ before ++ answer ∷ []
  pub polled : HasNamed columns before rows
  pub released : is_release answer ≡ true

-- all that a poll asks for, and then any APDUs: the answer to the release, or others in its place
pub record HasPolled (columns : Columns) (apdus : List (List ℕ)) (rows : List Row) : Type 0 where
  pub before : List (List ℕ)
  pub more : List (List ℕ)
  pub are : apdus ≡ before ++ more
  pub polled : HasNamed columns before rows

-- what a poll sends once it took these: an association request, a GET of the columns, a GET of the buffer, a GET of the next block,
-- a GET of the columns again, a release
pub data Asks (plan : PlanValue) (apdus : List (List ℕ)) (apdu : List ℕ) : Type 0 where
  associates : apdus ≡ [] → apdu ≡ association_bytes plan → Asks plan apdus apdu
  names : plan.columns ≡ Asked → HasAccepted apdus → apdu ≡ columns_bytes → Asks plan apdus apdu
  gets : (joined : List ℕ) → HasBlocks plan.columns apdus 0 joined
      → IsBufferRequest plan.after plan.until apdu
      → Asks plan apdus apdu
  goes_on : (taken : ℕ) (joined : List ℕ) → 0 < taken → HasBlocks plan.columns apdus taken joined
      → apdu ≡ next_bytes taken → Asks plan apdus apdu
  checks : (rows : List Row) → plan.columns ≡ Asked → HasRows plan.columns apdus rows
      → apdu ≡ columns_bytes → Asks plan apdus apdu
  releases : (rows : List Row) → HasNamed plan.columns apdus rows → apdu ≡ release_request
      → Asks plan apdus apdu

-- memory may be wanting for the last of these
pub record Needs (columns : Columns) (before : List (List ℕ)) (apdu : List ℕ) : Type 0 where
  pub taken : ℕ
  pub joined : List ℕ
  pub blocks : HasBlocks columns before taken joined
  pub needs : NeedsBy taken joined (response_at apdu)

-- why the last of these ends a poll that had taken the others
pub data Refuses (columns : Columns) (before : List (List ℕ)) (apdu : List ℕ) (fault : PollFault)
    : Type 0 where
  denied : before ≡ [] → Denies apdu fault → Refuses columns before apdu fault
  unnamed : columns ≡ Asked → HasAccepted before → MissesColumns apdu fault
      → Refuses columns before apdu fault
  unanswered : (taken : ℕ) (joined : List ℕ) → HasBlocks columns before taken joined
      → Fails taken joined apdu fault → Refuses columns before apdu fault
  unchecked : (rows : List Row) → columns ≡ Asked → HasRows columns before rows
      → MissesColumns apdu fault → Refuses columns before apdu fault
  unreleased : (rows : List Row) → HasNamed columns before rows → is_release apdu ≡ false
      → fault ≡ other_fault apdu → Refuses columns before apdu fault
