-- A client, call by call, over any carrier: a run of it is a run of its carrier and a run of its association, with the same APDUs in
-- both, so each answer is what the APDUs say that were taken since its request.
use Rattle.std.specs.Prelude.{◌≡◌, ℕ, List, [], ◌∷◌, take, Option, Some, None, Result, Ok, Err}
use Rattle.std.specs.List.{filter_map, flat_map}
use Rattle.dlms_apdu.specs.Forms.{RequestForm}
use Rattle.dlms_association.specs.Calls.{IsClosed, IsFree}
use Rattle.dlms_association.specs.Run.{Call as InnerCall, Open, Take, Ask as AskOf, Release as ReleaseOf, Close, Break, Runs as InnerRuns, Since, asked_of, nothing_yet, IsAnswered as IsAnsweredBy, IsOfTheRequest}
use Rattle.dlms_association.specs.Terms.{TermsValue}
use Rattle.dlms_association.specs.declared.answer.Answer.{Answer}
use Rattle.dlms_association.specs.declared.ask_fault.AskFault.{AskFault}
use Rattle.dlms_association.specs.declared.fault.Fault.{Fault}
use Rattle.dlms_association.specs.declared.stage.Asked.{Asked}
use Rattle.dlms_association.specs.declared.stage.Stage.TheVariants.{Asking}
use Rattle.dlms_association.specs.declared.step.Step.{Step}
use Rattle.dlms_association.specs.declared.step.Step.TheVariants as step
use Rattle.dlms_carrier.specs.Any.{AnyValue, Steps, apdu_of, out_of}
use Rattle.dlms_carrier.specs.Carrying.{Input, Begin as BeginOf, Give, Feed as FeedOf, Wait as WaitOf, End, Call as CarrierCall, Runs as CarrierRuns, given, handed_at, handed_up, read, StepsOf, Meaning}
use Rattle.dlms_carrier.specs.declared.event.Event.TheVariants as event
use Rattle.dlms_client.specs.Calls.{Asks, Begins, Feeds, Leaves, Releases, Waits, fresh}
use Rattle.dlms_client.specs.ClientValue.{ClientValue}
use Rattle.dlms_client.specs.declared.outcome.Outcome.{Outcome}
use Rattle.dlms_client.specs.declared.outcome.Outcome.TheVariants.{Answered}

-- a call, its arguments and its result; of the octets that arrived the first `count` are read
pub data Call : Type 0 where
  Begin : Call
  Feed : (octets : List ℕ) (count : ℕ) → (result : Result Outcome Fault) → Call
  Wait : (result : Result Outcome Fault) → Call
  Ask : (form : RequestForm) → (result : Result (Unit {0}) AskFault) → Call
  Release : Call
  Disconnect : (outcome : Outcome) → Call

-- what a call's contract says of the client before and after it
abbrev pub IsCall : {C : Type 0} → Meaning C → ClientValue C → Call → ClientValue C → Type 0
IsCall m old Begin new = IsClosed old.association × Begins m.steps old new
IsCall m old (Feed octets count result) new = Feeds m.steps m.apdu_of old octets count result new
IsCall m old (Wait result) new = Waits m.steps m.is_waiting old result new
IsCall m old (Ask form result) new = IsFree old.association
    × Asks m.steps (asked_of form) form old result new
IsCall m old Release new = IsFree old.association × Releases m.steps old new
IsCall m old (Disconnect outcome) new = IsFree old.association × Leaves m.steps old (Ok outcome) new

-- the calls, one after another
abbrev pub Runs : {C : Type 0} → Meaning C → ClientValue C → List Call → ClientValue C → Type 0
Runs m old [] new = new ≡ old
Runs {C} m old (call ∷ calls) new = (mid : ClientValue C) × IsCall m old call mid
    × Runs m mid calls new

-- ---- the client's requests and octets

abbrev pub request_of : Call → Option RequestForm
request_of Begin = None
request_of (Feed octets count result) = None
request_of (Wait result) = None
request_of (Ask form (Ok sent)) = Some form
request_of (Ask form (Err fault)) = None
request_of Release = None
request_of (Disconnect outcome) = None

-- the requests that succeeded, and the last of them
abbrev pub requests : List Call → List RequestForm
requests calls = filter_map request_of calls

abbrev pub last_of : Option RequestForm → List RequestForm → Option RequestForm
last_of before [] = before
last_of before (form ∷ forms) = last_of (Some form) forms

abbrev pub octets_of : Call → List ℕ
octets_of Begin = []
octets_of (Feed octets count result) = take count octets
octets_of (Wait result) = []
octets_of (Ask form result) = []
octets_of Release = []
octets_of (Disconnect outcome) = []

-- the octets that the client passes to its carrier; after a fault it drops them
abbrev pub passed : Option Fault → Call → List ℕ
passed None call = octets_of call
passed (Some fault) call = []

-- ---- the association's APDUs and requests

abbrev pub taken_by : InnerCall → Option (List ℕ)
taken_by (Open apdu) = None
taken_by (Take apdu result) = Some apdu
taken_by (AskOf form result) = None
taken_by (ReleaseOf apdu) = None
taken_by Close = None
taken_by (Break fault) = None

abbrev pub sent_after : Result Step Fault → Option (List ℕ)
sent_after (Ok step.Nothing) = None
sent_after (Ok (step.Send apdu)) = Some apdu
sent_after (Ok step.Associated) = None
sent_after (Ok (step.Answered answer)) = None
sent_after (Ok step.Released) = None
sent_after (Err fault) = None

abbrev pub sent_by : InnerCall → Option (List ℕ)
sent_by (Open apdu) = Some apdu
sent_by (Take apdu result) = sent_after result
sent_by (AskOf form (Ok apdu)) = Some apdu
sent_by (AskOf form (Err fault)) = None
sent_by (ReleaseOf apdu) = Some apdu
sent_by Close = None
sent_by (Break fault) = None

abbrev pub asked_by : InnerCall → Option RequestForm
asked_by (Open apdu) = None
asked_by (Take apdu result) = None
asked_by (AskOf form (Ok apdu)) = Some form
asked_by (AskOf form (Err fault)) = None
asked_by (ReleaseOf apdu) = None
asked_by Close = None
asked_by (Break fault) = None

-- the APDUs that the association took, those that it sent, and the requests that succeeded
abbrev pub taken : List InnerCall → List (List ℕ)
taken made = filter_map taken_by made

abbrev pub sent : List InnerCall → List (List ℕ)
sent made = filter_map sent_by made

abbrev pub asked : List InnerCall → List RequestForm
asked made = filter_map asked_by made

-- ---- both runs

-- the APDU that the carrier hands up as it reads octets; the client takes no other
abbrev pub heard_by : Input → Option (List ℕ) → Option (List ℕ)
heard_by BeginOf handed = None
heard_by (Give apdu) handed = None
heard_by (FeedOf octets count) handed = handed
heard_by WaitOf handed = None
heard_by End handed = None

abbrev pub heard : List CarrierCall → List (List ℕ)
heard carried = filter_map (λ call. heard_by call.input (handed_at call.event call.apdu)) carried

-- each APDU that the carrier hands up is passed to the association, and each that the association sends is given to the carrier, in
-- their order
pub record SameApdus (carried : List CarrierCall) (made : List InnerCall) : Type 0 where
  pub up : heard carried ≡ taken made
  pub down : given carried ≡ sent made

-- the calls of its carrier and those of its association that one call of a client makes
pub record Share : Type 0 where
  pub carried : List CarrierCall
  pub made : List InnerCall

-- Both lead from the client before its call to the client after it, with the same APDUs, and with the octets and the request of the
-- client's call.
pub record IsShare {C : Type 0} (m : Meaning C) (old : ClientValue C) (call : Call) (share : Share)
    (new : ClientValue C) : Type 0 where
  pub is_call : IsCall m old call new
  pub carrier : CarrierRuns m.steps m.out_of m.apdu_of old.carrier share.carried new.carrier
  pub association : (since : Since) → (now : Since)
      × InnerRuns old.association since share.made new.association now
  pub apdus : SameApdus share.carried share.made
  pub octets : read share.carried ≡ passed old.association.failed call
  pub request : asked share.made ≡ requests (call ∷ [])

-- the share of each call
abbrev pub AreShares : {C : Type 0} → Meaning C → ClientValue C → List Call → List Share
    → ClientValue C → Type 0
AreShares m old [] [] new = new ≡ old
AreShares m old [] (share ∷ shares) new = ⊥
AreShares m old (call ∷ calls) [] new = ⊥
AreShares {C} m old (call ∷ calls) (share ∷ shares) new = (mid : ClientValue C)
    × IsShare m old call share mid × AreShares m mid calls shares new

-- all calls of the carrier, and all of the association
abbrev pub carried_in : List Share → List CarrierCall
carried_in shares = flat_map (λ share. share.carried) shares

abbrev pub made_in : List Share → List InnerCall
made_in shares = flat_map (λ share. share.made) shares

-- Beside a run of a client: the run of its carrier and that of its association, which its calls make up. They have the same APDUs,
-- and the association has the client's requests.
pub record Beside {C : Type 0} (m : Meaning C) (old : ClientValue C) (since : Since)
    (calls : List Call) (new : ClientValue C) : Type 0 where
  pub shares : List Share
  pub each : AreShares m old calls shares new
  pub carrier : CarrierRuns m.steps m.out_of m.apdu_of old.carrier (carried_in shares) new.carrier
  pub now : Since
  pub association : InnerRuns old.association since (made_in shares) new.association now
  pub apdus : SameApdus (carried_in shares) (made_in shares)
  pub forms : asked (made_in shares) ≡ requests calls
  pub last : now.request ≡ last_of since.request (requests calls)

-- ---- the laws, over a carrier with this meaning

abbrev pub RunsLead : {C : Type 0} → Meaning C → Type 0
RunsLead {C} m = (old new : ClientValue C) (since : Since) (calls : List Call)
    → Runs m old calls new → Beside m old since calls new

-- At an answer: it was awaited, and is what the APDUs say that the association took since the last request, and the one that the
-- carrier hands up now. Another request may be made.
pub record IsAnswered {C : Type 0} (m : Meaning C) (old : ClientValue C) (calls : List Call)
    (at : ClientValue C) (call : Input) (answer : Answer) (new : ClientValue C) : Type 0 where
  pub beside : Beside m old nothing_yet calls at
  pub handed : m.steps at.carrier call event.Apdu new.carrier
  pub said : IsAnsweredBy beside.now at.association (m.apdu_of new.carrier) answer new.association

-- In a run of a new client each answer is so.
abbrev pub AnswersAreSaid : {C : Type 0} → Meaning C → Type 0
AnswersAreSaid {C} m = (carrier : C) (terms : TermsValue) (calls : List Call)
    (at new : ClientValue C) (octets : List ℕ) (count : ℕ) (answer : Answer)
    → Runs m (fresh carrier terms) calls at
    → Feeds m.steps m.apdu_of at octets count (Ok (Answered answer)) new
    → IsAnswered m (fresh carrier terms) calls at (FeedOf octets count) answer new

-- In a run of a new client the blocks sent, while the answer to a request is awaited, are those of the encoding of the value in the
-- last request.
abbrev pub BlocksAreOfTheRequest : {C : Type 0} → Meaning C → Type 0
BlocksAreOfTheRequest {C} m = (carrier : C) (terms : TermsValue) (calls : List Call)
    (at : ClientValue C) (asked : Asked)
    → Runs m (fresh carrier terms) calls at → at.association.failed ≡ None
    → at.association.stage ≡ Asking asked
    → (beside : Beside m (fresh carrier terms) nothing_yet calls at)
    × IsOfTheRequest beside.now at.association.sent

-- The carriers of a route hand an APDU up only as they read octets.
abbrev pub NoOtherIsHandedUp : Type 0
NoOtherIsHandedUp = (old new : AnyValue) (carried : List CarrierCall)
    → CarrierRuns Steps out_of apdu_of old carried new → heard carried ≡ handed_up carried
