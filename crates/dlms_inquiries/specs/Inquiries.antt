-- The requests of a script as a job: the client's calls at each input, and the octets that are then sent.
use Rattle.std.specs.Prelude.{◌≡◌, ◌⊎◌, ◌-◌, ◌<◌, ◌≤◌, ℕ, Bool, true, false, List, [], ◌++◌, drop, length, Option, Some, None, Result, Ok, Err, Vec, option_map}
use Rattle.std.specs.declared.alloc.AllocError.{AllocError}
use Rattle.std.specs.declared.alloc.Global.{Global}
use Rattle.dlms_apdu.specs.Forms.{RequestForm, get_normal, set_normal, action_normal}
use Rattle.dlms_association.specs.declared.answer.Answer.{Answer}
use Rattle.dlms_association.specs.declared.fault.Fault.{Fault}
use Rattle.dlms_association.specs.declared.requests.TheConstants.{INVOKE}
use Rattle.dlms_carrier.specs.Any.{AnyValue, IsFresh}
use Rattle.dlms_client.specs.Calls.{fresh}
use Rattle.dlms_client.specs.ClientValue.{ClientValue}
use Rattle.dlms_client.specs.Plan.{PlanValue, terms_in}
use Rattle.dlms_client.specs.Run.{Call, IsCall, Begin, Feed, Wait, Ask, Disconnect}
use Rattle.dlms_client.specs.declared.outcome.Outcome.{Outcome}
use Rattle.dlms_client.specs.declared.outcome.Outcome.TheVariants.{Nothing, Associated, Answered, Down}
use Rattle.dlms_data.specs.View.{value_of}
use Rattle.dlms_fleet.specs.Inputs.{Input}
use Rattle.dlms_fleet.specs.Inputs.Input.{Begins as BeginsOf, Reads as ReadsOf, TimesOut}
use Rattle.dlms_fleet.specs.declared.job.JobStep.{JobStep}
use Rattle.dlms_fleet.specs.declared.job.JobStep.TheVariants as taken
use Rattle.dlms_secured.specs.Guard.{GuardValue}
use Rattle.dlms_secured.specs.declared.fault.SecuredFault.{SecuredFault}
use Rattle.dlms_inquiries.specs.Carried.{CarriedValue, fault_of, means, out_of}
use Rattle.dlms_inquiries.specs.declared.ask_job.Progress.{Progress}
use Rattle.dlms_inquiries.specs.declared.ask_job.Progress.TheVariants.{Waits, Done}
use Rattle.dlms_inquiries.specs.declared.ask_job.TheConstants.{MOST_BYTES}
use Rattle.dlms_inquiries.specs.declared.fault.InquiryFault.{InquiryFault}
use Rattle.dlms_inquiries.specs.declared.fault.InquiryFault.TheVariants.{Talk, Insecure}
use Rattle.dlms_inquiries.specs.declared.script.Question.{Question}
use Rattle.dlms_inquiries.specs.declared.script.Question.TheVariants as question

abbrev pub ClientAt : Type 0
ClientAt = ClientValue CarriedValue

-- the client, the script of its requests, how many bytes may still arrive, and whether the script has no more requests
pub record AskValue (S : Type 0) : Type 0 where
  pub client : ClientAt
  pub script : S
  pub left : ℕ
  pub is_over : Bool

-- what a script does: before an answer, the answer, the encoding with it, the request that follows, after it
abbrev pub ScriptOf : Type 0 → Type 1
ScriptOf S = S → Option Answer → List ℕ → Result (Option Question) AllocError → S → Type 0

-- the client's request for a request of the script
abbrev pub form_of : Question → RequestForm
form_of (question.Get attribute) = get_normal INVOKE attribute None
form_of (question.Set attribute value) = set_normal INVOKE attribute None (value_of value)
form_of (question.Act method parameter) =
    action_normal INVOKE method (option_map value_of parameter)

-- a job by this plan with this guard, or with none, and with this script, to which nothing has come
pub record IsNew {S : Type 0} (plan : PlanValue) (guard : Option GuardValue) (given : S)
    (t : AskValue S) : Type 0 where
  pub carrier : AnyValue
  pub route : IsFresh plan.route carrier
  pub client : t.client ≡ fresh (record { carrier = carrier; guard = guard }) (terms_in plan)
  pub asks : t.script ≡ given
  pub left : t.left ≡ MOST_BYTES
  pub going : t.is_over ≡ false

-- the report of a client's fault: the security layer's cause, if it ended the association
abbrev pub cause : Option SecuredFault → Fault → InquiryFault
cause None fault = Talk fault
cause (Some why) fault = Insecure why

-- ---- calls of the client

-- if the job goes on, no fault of the security layer is there, and the octets of the client's last call are added to those to send
abbrev pub Collects : List ℕ → List ℕ → ClientAt → Result Progress InquiryFault → Type 0
Collects old new c (Ok Waits) = (fault_of c.carrier ≡ None) × (new ≡ old ++ out_of c.carrier)
Collects old new c (Ok Done) = ⊥
Collects old new c (Err why) = Unit {0}

-- a call of the client, after which no fault of the security layer is there, and its octets
pub record Makes (c : ClientAt) (call : Call) (out : List ℕ) (c' : ClientAt) : Type 0 where
  pub is_call : IsCall means c call c'
  pub whole : fault_of c'.carrier ≡ None
  pub octets : out ≡ out_of c'.carrier

-- if the job goes on, the client has made this request, and nothing else has changed
abbrev pub Requests : {S : Type 0} → AskValue S → Question → Result Progress InquiryFault
    → AskValue S → Type 0
Requests t asked (Ok Waits) t' = IsCall means t.client (Ask (form_of asked) (Ok tt)) t'.client
    × (t' ≡ record t { client = t'.client })
Requests t asked (Ok Done) t' = ⊥
Requests t asked (Err why) t' = Unit {0}

-- the client has requested the connection's end, or the job fails
abbrev pub Leaves : {S : Type 0} → AskValue S → Result Progress InquiryFault → AskValue S → Type 0
Leaves t (Ok progress) t' = (outcome : Outcome)
    × IsCall means t.client (Disconnect outcome) t'.client
    × (t' ≡ record t { client = t'.client; is_over = true })
Leaves t (Err why) t' = Unit {0}

abbrev pub Chooses : {S : Type 0} → AskValue S → Option Question → Result Progress InquiryFault
    → AskValue S → Type 0
Chooses t None result t' = Leaves t result t'
Chooses t (Some asked) result t' = Requests t asked result t'

-- ---- the script

-- the outcomes of the client that the script gets
abbrev pub answer_in : Outcome → Option (Option Answer)
answer_in Nothing = None
answer_in Associated = Some None
answer_in (Answered answer) = Some (Some answer)
answer_in Down = None

-- The script gets the answer and the encoding that came with it, and the client makes the request that it gives; or there is none, and
-- the client requests the connection's end.
pub data Goes {S : Type 0} (follows : ScriptOf S) (t : AskValue S) (answer : Option Answer)
    (out : List ℕ) (t' : AskValue S) : Type 0 where
  Asks : (asked : Question)
      → follows t.script answer t.client.association.blocks.joined (Ok (Some asked)) t'.script
      → Makes t.client (Ask (form_of asked) (Ok tt)) out t'.client
      → t'.left ≡ t.left → t'.is_over ≡ t.is_over → Goes follows t answer out t'
  Ends : (outcome : Outcome)
      → follows t.script answer t.client.association.blocks.joined (Ok None) t'.script
      → Makes t.client (Disconnect outcome) out t'.client
      → t'.left ≡ t.left → t'.is_over ≡ true → Goes follows t answer out t'

-- if the job goes on, it is so, with these octets
abbrev pub GoesOn : {S : Type 0} → ScriptOf S → List ℕ → List ℕ → AskValue S → Option Answer
    → Result Progress InquiryFault → AskValue S → Type 0
GoesOn follows old new t answer (Ok Waits) t' = (out : List ℕ) × (new ≡ old ++ out)
    × Goes follows t answer out t'
GoesOn follows old new t answer (Ok Done) t' = t'.is_over ≡ true
GoesOn follows old new t answer (Err why) t' = Unit {0}

-- what the job does by an outcome of the client
pub data Follows {S : Type 0} (follows : ScriptOf S) (t : AskValue S) (outcome : Outcome)
    (out : List ℕ) (t' : AskValue S) : Type 0 where
  Rests : outcome ≡ Nothing → out ≡ [] → t' ≡ t → Follows follows t outcome out t'
  Moves : (answer : Option Answer) → answer_in outcome ≡ Some answer
      → Goes follows t answer out t' → Follows follows t outcome out t'

abbrev pub FollowsOn : {S : Type 0} → ScriptOf S → List ℕ → List ℕ → AskValue S → Outcome
    → Result Progress InquiryFault → AskValue S → Type 0
FollowsOn follows old new t outcome (Ok Waits) t' = (out : List ℕ) × (new ≡ old ++ out)
    × Follows follows t outcome out t'
FollowsOn follows old new t outcome (Ok Done) t' = t'.is_over ≡ true
FollowsOn follows old new t outcome (Err why) t' = Unit {0}

-- ---- octets arrive

-- the client reads octets, and the job does what follows from the outcome
pub record Reads {S : Type 0} (follows : ScriptOf S) (t : AskValue S) (octets : List ℕ) (count : ℕ)
    (out : List ℕ) (t' : AskValue S) : Type 0 where
  pub outcome : Outcome
  pub first : List ℕ
  pub second : List ℕ
  pub client : ClientAt
  pub reads : Makes t.client (Feed octets count (Ok outcome)) first client
  pub does : Follows follows (record t { client = client }) outcome second t'
  pub all : out ≡ first ++ second

abbrev pub OneRead : {S : Type 0} → ScriptOf S → List ℕ → List ℕ → AskValue S → List ℕ → ℕ
    → Result Progress InquiryFault → AskValue S → Type 0
OneRead follows old new t octets count (Ok Waits) t' = (out : List ℕ) × (new ≡ old ++ out)
    × Reads follows t octets count out t'
OneRead follows old new t octets count (Ok Done) t' = t'.is_over ≡ true
OneRead follows old new t octets count (Err why) t' = Unit {0}

-- one read after another, each with the octets that are left
pub data AllRead {S : Type 0} (follows : ScriptOf S) (t : AskValue S) (octets : List ℕ)
    : List ℕ → AskValue S → List ℕ → Type 0 where
  NoRead : AllRead follows t octets [] t octets
  OneMore : (before out : List ℕ) (mid t' : AskValue S) (rest : List ℕ) (count : ℕ)
      → AllRead follows t octets before mid rest → Reads follows mid rest count out t'
      → AllRead follows t octets (before ++ out) t' (drop count rest)

abbrev pub ReadsPiece : {S : Type 0} → ScriptOf S → List ℕ → List ℕ → AskValue S → List ℕ
    → Result Progress InquiryFault → AskValue S → Type 0
ReadsPiece follows old new t octets (Ok Waits) t' = (out : List ℕ) × (new ≡ old ++ out)
    × AllRead follows t octets out t' []
ReadsPiece follows old new t octets (Ok Done) t' = t'.is_over ≡ true
ReadsPiece follows old new t octets (Err why) t' = Unit {0}

-- ---- the job's step

-- the client's calls at an input, after which the job goes on, and the octets that they give
abbrev pub GoesAt : {S : Type 0} → ScriptOf S → Input → List ℕ → AskValue S → AskValue S → Type 0
GoesAt follows BeginsOf out t t' = Makes t.client Begin out t'.client
    × (t' ≡ record t { client = t'.client })
GoesAt follows (ReadsOf bytes) out t t' = (length bytes ≤ t.left)
    × AllRead follows (record t { left = t.left - length bytes }) bytes out t' []
GoesAt follows TimesOut out t t' = (outcome : Outcome)
    × Makes t.client (Wait (Ok outcome)) out t'.client × (t' ≡ record t { client = t'.client })

-- the outcome of the calls at an input: if the job goes on, they are those, and their octets are added to those to send; if it is done,
-- the script has no more requests
abbrev pub Told : {S : Type 0} → ScriptOf S → Input → List ℕ → List ℕ → AskValue S
    → Result Progress InquiryFault → AskValue S → Type 0
Told follows at old new t (Ok Waits) t' = (out : List ℕ) × (new ≡ old ++ out)
    × GoesAt follows at out t t'
Told follows at old new t (Ok Done) t' = t'.is_over ≡ true
Told follows at old new t (Err why) t' = Unit {0}

-- a job that is over is done, whatever came of its calls
abbrev pub Settled : {S : Type 0} → AskValue S → Result Progress InquiryFault
    → Result Progress InquiryFault → Type 0
Settled t told result = (result ≡ told) ⊎ ((result ≡ Ok Done) × (t.is_over ≡ true))

abbrev pub Sent : Type 0
Sent = Vec ℕ Global

-- the step for an outcome: these octets are sent, if there are any
abbrev pub IsSending : List ℕ → JobStep Sent InquiryFault → Type 0
IsSending octets taken.Nothing = octets ≡ []
IsSending octets (taken.Sends message) = (message.items ≡ octets) × (0 < length octets)
IsSending octets taken.Done = ⊥
IsSending octets (taken.Fails fault) = ⊥

abbrev pub IsStep : List ℕ → Result Progress InquiryFault → JobStep Sent InquiryFault → Type 0
IsStep octets (Ok Waits) step = IsSending octets step
IsStep octets (Ok Done) step = step ≡ taken.Done
IsStep octets (Err why) step = step ≡ taken.Fails why

-- The job goes on by the client's calls, and their octets are sent, if there are any. It is done only once the script has no more
-- requests.
abbrev pub JobSteps : {S : Type 0} → ScriptOf S → AskValue S → Input → JobStep Sent InquiryFault
    → AskValue S → Type 0
JobSteps follows t at taken.Nothing t' = GoesAt follows at [] t t'
JobSteps follows t at (taken.Sends message) t' = GoesAt follows at message.items t t'
    × (0 < length message.items)
JobSteps follows t at taken.Done t' = t'.is_over ≡ true
JobSteps follows t at (taken.Fails fault) t' = Unit {0}
