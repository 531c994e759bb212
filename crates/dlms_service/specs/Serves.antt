-- The outcome of a client's APDU after the accepted events (IEC 62056-5-3: COSEM-OPEN, COSEM-RELEASE, GET, SET, ACTION,
-- Exception-Response; which result and which exception answer which case is the meter's own choice).
use Rattle.std.specs.Prelude.{◌≡◌, ◌⊎◌, ℕ, ◌==◌, ◌&&◌, if◌then◌else◌, Bool, true, false, List, [], ◌∷◌, Option, Some, None, IsTrue, IsOk, is_some, Result, Ok, Err}
use Rattle.dlms_acse.specs.Reading.{aarq_at}
use Rattle.dlms_acse.specs.Verdict.{Request, verdict}
use Rattle.dlms_acse.specs.Writing.{aare_bytes, release_response}
use Rattle.dlms_acse.specs.declared.fault.AcseFault.{AcseFault}
use Rattle.dlms_acse.specs.declared.outcome.Verdict.{Verdict}
use Rattle.dlms_acse.specs.declared.outcome.Verdict.TheVariants.{Accepted, Refused}
use Rattle.dlms_apdu.specs.Forms.{RequestForm, get_normal, get_next, set_normal, set_first, set_block, action_normal, action_first, action_block, get_result, set_result, action_result}
use Rattle.dlms_apdu.specs.Reading.{request_at, HoldsValue}
use Rattle.dlms_apdu.specs.declared.fault.Refusal.{Refusal}
use Rattle.dlms_state.specs.declared.event.Event.{Event}
use Rattle.dlms_state.specs.Events.{secret_after, columns_after}
use Rattle.dlms_state.specs.declared.event.SecretOf.{SecretOf}
use Rattle.dlms_classes.specs.declared.access.AccessResult.{AccessResult}
use Rattle.dlms_classes.specs.declared.access.AccessResult.TheVariants.{TemporaryFailure}
use Rattle.dlms_classes.specs.Access.{number_of}
use Rattle.dlms_classes.specs.Answer.{IsGranted}
use Rattle.dlms_classes.specs.Plan.{event_asked}
use Rattle.dlms_classes.specs.Secrets.{secret_of}
use Rattle.dlms_frame.specs.declared.client.Client.{Client}
use Rattle.dlms_service.specs.declared.association.Association.{Association}
use Rattle.dlms_service.specs.declared.target.Service.TheVariants.{Set, Action}
use Rattle.dlms_service.specs.Session.{SessionValue, Outcome, fresh, without_get, without_put, has, get_service, set_service, action_service, blocks_with_set, blocks_with_action, says, not_associated, not_supported, unknown_service, not_possible}
use Rattle.dlms_service.specs.Planned.{IsPlanFor, IsTyped, done}
use Rattle.dlms_service.specs.Shown.{Gets, asked, next_answer, goes_on}
use Rattle.dlms_service.specs.Blocks.{Begins, Continues, BringsAlone, BringsLast}

-- ---- the association

abbrev pub opened_by : Verdict → Option Association
opened_by (Accepted conformance size) = Some (record { conformance = conformance; size = size })
opened_by (Refused diagnostic initiate) = None

abbrev pub judged : SessionValue → Verdict → Outcome
judged s v = record {
  own = record s { opened = opened_by v };
  answer = aare_bytes v;
  accepted = [];
}

-- An association request first drops what there was of this client; one that can't be read is of an unknown service.
abbrev pub associated : SessionValue → List ℕ → Result Request AcseFault → Outcome
associated s secret (Ok r) = judged (fresh s.client) (verdict r s.client secret)
associated s secret (Err e) = unknown_service (fresh s.client)

abbrev pub released : SessionValue → Outcome
released s = record { own = fresh s.client; answer = release_response; accepted = [] }

-- which of the two an APDU is, by its first byte
abbrev pub begins_with : ℕ → List ℕ → Bool
begins_with tag [] = false
begins_with tag (b ∷ rest) = b == tag

-- ---- the services

-- both ends have what a request is of
abbrev pub permits : Association → RequestForm → Bool
permits a (get_normal invoke d selector) = has a get_service
permits a (get_next invoke number) = has a get_service
permits a (set_normal invoke d selector v) = has a set_service
permits a (set_first invoke d selector last number raw) = has a set_service && has a blocks_with_set
permits a (set_block invoke last number raw) = has a set_service && has a blocks_with_set
permits a (action_normal invoke d parameter) = has a action_service
permits a (action_first invoke d last number raw) = has a action_service && has a blocks_with_action
permits a (action_block invoke last number raw) = has a action_service && has a blocks_with_action

-- the same by the first two bytes of a request, its service and its form, for private functions alone
abbrev pub permits_form : Association → (service form : ℕ) → Bool
permits_form a service form =
    if service == 0xC0 then has a get_service
    else if (service == 0xC1) && (form == 1) then has a set_service
    else if service == 0xC1 then has a set_service && has a blocks_with_set
    else if form == 1 then has a action_service
    else has a action_service && has a blocks_with_action

-- A request of a service that both ends have. A SET or an ACTION that is no further block drops the value that comes.
abbrev pub Asks : List Event → SessionValue → Association → RequestForm → Outcome → Type 0
Asks E s a (get_normal invoke d selector) o = Gets E s a invoke d selector o
Asks E s a (get_next invoke number) o = o ≡ goes_on s invoke number
Asks E s a (set_normal invoke d selector v) o =
    (plan : Result Event AccessResult)
    × IsPlanFor Set s.client (record {
      service = Set;
      descriptor = d;
      selected = is_some selector;
    }) (Some v) plan
    × IsTyped plan × (o ≡ done E (without_put s) (set_result invoke) plan)
Asks E s a (set_first invoke d selector last number raw) o =
    Begins E s invoke (record {
      service = Set;
      descriptor = d;
      selected = is_some selector;
    }) (record {
      last = last;
      number = number;
      raw = raw;
    }) o
Asks E s a (set_block invoke last number raw) o = Continues E s Set invoke (record {
  last = last;
  number = number;
  raw = raw;
}) o
Asks E s a (action_normal invoke d parameter) o =
    (plan : Result Event AccessResult) × (plan ≡ event_asked s.client d parameter) × IsTyped plan
    × (o ≡ done E (without_put s) (action_result invoke) plan)
Asks E s a (action_first invoke d last number raw) o =
    Begins E s invoke (record {
      service = Action;
      descriptor = d;
      selected = false;
    }) (record { last = last; number = number; raw = raw }) o
Asks E s a (action_block invoke last number raw) o =
    Continues E s Action invoke (record { last = last; number = number; raw = raw }) o

-- What no list of events determines: whether memory is found, for the values of a request and for its answer.
pub data Choice : Type 0 where
  FindsMemory : Choice
  LacksMemoryToRead : Choice
  LacksMemoryToAnswer : Choice

-- the blocks of a request bring a value that is looked at
abbrev pub BringsValue : SessionValue → RequestForm → Type 0
BringsValue s (set_first invoke d selector last number raw) =
    BringsAlone s.client (record {
      service = Set;
      descriptor = d;
      selected = is_some selector;
    }) (record { last = last; number = number; raw = raw })
BringsValue s (set_block invoke last number raw) = BringsLast s Set (record {
  last = last;
  number = number;
  raw = raw;
})
BringsValue s (action_first invoke d last number raw) =
    BringsAlone s.client (record {
      service = Action;
      descriptor = d;
      selected = false;
    }) (record { last = last; number = number; raw = raw })
BringsValue s (action_block invoke last number raw) = BringsLast s Action (record {
  last = last;
  number = number;
  raw = raw;
})
BringsValue s _ = ⊥

-- Want of memory for a value that the request holds, or that its blocks brought.
abbrev pub LacksToRead : SessionValue → RequestForm → Outcome → Type 0
LacksToRead s form o = (HoldsValue form ⊎ BringsValue s form) × (o ≡ not_possible s)

-- Want of memory for the answer: in place of what GET would show, and of the next block.
abbrev pub LacksToAnswer : List Event → SessionValue → Association → RequestForm → Outcome → Type 0
LacksToAnswer E s a (get_normal invoke d selector) o =
    IsGranted (columns_after E) (asked s.client a d selector)
    × (o ≡ says (without_get s) (get_result invoke (number_of TemporaryFailure)))
LacksToAnswer E s a (get_next invoke number) o = IsOk (next_answer s.getting number)
    × (o ≡ not_possible s)
LacksToAnswer E s a _ o = ⊥

abbrev pub Permitted : List Event → SessionValue → Association → RequestForm → Bool → Outcome
    → Type 0
Permitted E s a form true o = Asks E s a form o
Permitted E s a form false o = o ≡ not_supported s

-- Out of memory comes after every refusal that needs no memory, also after that of a service that is not permitted.
abbrev pub Requested : Choice → List Event → SessionValue → Association → RequestForm → Outcome
    → Type 0
Requested FindsMemory E s a form o = Permitted E s a form (permits a form) o
Requested LacksMemoryToRead E s a form o = IsTrue (permits a form) × LacksToRead s form o
Requested LacksMemoryToAnswer E s a form o = IsTrue (permits a form) × LacksToAnswer E s a form o

abbrev pub Read : Choice → List Event → SessionValue → Association → Result RequestForm Refusal
    → Outcome → Type 0
Read choice E s a (Ok form) o = Requested choice E s a form o
Read choice E s a (Err refusal) o = o ≡ unknown_service s

abbrev pub Within : Choice → List Event → SessionValue → List ℕ → Option Association → Outcome
    → Type 0
Within choice E s apdu None o = o ≡ not_associated s
Within choice E s apdu (Some a) o = Read choice E s a (request_at apdu) o

-- ---- any APDU: an association request (60), a release (62), or a request within an association

abbrev pub Released : Choice → List Event → SessionValue → List ℕ → Bool → Outcome → Type 0
Released choice E s apdu true o = o ≡ released s
Released choice E s apdu false o = Within choice E s apdu s.opened o

-- the secret that a client has to know after these events: its own, if it has one
abbrev pub own_secret : Option SecretOf → List Event → List ℕ
own_secret (Some whose) E = secret_after whose E
own_secret None E = []

abbrev pub secret_for : Client → List Event → List ℕ
secret_for client E = own_secret (secret_of client) E

abbrev pub Associated : Choice → List Event → SessionValue → List ℕ → Bool → Outcome → Type 0
Associated choice E s apdu true o = o ≡ associated s (secret_for s.client E) (aarq_at apdu)
Associated choice E s apdu false o = Released choice E s apdu (begins_with 0x62 apdu) o

abbrev pub Serves : Choice → List Event → SessionValue → List ℕ → Outcome → Type 0
Serves choice E s apdu o = Associated choice E s apdu (begins_with 0x60 apdu) o
