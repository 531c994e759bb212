-- What the calls of the security layer make: a result, the state after it, and the calls
-- themselves.
use Rattle.std.specs.Prelude.{◌≡◌, ℕ, nat_lt, ◌==◌, ◌&&◌, ◌||◌, if◌then◌else◌, Bool, true, false}
use Rattle.std.specs.Prelude.{not, List, [], ◌∷◌}
use Rattle.std.specs.Prelude.{◌++◌, length}
use Rattle.std.specs.Prelude.{Option, Some, None, Result, Ok, Err}
use Rattle.std.specs.Str.{bytes_eq}
use Rattle.dlms_security.specs.Security.{SecurityState, message_for, answer_for, after_protect}
use Rattle.dlms_security.specs.Security.{acceptance, apdu_in, after_unprotect, after_learn}
use Rattle.dlms_security.specs.Security.{IsAnswerOf}
use Rattle.dlms_security.specs.Run.{Event, Protects, Unprotects, Learns, Answers}
use Rattle.dlms_security.specs.declared.fault.ProtectFault.{ProtectFault}
use Rattle.dlms_security.specs.declared.fault.UnprotectFault.{UnprotectFault}
use Rattle.dlms_security.specs.declared.fault.UnprotectFault.TheVariants as unprotect
use Rattle.dlms_security.specs.declared.form.Form.{Form}
use Rattle.dlms_security.specs.declared.policy.Policy.{Policy}
use Rattle.dlms_security.specs.declared.policy.Policy.TheVariants.{Authenticated, Encrypted}
use Rattle.dlms_security.specs.declared.policy.Policy.TheVariants.{AuthenticatedEncrypted}
use Rattle.dlms_secured.specs.declared.fault.SecuredFault.{SecuredFault}
use Rattle.dlms_secured.specs.declared.fault.SecuredFault.TheVariants as fault
use Rattle.dlms_secured.specs.declared.stage.Granted.{Granted}
use Rattle.dlms_secured.specs.declared.reply.Reply.{Reply}
use Rattle.dlms_secured.specs.declared.messages.TheConstants.{MOST_CARRIED, LEAST_CLEAR, MOST_FIELD}
use Rattle.dlms_secured.specs.Messages.{reply_to_hls, clear_size, secured_aarq, secured_rlrq}
use Rattle.dlms_secured.specs.Response.{Response, response_in, granted_in, proof_in, value_in}
use Rattle.dlms_acse.specs.Reading.{inner_at}

pub record Made (A : Type 0) : Type 0 where
  pub security : SecurityState
  pub calls : List Event
  pub result : Result A SecuredFault

-- a result without a call
abbrev pub made : {A : Type 0} → SecurityState → Result A SecuredFault → Made A
made s result = record { security = s; calls = []; result = result }

-- these calls came first
abbrev pub after_calls : {A : Type 0} → List Event → Made A → Made A
after_calls calls m = record { security = m.security; calls = calls ++ m.calls; result = m.result }

-- after a fault nothing more is called
abbrev pub continued : {A B : Type 0} → SecurityState → List Event → Result A SecuredFault
    → (SecurityState → A → Made B) → Made B
continued s calls (Ok x) next = after_calls calls (next s x)
continued s calls (Err why) next = record { security = s; calls = calls; result = Err why }

abbrev pub followed : {A B : Type 0} → Made A → (SecurityState → A → Made B) → Made B
followed m next = continued m.security m.calls m.result next

-- ---- one call

-- an APDU that is no protected message came in clear
abbrev pub refusal : UnprotectFault → SecuredFault
refusal unprotect.NotProtected = fault.InClear
refusal unprotect.Short = fault.Message unprotect.Short
refusal unprotect.Long = fault.Message unprotect.Long
refusal unprotect.UnknownTitle = fault.Message unprotect.UnknownTitle
refusal unprotect.AnotherTitle = fault.Message unprotect.AnotherTitle
refusal unprotect.AnotherControl = fault.Message unprotect.AnotherControl
refusal unprotect.OldCounter = fault.Message unprotect.OldCounter
refusal unprotect.WrongTag = fault.Message unprotect.WrongTag
refusal unprotect.AnotherService = fault.Message unprotect.AnotherService

abbrev pub or_refusal : Result (List ℕ) UnprotectFault → Result (List ℕ) SecuredFault
or_refusal (Ok apdu) = Ok apdu
or_refusal (Err why) = Err (refusal why)

-- the APDU in a message of the meter
unfoldable pub unprotects : SecurityState → List ℕ → Made (List ℕ)
unprotects s message = record {
  security = after_unprotect s (acceptance s message);
  calls = Unprotects message (apdu_in (acceptance s message)) ∷ [];
  result = or_refusal (apdu_in (acceptance s message));
}

-- a message of at most this many octets
abbrev pub within : ℕ → Result (List ℕ) ProtectFault → Result (List ℕ) SecuredFault
within most (Ok message) = if nat_lt most (length message) then Err fault.Size else Ok message
within most (Err why) = Err (fault.Protect why)

-- the protected form of an APDU
unfoldable pub protects : SecurityState → Form → ℕ → List ℕ → Made (List ℕ)
protects s form most apdu = record {
  security = after_protect s (message_for s form apdu);
  calls = Protects form apdu (message_for s form apdu) ∷ [];
  result = within most (message_for s form apdu);
}

abbrev pub or_protect_fault : Result (List ℕ) ProtectFault → Result (List ℕ) SecuredFault
or_protect_fault (Ok answer) = Ok answer
or_protect_fault (Err why) = Err (fault.Protect why)

-- the answer to the meter's challenge
unfoldable pub answers : SecurityState → List ℕ → Made (List ℕ)
answers s challenge = record {
  security = after_protect s (answer_for s challenge);
  calls = Answers challenge (answer_for s challenge) ∷ [];
  result = or_protect_fault (answer_for s challenge);
}

-- ---- the association

-- an association response is accepted
abbrev pub reply_of : List ℕ → Granted → List ℕ → Reply
reply_of title granted answer = record { title = title; granted = granted; answer = answer }

unfoldable pub replies : SecurityState → Response → Granted → Made Reply
replies s response granted =
    followed (answers s response.challenge)
    (λ t answer. made t (Ok (reply_of response.title granted answer)))

-- the meter has to receive APDUs that are long enough
abbrev pub grants : SecurityState → Response → Option Granted → Made Reply
grants s response None = made s (Err fault.Initiate)
grants s response (Some granted) =
    if nat_lt (clear_size granted.size) LEAST_CLEAR then made s (Err fault.Size)
    else replies s response granted

-- the peer has this title
abbrev pub is_title : List ℕ → Option (List ℕ) → Bool
is_title title None = false
is_title title (Some peer) = bytes_eq peer title

-- the initiate response is opened under the peer's title
abbrev pub opens : SecurityState → Response → Made Reply
opens s response =
    if is_title response.title s.peer
    then followed (unprotects s response.message)
    (λ t apdu. grants t response (granted_in apdu))
    else made s (Err fault.Title)

-- the meter's title is learned first
abbrev pub learns : SecurityState → Response → Made Reply
learns s response =
    after_calls (Learns response.title ∷ [])
    (opens (after_learn s s.peer response.title) response)

-- The octets begin as an APDU of a client: an initiate request, or a get, set or action request.
abbrev pub is_request : List ℕ → Bool
is_request (tag ∷ kind ∷ rest) = ((tag == 0x01) && nat_lt kind 2)
    || (((tag == 0xC0) || ((tag == 0xC1) || (tag == 0xC3))) && (nat_lt 0 kind && nat_lt kind 7))
is_request _ = false

-- The answer's tag is that of a message under authentication alone whose APDU is the challenge. So
-- under that policy a challenge that begins as a request gets no answer.
abbrev pub may_answer : Policy → List ℕ → Bool
may_answer Authenticated challenge = not (is_request challenge)
may_answer Encrypted challenge = true
may_answer AuthenticatedEncrypted challenge = true

abbrev pub accepts_response : SecurityState → Result Response SecuredFault → Made Reply
accepts_response s (Ok response) =
    if may_answer s.policy response.challenge then learns s response
    else made s (Err fault.NoChallenge)
accepts_response s (Err why) = made s (Err why)

-- an association response with these fields, to a client with this challenge
abbrev pub accepts_fields : SecurityState → List ℕ → Option (List ℕ) → Made Reply
accepts_fields s own None = made s (Err fault.Response)
accepts_fields s own (Some fields) = accepts_response s (response_in s.own own fields)

unfoldable pub accepts : SecurityState → List ℕ → List ℕ → Made Reply
accepts s own apdu = accepts_fields s own (inner_at 0x61 apdu)

-- the answer to the meter's challenge goes out in a protected action request
abbrev pub sends_answer : SecurityState → Form → List ℕ → Made (List ℕ)
sends_answer s form answer = protects s form MOST_CARRIED (reply_to_hls answer)

-- ---- two layers

-- What the layer of the global key and that of the dedicated one make; `session` are the calls of
-- the latter.
pub record Both (A : Type 0) : Type 0 where
  pub security : SecurityState
  pub dedicated : Option SecurityState
  pub calls : List Event
  pub session : List Event
  pub result : Result A SecuredFault

-- the layer of the global key makes this
abbrev pub under : {A : Type 0} → Option SecurityState → Made A → Both A
under dedicated m = record {
  security = m.security;
  dedicated = dedicated;
  calls = m.calls;
  session = [];
  result = m.result;
}

-- the layer of the dedicated key makes this if there is one, and otherwise that of the global key
abbrev pub through : {A : Type 0} → SecurityState → Option SecurityState → (SecurityState → Made A)
    → Both A
through s None make = under None (make s)
through s (Some d) make = record {
  security = s;
  dedicated = Some (make d).security;
  calls = [];
  session = (make d).calls;
  result = (make d).result;
}

-- the layer of the dedicated key learns the meter's title
abbrev pub taught : List ℕ → Option SecurityState → Option SecurityState
taught title None = None
taught title (Some d) = Some (after_learn d d.peer title)

abbrev pub taught_by : List ℕ → Option SecurityState → List Event
taught_by title None = []
taught_by title (Some d) = Learns title ∷ []

-- ---- the release response

abbrev pub releases_by : SecurityState → Option (List ℕ) → Made (Unit {0})
releases_by s None = made s (Err fault.Response)
releases_by s (Some message) = followed (unprotects s message) (λ t apdu. made t (Ok tt))

-- a release response without user information is taken; a protected initiate response in it is
-- opened
abbrev pub releases_with : SecurityState → Option (List ℕ) → Made (Unit {0})
releases_with s None = made s (Ok tt)
releases_with s (Some value) = releases_by s (inner_at 0x04 value)

abbrev pub releases_fields : SecurityState → Option (List ℕ) → Made (Unit {0})
releases_fields s None = made s (Err fault.Response)
releases_fields s (Some fields) = releases_with s (value_in 0xBE fields)

unfoldable pub releases : SecurityState → List ℕ → Made (Unit {0})
releases s apdu = releases_fields s (inner_at 0x63 apdu)

-- ---- the association request and the release request

-- the association request around the protected initiate request
unfoldable pub asks : SecurityState → Form → List ℕ → List ℕ → Made (List ℕ)
asks s form own initiate = followed (protects s form MOST_FIELD initiate)
    (λ t message. made t (Ok (secured_aarq s.own own message)))

-- the release request around the protected initiate request
unfoldable pub leaves : SecurityState → Form → List ℕ → Made (List ℕ)
leaves s form initiate = followed (protects s form MOST_FIELD initiate)
    (λ t message. made t (Ok (secured_rlrq message)))

-- ---- the meter's proof

-- the octets are the meter's answer to the own challenge
abbrev pub IsProof : SecurityState → List ℕ → Option (List ℕ) → Type 0
IsProof s own None = ⊥
IsProof s own (Some answer) = IsAnswerOf s s.peer own answer

-- the answer is right, or it is not
abbrev pub Proves : SecurityState → List ℕ → Option (List ℕ) → Result (Unit {0}) SecuredFault
    → Type 0
Proves s own answer (Ok done) = IsProof s own answer
Proves s own answer (Err why) = (IsProof s own answer → ⊥) × (why ≡ fault.NotProved)

-- after the protected reply is opened
abbrev pub Confirms : SecurityState → List ℕ → Result (List ℕ) SecuredFault
    → Result (Unit {0}) SecuredFault → Type 0
Confirms s own (Ok reply) proved = Proves s own (proof_in reply) proved
Confirms s own (Err why) proved = proved ≡ Err why
