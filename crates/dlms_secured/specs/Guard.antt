-- The security context of one association: what it makes of each APDU that is given and of each
-- that arrives (IEC 62056-5-3, HLS with mechanism 5; Green Book 9.2.7.4).
use Rattle.std.specs.Prelude.{◌≡◌, ◌≤◌, ◌-◌, ◌^◌, ℕ, nat_lt, bit_or, if◌then◌else◌, Bool, true, false}
use Rattle.std.specs.Prelude.{List, [], ◌++◌, length}
use Rattle.std.specs.Prelude.{Option, Some, None, option_map, Result, Ok, Err}
use Rattle.dlms_acse.specs.Reading.{aarq_at}
use Rattle.dlms_acse.specs.Verdict.{Request}
use Rattle.dlms_acse.specs.Writing.{release_response}
use Rattle.dlms_acse.specs.declared.fault.AcseFault.{AcseFault}
use Rattle.dlms_carrier.specs.declared.event.Event.{Event}
use Rattle.dlms_carrier.specs.declared.event.Event.TheVariants as event
use Rattle.dlms_security.specs.Run.{Event as SecurityCall}
use Rattle.dlms_security.specs.Security.{SecurityState, after_reserved}
use Rattle.dlms_security.specs.declared.policy.Policy.{Policy}
use Rattle.dlms_security.specs.declared.policy.Policy.TheVariants.{Authenticated, Encrypted}
use Rattle.dlms_security.specs.declared.policy.Policy.TheVariants.{AuthenticatedEncrypted}
use Rattle.dlms_security.specs.declared.kind.KeyKind.TheVariants.{Dedicated}
use Rattle.dlms_security.specs.declared.form.Form.{Form}
use Rattle.dlms_security.specs.declared.form.Form.TheVariants.{Service, General}
use Rattle.dlms_secured.specs.declared.fault.SecuredFault.{SecuredFault}
use Rattle.dlms_secured.specs.declared.fault.SecuredFault.TheVariants as fault
use Rattle.dlms_secured.specs.declared.messages.TheConstants.{MOST_CARRIED}
use Rattle.dlms_secured.specs.declared.stage.Granted.{Granted}
use Rattle.dlms_secured.specs.declared.stage.Stage.{Stage}
use Rattle.dlms_secured.specs.declared.stage.Stage.TheVariants.{Closed, Opening, Proving, Open}
use Rattle.dlms_secured.specs.declared.stage.Stage.TheVariants.{Failed}
use Rattle.dlms_secured.specs.declared.reply.Reply.{Reply}
use Rattle.dlms_secured.specs.Made.{Made, Both, asks, leaves, protects, accepts, releases}
use Rattle.dlms_secured.specs.Made.{unprotects, under, through, taught, taught_by, sends_answer}
use Rattle.dlms_secured.specs.Made.{Confirms}
use Rattle.dlms_secured.specs.Messages.{plain_aare, begins, initiate_of}
use Rattle.dlms_secured.specs.Response.{is_refusal}

-- `security` is the layer of the global key, and `dedicated` that of the dedicated key `key`.
pub record GuardValue : Type 0 where
  pub security : SecurityState
  pub dedicated : Option SecurityState
  pub key : Option (List ℕ)
  pub authentication : List ℕ
  pub form : Form
  -- the own challenge, and whether no association has used it
  pub challenge : List ℕ
  pub unused : Bool
  pub stage : Stage
  -- the initiate request of the association, in clear
  pub initiate : List ℕ
  -- the APDU that was handed up last
  pub handed : List ℕ

-- A result, the calls of both layers that made it, and the guard after it.
pub record Turn (A : Type 0) : Type 0 where
  pub guard : GuardValue
  pub calls : List SecurityCall
  pub session : List SecurityCall
  pub result : Result A SecuredFault

-- the association is over
abbrev pub fails : {A : Type 0} → GuardValue → SecuredFault → Turn A
fails g why = record {
  guard = record g { stage = Failed why };
  calls = [];
  session = [];
  result = Err why;
}

abbrev pub stage_after : {A : Type 0} → Stage → Result A SecuredFault → Stage
stage_after stage (Ok x) = stage
stage_after stage (Err why) = Failed why

-- the guard after these calls is in this stage, or the association is over
abbrev pub turn : {A : Type 0} → GuardValue → Stage → Both A → Turn A
turn g stage m = record {
  guard = record g {
    security = m.security;
    dedicated = m.dedicated;
    stage = stage_after stage m.result;
  };
  calls = m.calls;
  session = m.session;
  result = m.result;
}

-- ---- the connection

abbrev pub fault_of : Stage → Option SecuredFault
fault_of Closed = None
fault_of Opening = None
fault_of (Proving granted) = None
fault_of Open = None
fault_of (Failed why) = Some why

-- Authentication alone does not hide the initiate request, so no dedicated key is sent in it.
abbrev pub hidden : Policy → Option (List ℕ) → Option (List ℕ)
hidden Authenticated key = None
hidden Encrypted key = key
hidden AuthenticatedEncrypted key = key

-- The layer of a dedicated key for a client with this title and authentication key. Its counters
-- begin at 0, and the meter's title is not known.
abbrev pub layer_of : List ℕ → List ℕ → Policy → Option (List ℕ) → Option SecurityState
layer_of own authentication policy None = None
layer_of own authentication policy (Some key) = Some (record {
  kind = Dedicated;
  own = own;
  peer = None;
  encryption = key;
  authentication = authentication;
  policy = policy;
  next = 0;
  reserved = 2 ^ 32 - 1;
  accepted = None;
})

-- a new challenge for the next association, and its dedicated key
abbrev pub renewed : GuardValue → List ℕ → Option (List ℕ) → GuardValue
renewed g challenge key = record g {
  key = hidden g.security.policy key;
  dedicated = layer_of g.security.own g.authentication g.security.policy
      (hidden g.security.policy key);
  challenge = challenge;
  unused = true;
  stage = Closed;
}

-- more counters are reserved
abbrev pub extended : GuardValue → ℕ → GuardValue
extended g reserved = record g { security = after_reserved g.security reserved }

-- a connection is requested: only under an unused challenge
abbrev pub after_begin : GuardValue → GuardValue
after_begin g = record g { stage = if g.unused then Closed else Failed fault.Challenge }

-- an event of the connection ends the association
abbrev pub after_event : GuardValue → Event → GuardValue
after_event g event.Nothing = g
after_event g event.Apdu = g
after_event g event.Up = record g { stage = Closed }
after_event g event.Down = record g { stage = Closed }
after_event g event.TimedOut = record g { stage = Closed }
after_event g (event.Refused why) = record g { stage = Closed }
after_event g event.Insecure = record g { stage = Closed }

-- ---- an APDU is given

-- with general forms general-protection is proposed too (conformance bit 1; Green Book 9.4.6.1)
abbrev pub proposes : Form → ℕ → ℕ
proposes Service services = services
proposes General services = bit_or services 0x400000

-- the initiate request of an association request: the dedicated key, these services, the same size,
-- version 6
abbrev pub initiate_in : Option (List ℕ) → Form → Result Request AcseFault → Option (List ℕ)
initiate_in key form (Ok request) = option_map
    (λ i. initiate_of key (proposes form i.conformance.0) i.size) request.initiate
initiate_in key form (Err why) = None

abbrev pub gives_initiate : GuardValue → Option (List ℕ) → Turn (List ℕ)
gives_initiate g None = fails g fault.Request
gives_initiate g (Some initiate) =
    turn (record g { unused = false; initiate = initiate }) Opening
    (under g.dedicated (asks g.security Service g.challenge initiate))

-- before the association: the association request, under an unused challenge
unfoldable pub gives_closed : GuardValue → List ℕ → Turn (List ℕ)
gives_closed g apdu =
    if g.unused then gives_initiate g (initiate_in g.key g.form (aarq_at apdu)) else fails g fault.Challenge

-- in the association: the release request, or the protected form of any other APDU
unfoldable pub gives_open : GuardValue → List ℕ → Turn (List ℕ)
gives_open g apdu =
    if begins 0x62 apdu then turn g Open (under g.dedicated (leaves g.security Service g.initiate))
    else turn g Open (through g.security g.dedicated (λ s. protects s g.form MOST_CARRIED apdu))

abbrev pub gives_in : Stage → GuardValue → List ℕ → Turn (List ℕ)
gives_in Closed g apdu = gives_closed g apdu
gives_in Opening g apdu = fails g fault.Order
gives_in (Proving granted) g apdu = fails g fault.Order
gives_in Open g apdu = gives_open g apdu
gives_in (Failed why) g apdu = fails g why

-- the message that goes out for an APDU, or why the association is over
abbrev pub gives : GuardValue → List ℕ → Turn (List ℕ)
gives g apdu = gives_in g.stage g apdu

-- ---- an APDU arrives

-- it is handed up, or this message goes out
pub data Taken : Type 0 where
  Hands : Taken
  Sends : List ℕ → Taken

-- the carrier takes the message
abbrev pub IsShort : Taken → Type 0
IsShort Hands = Unit {0}
IsShort (Sends message) = length message ≤ MOST_CARRIED

-- this APDU is handed up and the guard is in this stage, or the association is over
abbrev pub hands : {A : Type 0} → GuardValue → Both A → Stage → Result (List ℕ) SecuredFault
    → Turn Taken
hands g m stage (Ok apdu) = record {
  guard = record g {
    security = m.security;
    dedicated = m.dedicated;
    stage = stage;
    handed = apdu;
  };
  calls = m.calls;
  session = m.session;
  result = Ok Hands;
}
hands g m stage (Err why) = record {
  guard = record g { security = m.security; dedicated = m.dedicated; stage = Failed why };
  calls = m.calls;
  session = m.session;
  result = Err why;
}

-- no layer is called
abbrev pub idle : GuardValue → Both (Unit {0})
idle g = record {
  security = g.security;
  dedicated = g.dedicated;
  calls = [];
  session = [];
  result = Ok tt;
}

-- this value, if there is no fault
abbrev pub instead : {A B : Type 0} → B → Result A SecuredFault → Result B SecuredFault
instead y (Ok x) = Ok y
instead y (Err why) = Err why

abbrev pub at_most : ℕ → List ℕ → Result (List ℕ) SecuredFault
at_most most apdu = if nat_lt most (length apdu) then Err fault.Size else Ok apdu

-- the message goes out
abbrev pub sends : Result (List ℕ) SecuredFault → Result Taken SecuredFault
sends (Ok message) = Ok (Sends message)
sends (Err why) = Err why

-- the answer goes out after these calls; the layer of the dedicated key learns the meter's title
abbrev pub sends_by : GuardValue → List SecurityCall → Reply → Made (List ℕ) → Turn Taken
sends_by g calls reply m = record {
  guard = record g {
    security = m.security;
    dedicated = taught reply.title g.dedicated;
    stage = stage_after (Proving reply.granted) m.result;
  };
  calls = calls ++ m.calls;
  session = taught_by reply.title g.dedicated;
  result = sends m.result;
}

abbrev pub answers_by : GuardValue → SecurityState → List SecurityCall → Result Reply SecuredFault
    → Turn Taken
answers_by g s calls (Ok reply) = sends_by g calls reply (sends_answer s g.form reply.answer)
answers_by g s calls (Err why) = record {
  guard = record g { security = s; stage = Failed why };
  calls = calls;
  session = [];
  result = Err why;
}

unfoldable pub takes_response : GuardValue → List ℕ → Turn Taken
takes_response g apdu =
    let m = accepts g.security g.challenge apdu in answers_by g m.security m.calls m.result

-- to the association request: a refusal is handed up as it is, and an accepting response is
-- answered
unfoldable pub takes_opening : GuardValue → List ℕ → Turn Taken
takes_opening g apdu =
    if is_refusal apdu then hands g (idle g) Closed (at_most MOST_CARRIED apdu)
    else takes_response g apdu

unfoldable pub takes_release : GuardValue → List ℕ → Turn Taken
takes_release g apdu =
    let m = releases g.security apdu in
    hands g (under g.dedicated m) Closed (instead release_response m.result)

-- the APDU in a message of the open association
abbrev pub opened_by : GuardValue → List ℕ → Both (List ℕ)
opened_by g apdu = through g.security g.dedicated (λ s. unprotects s apdu)

unfoldable pub takes_message : GuardValue → List ℕ → Turn Taken
takes_message g apdu =
    let m = opened_by g apdu in hands g m Open m.result

-- in the association: a release response, or the APDU in a protected message
unfoldable pub takes_open : GuardValue → List ℕ → Turn Taken
takes_open g apdu = if begins 0x63 apdu then takes_release g apdu else takes_message g apdu

-- the reply to the proof: after the meter's proof, the plain association response is handed up
abbrev pub takes_reply : GuardValue → Granted → List ℕ → Result (Unit {0}) SecuredFault → Turn Taken
takes_reply g granted apdu proved =
    hands g (under g.dedicated (unprotects g.security apdu)) Open
    (instead (plain_aare granted) proved)

pub record TakesReply (g : GuardValue) (granted : Granted) (apdu : List ℕ)
    (result : Result Taken SecuredFault) (new : GuardValue) : Type 0 where
  pub proved : Result (Unit {0}) SecuredFault
  pub confirms : let m = unprotects g.security apdu in
      Confirms m.security g.challenge m.result proved
  pub outcome : result ≡ (takes_reply g granted apdu proved).result
  pub after : new ≡ (takes_reply g granted apdu proved).guard

abbrev pub Is : Turn Taken → Result Taken SecuredFault → GuardValue → Type 0
Is turn result new = (result ≡ turn.result) × (new ≡ turn.guard)

abbrev pub TakesIn : Stage → GuardValue → List ℕ → Result Taken SecuredFault → GuardValue → Type 0
TakesIn Closed g apdu result new = Is (fails g fault.Order) result new
TakesIn Opening g apdu result new = Is (takes_opening g apdu) result new
TakesIn (Proving granted) g apdu result new = TakesReply g granted apdu result new
TakesIn Open g apdu result new = Is (takes_open g apdu) result new
TakesIn (Failed why) g apdu result new = Is (fails g why) result new

-- what becomes of an APDU that arrives
abbrev pub Takes : GuardValue → List ℕ → Result Taken SecuredFault → GuardValue → Type 0
Takes g apdu result new = TakesIn g.stage g apdu result new
