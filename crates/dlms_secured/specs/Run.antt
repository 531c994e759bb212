-- A secured carrier with a guard, call by call: a run of it is a run of its carrier and a run of
-- its security layer.
use Rattle.std.specs.Prelude.{◌≡◌, ℕ, ◌+◌, ◌<◌, ◌≤◌, ◌^◌, ◌⊎◌, Bool, true, if◌then◌else◌}
use Rattle.std.specs.Prelude.{false, List, [], ◌∷◌, ◌++◌, length, filter, map, All, Contains}
use Rattle.std.specs.Prelude.{Option, Some, None, IfSome, Ok}
use Rattle.std.specs.List.{flat_map, filter_map}
use Rattle.std.specs.List.Sorted.{IsStrictlyIncreasing}
use Rattle.dlms_acse.specs.Reading.{aarq_at, inner_at}
use Rattle.dlms_acse.specs.Writing.{release_response}
use Rattle.dlms_carrier.specs.Carrying.{Call as CarrierCall, Runs as CarrierRuns, Meaning}
use Rattle.dlms_carrier.specs.Carrying.{given, given_by, handed_at, handed_up as arrived}
use Rattle.dlms_security.specs.Run.{Event as SecurityCall, Protects, Unprotects, Learns, Answers}
use Rattle.dlms_security.specs.Run.{Stops}
use Rattle.dlms_security.specs.Run.{Reserves as ReservesOf, AreSteps, Exchange, IsState}
use Rattle.dlms_security.specs.Run.{IsProtected}
use Rattle.dlms_security.specs.Run.{outgoing, incoming, used_counters, counter_in}
use Rattle.dlms_security.specs.Body.{Use, signature_of, seal_of, text_of}
use Rattle.dlms_security.specs.Security.{SecurityState, IsAnswerOf, peer_use}
use Rattle.dlms_security.specs.declared.policy.Policy.{Policy}
use Rattle.dlms_security.specs.declared.policy.Policy.TheVariants.{Authenticated, Encrypted}
use Rattle.dlms_security.specs.declared.policy.Policy.TheVariants.{AuthenticatedEncrypted}
use Rattle.dlms_secured.specs.declared.stage.Granted.{Granted}
use Rattle.dlms_secured.specs.declared.stage.Stage.{Stage}
use Rattle.dlms_secured.specs.declared.stage.Stage.TheVariants.{Closed, Opening, Proving, Open}
use Rattle.dlms_secured.specs.declared.stage.Stage.TheVariants.{Failed}
use Rattle.dlms_secured.specs.Guard.{GuardValue, renewed, extended, initiate_in}
use Rattle.dlms_secured.specs.Messages.{secured_aarq, secured_rlrq, reply_to_hls, plain_aare}
use Rattle.dlms_secured.specs.Messages.{begins}
use Rattle.dlms_secured.specs.Response.{Response, response_in, is_refusal, proof_in}
use Rattle.dlms_secured.specs.Steps.{Guarded, at, GuardedSteps, SecuredValue, Steps}
use Rattle.dlms_secured.specs.Steps.{out_of, apdu_of}

-- a call of the carrier's trait, a new challenge and dedicated key, or a higher reservation
pub data Call : Type 0 where
  Carries : CarrierCall → Call
  Renews : (challenge : List ℕ) (key : Option (List ℕ)) → Call
  Reserves : (upto : ℕ) → Call

-- what a call's contract says of the carrier and the guard before it and after it
abbrev pub IsCall : {C : Type 0} → Meaning C → Guarded C → Call → Guarded C → Type 0
IsCall m old (Carries call) new =
    GuardedSteps m.steps m.apdu_of old call.input call.event new × (call.apdu ≡ new.guard.handed)
IsCall m old (Renews challenge key) new = new ≡ at old.carrier (renewed old.guard challenge key)
IsCall m old (Reserves upto) new =
    (upto < 2 ^ 32) × (new ≡ at old.carrier (extended old.guard upto))

-- the calls, one after another
abbrev pub Runs : {C : Type 0} → Meaning C → Guarded C → List Call → Guarded C → Type 0
Runs m old [] new = new ≡ old
Runs {C} m old (call ∷ calls) new = (mid : Guarded C) × IsCall m old call mid × Runs m mid calls new

-- ---- what goes out

abbrev pub given_to : Call → Option (List ℕ)
given_to (Carries call) = given_by call.input
given_to (Renews challenge key) = None
given_to (Reserves upto) = None

-- The message that goes out contains this protected APDU: it is the protected form of the APDU
-- that was given, or of the answer to the meter's challenge; or it is the association request
-- around the guard's challenge and the protected initiate request of the given one, or the release
-- request around a protected APDU.
pub data Covers (g : GuardValue) (call : Call) (x : Exchange) (message : List ℕ) : Type 0 where
  TheGiven : message ≡ x.message → given_to call ≡ Some x.apdu → Covers g call x message
  TheAnswer : (answer : List ℕ) → message ≡ x.message → x.apdu ≡ reply_to_hls answer
      → Covers g call x message
  TheRequest : (apdu : List ℕ) → message ≡ secured_aarq g.security.own g.challenge x.message
      → given_to call ≡ Some apdu → initiate_in g.key g.form (aarq_at apdu) ≡ Some x.apdu
      → Covers g call x message
  TheRelease : message ≡ secured_rlrq x.message → Covers g call x message

-- one message was protected in this call of this guard, and this message contains it
pub record GoesOut (g : GuardValue) (call : Call) (made : List SecurityCall) (message : List ℕ)
    : Type 0 where
  pub exchange : Exchange
  pub alone : outgoing made ≡ exchange ∷ []
  pub covers : Covers g call exchange message

-- ---- what is handed up

abbrev pub handed_by : Call → Option (List ℕ)
handed_by (Carries call) = handed_at call.event call.apdu
handed_by (Renews challenge key) = None
handed_by (Reserves upto) = None

abbrev pub exchange : List ℕ → List ℕ → Exchange
exchange message apdu = record { message = message; apdu = apdu }

-- the APDU of the one message that was accepted in this call
pub record IsOpened (made : List SecurityCall) (apdu : List ℕ) : Type 0 where
  pub message : List ℕ
  pub alone : incoming made ≡ exchange message apdu ∷ []

-- The plain association response, after the meter proved its key: its answer to the own challenge
-- came in the one message that was accepted in this call.
pub record IsProved (g : GuardValue) (granted : Granted) (made : List SecurityCall) (apdu : List ℕ)
    (h : GuardValue) : Type 0 where
  pub reply : List ℕ
  pub opened : IsOpened made reply
  pub answer : List ℕ
  pub proof : proof_in reply ≡ Some answer
  pub right : IsAnswerOf h.security h.security.peer g.challenge answer
  pub response : apdu ≡ plain_aare granted
  pub stage : h.stage ≡ Open

-- By the stage before the call: a refusal of the association, the response after the meter's
-- proof, and in the open association the APDU of an accepted message, or a release response.
abbrev pub HandsUp : Stage → GuardValue → List SecurityCall → List ℕ → GuardValue → Type 0
HandsUp Closed g made apdu h = ⊥
HandsUp Opening g made apdu h = (is_refusal apdu ≡ true) × (h.stage ≡ Closed)
HandsUp (Proving granted) g made apdu h = IsProved g granted made apdu h
HandsUp Open g made apdu h =
    IsOpened made apdu ⊎ ((apdu ≡ release_response) × (h.stage ≡ Closed))
HandsUp (Failed why) g made apdu h = ⊥

-- ---- the meter's title

-- an association response of a meter with this title, to a client with this title and challenge
pub record IsResponseOf (client own title apdu : List ℕ) : Type 0 where
  pub fields : List ℕ
  pub response : Response
  pub in_it : inner_at 0x61 apdu ≡ Some fields
  pub reads : response_in client own fields ≡ Ok response
  pub named : response.title ≡ title

-- The meter's title: the one that was known before, or the title of an association response that
-- arrived, to one of the own challenges.
pub data Learned (client : List ℕ) (known : Option (List ℕ)) (own came : List (List ℕ))
    (peer : Option (List ℕ)) : Type 0 where
  AsBefore : peer ≡ known → Learned client known own came peer
  ByResponse : (title challenge apdu : List ℕ) → known ≡ None → peer ≡ Some title
      → Contains own challenge → Contains came apdu → IsResponseOf client challenge title apdu
      → Learned client known own came peer

-- ---- the layer of the dedicated key

-- its calls lead from one state of it to the other
abbrev pub IsLayer : Option SecurityState → List SecurityCall → Option SecurityState → Type 0
IsLayer None calls None = calls ≡ []
IsLayer None calls (Some e) = ⊥
IsLayer (Some d) calls None = ⊥
IsLayer (Some d) calls (Some e) = AreSteps d calls e

-- Before the association is open it protects no message and accepts none: both passes of mechanism
-- 5 go under the global key.
abbrev pub AreQuiet : List SecurityCall → Type 0
AreQuiet calls = (outgoing calls ≡ []) × (incoming calls ≡ [])

abbrev pub IsQuiet : Stage → List SecurityCall → Type 0
IsQuiet Closed calls = AreQuiet calls
IsQuiet Opening calls = AreQuiet calls
IsQuiet (Proving granted) calls = AreQuiet calls
IsQuiet Open calls = Unit {0}
IsQuiet (Failed why) calls = AreQuiet calls

-- it knows no other title of the meter than the layer of the global key
abbrev pub IsTitled : Option SecurityState → Option (List ℕ) → Type 0
IsTitled None peer = Unit {0}
IsTitled (Some d) peer = (title : List ℕ) → d.peer ≡ Some title → peer ≡ Some title

-- a layer of this guard: that of the global key, or that of the dedicated one
abbrev pub IsLayerOf : GuardValue → SecurityState → Type 0
IsLayerOf g s = (s ≡ g.security) ⊎ (g.dedicated ≡ Some s)

-- ---- the use of a challenge

-- association requests among messages
abbrev pub requests : List (List ℕ) → ℕ
requests messages = length (filter (begins 0x60) messages)

-- the challenge may still be used
abbrev pub unused : GuardValue → ℕ
unused g = if g.unused then 1 else 0

-- the meter's answer to the challenge is still awaited
abbrev pub awaited : Stage → ℕ
awaited Closed = 0
awaited Opening = 1
awaited (Proving granted) = 1
awaited Open = 0
awaited (Failed why) = 0

-- an APDU that is handed up in this stage is the plain response, after the meter's answer
abbrev pub ends_proof : Stage → ℕ
ends_proof Closed = 0
ends_proof Opening = 0
ends_proof (Proving granted) = 1
ends_proof Open = 0
ends_proof (Failed why) = 0

abbrev pub answered_in : Stage → Option (List ℕ) → ℕ
answered_in stage None = 0
answered_in stage (Some apdu) = ends_proof stage

-- the call sets a challenge
abbrev pub set_by : Call → ℕ
set_by (Carries call) = 0
set_by (Renews challenge key) = 1
set_by (Reserves upto) = 0

-- ---- both runs

-- the own challenge changes only by `renew`
abbrev pub challenge_after : Call → List ℕ → List ℕ
challenge_after (Carries call) own = own
challenge_after (Renews challenge key) own = challenge
challenge_after (Reserves upto) own = own

-- the own challenges of a run
abbrev pub challenges : List ℕ → List Call → List (List ℕ)
challenges own [] = own ∷ []
challenges own (call ∷ calls) = own ∷ challenges (challenge_after call own) calls

-- the security layer is not rebuilt from what was stored
abbrev pub IsNoStop : SecurityCall → Type 0
IsNoStop (Protects form apdu result) = Unit {0}
IsNoStop (Unprotects message result) = Unit {0}
IsNoStop (ReservesOf upto) = Unit {0}
IsNoStop (Learns title) = Unit {0}
IsNoStop (Answers challenge result) = Unit {0}
IsNoStop (Stops stored) = ⊥

-- the stage before a call, and the calls that it makes: of the carrier, of the layer of the global
-- key, and of the layer of the dedicated one
pub record Share : Type 0 where
  pub stage : Stage
  pub carried : List CarrierCall
  pub made : List SecurityCall
  pub session : List SecurityCall

-- the calls of both layers
abbrev pub calls_of : Share → List SecurityCall
calls_of share = share.made ++ share.session

pub record IsShare {C : Type 0} (m : Meaning C) (old : Guarded C) (call : Call) (share : Share)
    (new : Guarded C) : Type 0 where
  pub is_call : IsCall m old call new
  pub before : share.stage ≡ old.guard.stage
  pub carrier : CarrierRuns m.steps m.out_of m.apdu_of old.carrier share.carried new.carrier
  pub security : AreSteps old.guard.security share.made new.guard.security
  pub unstopped : All IsNoStop share.made
  pub layer : set_by call ≡ 0 → IsLayer old.guard.dedicated share.session new.guard.dedicated
  pub session : All IsNoStop share.session
  pub quiet : IsQuiet share.stage share.session
  pub titled : IsTitled old.guard.dedicated old.guard.security.peer
      → IsTitled new.guard.dedicated new.guard.security.peer
  pub challenge : new.guard.challenge ≡ challenge_after call old.guard.challenge
  pub title : Learned old.guard.security.own old.guard.security.peer (old.guard.challenge ∷ [])
      (arrived share.carried) new.guard.security.peer
  pub down : All (GoesOut old.guard call (calls_of share)) (given share.carried)
  pub up : IfSome (handed_by call)
      (λ apdu. HandsUp old.guard.stage old.guard (calls_of share) apdu new.guard)
  pub asked : requests (given share.carried) + unused new.guard ≤ unused old.guard + set_by call
  pub answered : answered_in share.stage (handed_by call) + awaited new.guard.stage
      ≤ awaited old.guard.stage + requests (given share.carried)

-- the share of each call
abbrev pub AreShares : {C : Type 0} → Meaning C → Guarded C → List Call → List Share → Guarded C
    → Type 0
AreShares m old [] [] new = new ≡ old
AreShares m old [] (share ∷ shares) new = ⊥
AreShares m old (call ∷ calls) [] new = ⊥
AreShares {C} m old (call ∷ calls) (share ∷ shares) new = (mid : Guarded C)
    × IsShare m old call share mid × AreShares m mid calls shares new

abbrev pub carried_in : List Share → List CarrierCall
carried_in shares = flat_map (λ share. share.carried) shares

abbrev pub made_in : List Share → List SecurityCall
made_in shares = flat_map (λ share. share.made) shares

abbrev pub session_in : List Share → List SecurityCall
session_in shares = flat_map (λ share. share.session) shares

-- how many challenges are set
abbrev pub renewals : List Call → ℕ
renewals [] = 0
renewals (call ∷ calls) = set_by call + renewals calls

-- Beside a run: the runs of its carrier and of the layer of the global key, which its calls make up;
-- and if no challenge is set in it, that of the layer of the dedicated key.
pub record Beside {C : Type 0} (m : Meaning C) (old : Guarded C) (calls : List Call)
    (new : Guarded C) : Type 0 where
  pub shares : List Share
  pub each : AreShares m old calls shares new
  pub carrier : CarrierRuns m.steps m.out_of m.apdu_of old.carrier (carried_in shares) new.carrier
  pub security : AreSteps old.guard.security (made_in shares) new.guard.security
  pub unstopped : All IsNoStop (made_in shares)
  pub layer : renewals calls ≡ 0
      → IsLayer old.guard.dedicated (session_in shares) new.guard.dedicated
  pub session : All IsNoStop (session_in shares)
  pub titled : IsTitled old.guard.dedicated old.guard.security.peer
      → IsTitled new.guard.dedicated new.guard.security.peer

-- ---- the laws, over a carrier with this meaning

abbrev pub RunsLead : {C : Type 0} → Meaning C → Type 0
RunsLead {C} m = (old new : Guarded C) (calls : List Call) → Runs m old calls new
    → Beside m old calls new

-- No counter of the global key is used twice, and none is accepted twice: over all calls they rise.
pub record CountersRise {C : Type 0} (m : Meaning C) (old : Guarded C) (calls : List Call)
    (new : Guarded C) : Type 0 where
  pub beside : Beside m old calls new
  pub used : IsStrictlyIncreasing (used_counters (made_in beside.shares))
  pub accepted : IsStrictlyIncreasing (map counter_in (incoming (made_in beside.shares)))

abbrev pub NeverTwice : {C : Type 0} → Meaning C → Type 0
NeverTwice {C} m = (old new : Guarded C) (calls : List Call) → IsState old.guard.security
    → Runs m old calls new → CountersRise m old calls new

-- The other laws speak of the part of a run in which no challenge is set: of one association. A run
-- is made of such parts, and each of them is a run.

-- the same counters of a dedicated key
pub record SessionRises (shares : List Share) : Type 0 where
  pub used : IsStrictlyIncreasing (used_counters (session_in shares))
  pub accepted : IsStrictlyIncreasing (map counter_in (incoming (session_in shares)))

-- both layers are states of a `Security`
pub record AreStates (g : GuardValue) : Type 0 where
  pub global : IsState g.security
  pub dedicated : (d : SecurityState) → g.dedicated ≡ Some d → IsState d

-- The message contains an APDU that is protected by a layer of this guard, under its policy. With
-- authentication alone its octets can be read.
pub record IsSecret (g : GuardValue) (message : List ℕ) : Type 0 where
  pub guard : GuardValue
  pub call : Call
  pub exchange : Exchange
  pub layer : SecurityState
  pub among : IsLayerOf g layer
  pub is : IsProtected layer layer.own (counter_in exchange) exchange
  pub covers : Covers guard call exchange message

-- Each message that goes out contains a protected APDU, and no counter of the dedicated key is used
-- or accepted twice.
pub record IsNeverInClear {C : Type 0} (m : Meaning C) (old : Guarded C) (calls : List Call)
    (new : Guarded C) : Type 0 where
  pub beside : Beside m old calls new
  pub secret : All (IsSecret old.guard) (given (carried_in beside.shares))
  pub session : SessionRises beside.shares

abbrev pub NeverInClear : {C : Type 0} → Meaning C → Type 0
NeverInClear {C} m = (old new : Guarded C) (calls : List Call) → AreStates old.guard
    → renewals calls ≡ 0 → Runs m old calls new → IsNeverInClear m old calls new

-- What a message with this title shows of its APDU.
abbrev pub Shows : Type 1
Shows = List ℕ → Exchange → Type 0

-- It is the protected form of the APDU. Under encryption alone anyone can make it, of some APDU.
abbrev pub Opens : SecurityState → Shows
Opens s title x = IsProtected s title (counter_in x) x

-- the tag of an APDU's message, which nobody makes without the keys; encryption alone has none
abbrev pub IsTagOf : Policy → Use → List ℕ → List ℕ → Type 0
IsTagOf Authenticated u apdu tag = tag ≡ signature_of u apdu
IsTagOf Encrypted u apdu tag = ⊥
IsTagOf AuthenticatedEncrypted u apdu tag = tag ≡ seal_of u (text_of u apdu)

-- It is the protected form of the APDU, and ends with its tag under this title.
pub record IsTagged (s : SecurityState) (title : List ℕ) (x : Exchange) : Type 0 where
  pub opens : Opens s title x
  pub text : List ℕ
  pub tag : List ℕ
  pub ends : opens.body ≡ text ++ tag
  pub right : IsTagOf s.policy (peer_use s title (counter_in x)) x.apdu tag

abbrev pub has_tag : Policy → Bool
has_tag Authenticated = true
has_tag Encrypted = false
has_tag AuthenticatedEncrypted = true

-- the message shows its APDU, under the peer's title
abbrev pub IsFrom : Shows → Option (List ℕ) → Exchange → Type 0
IsFrom shows None x = ⊥
IsFrom shows (Some title) x = shows title x

-- The APDU came in a message that shows it under the peer's title; or it is the plain association
-- response, after the peer's answer to one of these own challenges came so; or it carries no data:
-- a refusal of the association, or the release response.
pub data IsFounded (shows : Shows) (s : SecurityState) (own : List (List ℕ))
    (peer : Option (List ℕ)) (apdu : List ℕ) : Type 0 where
  CameProtected : (message : List ℕ) → IsFrom shows peer (exchange message apdu)
      → IsFounded shows s own peer apdu
  AfterProof : (message reply answer challenge : List ℕ) (granted : Granted)
      → IsFrom shows peer (exchange message reply) → proof_in reply ≡ Some answer
      → Contains own challenge → IsAnswerOf s peer challenge answer
      → apdu ≡ plain_aare granted → IsFounded shows s own peer apdu
  AsRefusal : is_refusal apdu ≡ true → IsFounded shows s own peer apdu
  AsRelease : apdu ≡ release_response → IsFounded shows s own peer apdu

-- the APDUs that are handed up
abbrev pub handed_up : List Call → List (List ℕ)
handed_up calls = filter_map handed_by calls

-- a layer of this guard shows it
abbrev pub Layers : (SecurityState → Shows) → GuardValue → Shows
Layers shows g title x = (s : SecurityState) × IsLayerOf g s × shows s title x

-- A run has one meter, whose title was known before it or is that of an association response in
-- it. Each APDU that is handed up is founded under this title.
pub record AreFounded {C : Type 0} (m : Meaning C) (shows : Shows) (old : Guarded C)
    (calls : List Call) (new : Guarded C) : Type 0 where
  pub beside : Beside m old calls new
  pub title : Learned old.guard.security.own old.guard.security.peer
      (challenges old.guard.challenge calls) (arrived (carried_in beside.shares))
      new.guard.security.peer
  pub founded : let own = challenges old.guard.challenge calls in
      All (IsFounded shows old.guard.security own new.guard.security.peer) (handed_up calls)

-- Under every policy each APDU that is handed up is what a message or a proof contained.
abbrev pub Opened : {C : Type 0} → Meaning C → Type 0
Opened {C} m = (old new : Guarded C) (calls : List Call)
    → IsTitled old.guard.dedicated old.guard.security.peer → renewals calls ≡ 0
    → Runs m old calls new → AreFounded m (Layers Opens old.guard) old calls new

-- the messages of both layers have tags
abbrev pub HaveTags : GuardValue → Type 0
HaveTags g = (s : SecurityState) → IsLayerOf g s → has_tag s.policy ≡ true

-- Under a policy with tags it has the tag of the meter's keys. Of encryption alone this is not said.
abbrev pub Authentic : {C : Type 0} → Meaning C → Type 0
Authentic {C} m = (old new : Guarded C) (calls : List Call) → HaveTags old.guard
    → IsTitled old.guard.dedicated old.guard.security.peer → renewals calls ≡ 0
    → Runs m old calls new → AreFounded m (Layers IsTagged old.guard) old calls new

-- ---- each challenge is used once

-- how many answers of the meter to an own challenge are accepted
abbrev pub answers : List Call → List Share → ℕ
answers (call ∷ calls) (share ∷ shares) =
    answered_in share.stage (handed_by call) + answers calls shares
answers _ _ = 0

-- No more association requests go out than challenges were set, and no more answers to a challenge
-- are accepted than requests went out. A part of a run is a run: so from one `renew` to the next at
-- most one request goes out, and at most one answer to it is accepted.
pub record IsUsedOnce {C : Type 0} (m : Meaning C) (old : Guarded C) (calls : List Call)
    (new : Guarded C) : Type 0 where
  pub beside : Beside m old calls new
  pub asked : requests (given (carried_in beside.shares)) + unused new.guard
      ≤ unused old.guard + renewals calls
  pub answered : answers calls beside.shares + awaited new.guard.stage
      ≤ awaited old.guard.stage + requests (given (carried_in beside.shares))

abbrev pub ChallengesAreUsedOnce : {C : Type 0} → Meaning C → Type 0
ChallengesAreUsedOnce {C} m = (old new : Guarded C) (calls : List Call) → Runs m old calls new
    → IsUsedOnce m old calls new

-- ---- the carrier's runs

-- A run of the carrier's trait with a guard is such a run.
abbrev pub GuardedRuns : {C : Type 0} → Meaning C → Type 0
GuardedRuns {C} m = (old new : SecuredValue C) (g : GuardValue) (calls : List CarrierCall)
    → old.guard ≡ Some g
    → CarrierRuns (Steps m.steps m.apdu_of) (out_of m.out_of) (apdu_of m.apdu_of) old calls new
    → (h : GuardValue) × (new.guard ≡ Some h)
    × Runs m (at old.carrier g) (map Carries calls) (at new.carrier h)

-- Without a guard each run is the carrier's own: the same calls, events, octets and APDUs.
abbrev pub PassedOn : {C : Type 0} → Meaning C → Type 0
PassedOn {C} m = (old new : SecuredValue C) (calls : List CarrierCall) → old.guard ≡ None
    → CarrierRuns (Steps m.steps m.apdu_of) (out_of m.out_of) (apdu_of m.apdu_of) old calls new
    → CarrierRuns m.steps m.out_of m.apdu_of old.carrier calls new.carrier × (new.guard ≡ None)

-- And each run of the carrier is one.
abbrev pub PassesOn : {C : Type 0} → Meaning C → Type 0
PassesOn {C} m = (old new : C) (calls : List CarrierCall)
    → CarrierRuns m.steps m.out_of m.apdu_of old calls new
    → CarrierRuns (Steps m.steps m.apdu_of) (out_of m.out_of) (apdu_of m.apdu_of)
    (record { carrier = old; guard = None }) calls (record { carrier = new; guard = None })
