-- Lists of calls on one association, with stops among them, and the laws over all such lists.
use Rattle.std.specs.Prelude.{◌≡◌, ◌↔◌, ℕ, ◌<◌, ◌≤◌, ◌^◌, true, List, [], ◌∷◌, length, map, All, Option, Some, None, Result, Ok, Err}
use Rattle.std.specs.Int.{w32, from_be_bytes}
use Rattle.std.specs.List.Sorted.{IsStrictlyIncreasing}
use Rattle.dlms_security.specs.declared.form.TheConstants.{MOST_APDU}
use Rattle.dlms_security.specs.declared.form.Form.{Form}
use Rattle.dlms_security.specs.declared.form.Head.{Head}
use Rattle.dlms_security.specs.declared.fault.ProtectFault.{ProtectFault}
use Rattle.dlms_security.specs.declared.stored.StoredState.{StoredState}
use Rattle.dlms_security.specs.declared.fault.UnprotectFault.{UnprotectFault}
use Rattle.dlms_security.specs.Form.{parts, is_of}
use Rattle.dlms_security.specs.Body.{control_of, body_of}
use Rattle.dlms_security.specs.Security.{SecurityState, after_stop, message_for, answer_for, after_protect, after_reserved, is_from, is_above, peer_use, acceptance, apdu_in, after_unprotect, after_learn, AcceptedApdu}

-- every state of a `Security`: the own title has eight bytes, and the next counter is not above the reservation
pub record IsState (s : SecurityState) : Type 0 where
  pub title : length s.own ≡ 8
  pub below : s.next ≤ s.reserved
  pub fits : s.reserved < 2 ^ 32

-- ---- calls

-- A call, with its result; or a stop, after which the state is rebuilt from the stored one.
pub data Event : Type 0 where
  Protects : Form → List ℕ → Result (List ℕ) ProtectFault → Event
  Unprotects : List ℕ → Result (List ℕ) UnprotectFault → Event
  Reserves : ℕ → Event
  Learns : List ℕ → Event
  Answers : List ℕ → Result (List ℕ) ProtectFault → Event
  Stops : StoredState → Event

-- One event, from the state before it to the state after it. A reservation is stored before `extend_reservation` is called, so
-- after a stop the stored one is not below the state's.
abbrev pub IsStep : SecurityState → Event → SecurityState → Type 0
IsStep s (Protects form apdu result) t = (message_for s form apdu ≡ result)
    × (t ≡ after_protect s (message_for s form apdu))
IsStep s (Unprotects message result) t = (apdu_in (acceptance s message) ≡ result)
    × (t ≡ after_unprotect s (acceptance s message))
IsStep s (Reserves upto) t = (upto < 2 ^ 32) × (t ≡ after_reserved s upto)
IsStep s (Learns title) t = t ≡ after_learn s s.peer title
IsStep s (Answers challenge result) t = (answer_for s challenge ≡ result)
    × (t ≡ after_protect s (answer_for s challenge))
IsStep s (Stops stored) t = (s.reserved ≤ stored.reserved) × (stored.reserved < 2 ^ 32)
    × (t ≡ after_stop s stored)

-- events one after another
abbrev pub AreSteps : SecurityState → List Event → SecurityState → Type 0
AreSteps s [] t = t ≡ s
AreSteps s (e ∷ es) t = (next : SecurityState) × IsStep s e next × AreSteps next es t

-- the stored counter is not below the last accepted one
abbrev pub IsRestored : Option ℕ → Option ℕ → Type 0
IsRestored None stored = Unit {0}
IsRestored (Some last) None = ⊥
IsRestored (Some last) (Some stored) = last ≤ stored

-- if the event is a stop, the last accepted counter is read back after it
abbrev pub RestoresCounter : SecurityState → Event → Type 0
RestoresCounter s (Stops stored) = IsRestored s.accepted stored.accepted
RestoresCounter s _ = Unit {0}

-- events one after another, after whose stops the last accepted counter is read back
abbrev pub AreRestoring : SecurityState → List Event → SecurityState → Type 0
AreRestoring s [] t = t ≡ s
AreRestoring s (e ∷ es) t = (next : SecurityState) × IsStep s e next × RestoresCounter s e
    × AreRestoring next es t

-- if the event is a stop, the peer's title is read back after it
abbrev pub RestoresTitle : List ℕ → Event → Type 0
RestoresTitle title (Stops stored) = stored.peer ≡ Some title
RestoresTitle title _ = Unit {0}

-- ---- messages that went out, and that were accepted

-- a message and its APDU
pub record Exchange : Type 0 where
  pub message : List ℕ
  pub apdu : List ℕ

-- the message of a call, in front of the others
abbrev pub outgoing_with : List ℕ → Result (List ℕ) ProtectFault → List Exchange → List Exchange
outgoing_with apdu (Ok message) rest = record { message = message; apdu = apdu } ∷ rest
outgoing_with apdu (Err fault) rest = rest

-- the messages that went out, with their APDUs
abbrev pub outgoing : List Event → List Exchange
outgoing [] = []
outgoing (Protects form apdu result ∷ es) = outgoing_with apdu result (outgoing es)
outgoing (Unprotects message result ∷ es) = outgoing es
outgoing (Reserves upto ∷ es) = outgoing es
outgoing (Learns title ∷ es) = outgoing es
outgoing (Answers challenge result ∷ es) = outgoing es
outgoing (Stops stored ∷ es) = outgoing es

abbrev pub incoming_with : List ℕ → Result (List ℕ) UnprotectFault → List Exchange → List Exchange
incoming_with message (Ok apdu) rest = record { message = message; apdu = apdu } ∷ rest
incoming_with message (Err fault) rest = rest

-- the accepted messages, with their APDUs
abbrev pub incoming : List Event → List Exchange
incoming [] = []
incoming (Protects form apdu result ∷ es) = incoming es
incoming (Unprotects message result ∷ es) = incoming_with message result (incoming es)
incoming (Reserves upto ∷ es) = incoming es
incoming (Learns title ∷ es) = incoming es
incoming (Answers challenge result ∷ es) = incoming es
incoming (Stops stored ∷ es) = incoming es

-- the invocation counter in a message
abbrev pub counter_of : Result (Head × List ℕ) UnprotectFault → ℕ
counter_of (Ok found) = found.0.counter
counter_of (Err fault) = 0

abbrev pub message_counter : List ℕ → ℕ
message_counter message = counter_of (parts message)

abbrev pub counter_in : Exchange → ℕ
counter_in x = message_counter x.message

-- the invocation counter in an answer to a challenge
abbrev pub answer_counter : List ℕ → ℕ
answer_counter (control ∷ a ∷ b ∷ c ∷ d ∷ tag) = from_be_bytes w32 (a ∷ b ∷ c ∷ d ∷ [])
answer_counter _ = 0

-- the counters of the messages and answers that went out
abbrev pub used_with : (List ℕ → ℕ) → Result (List ℕ) ProtectFault → List ℕ → List ℕ
used_with counter (Ok out) rest = counter out ∷ rest
used_with counter (Err fault) rest = rest

abbrev pub used_counters : List Event → List ℕ
used_counters [] = []
used_counters (Protects form apdu result ∷ es) = used_with message_counter result (used_counters es)
used_counters (Unprotects message result ∷ es) = used_counters es
used_counters (Reserves upto ∷ es) = used_counters es
used_counters (Learns title ∷ es) = used_counters es
used_counters (Answers challenge result ∷ es) = used_with answer_counter result (used_counters es)
used_counters (Stops stored ∷ es) = used_counters es

-- ---- protected messages

-- The message is the protected form of the APDU under the state's policy and keys, this system title and this counter.
pub record IsProtected (s : SecurityState) (title : List ℕ) (counter : ℕ) (x : Exchange) : Type 0 where
  pub head : Head
  pub body : List ℕ
  pub read : parts x.message ≡ Ok (head, body)
  pub control : head.control ≡ control_of s.policy
  pub counted : head.counter ≡ counter
  pub named : is_from head.title title ≡ true
  pub service : is_of s.kind head.tag x.apdu ≡ true
  pub exact : body ≡ body_of s.policy (peer_use s title counter) x.apdu

-- The message is the protected form of the APDU under the peer's title, with a counter above the last accepted one.
pub record IsAcceptable (s : SecurityState) (message : List ℕ) (a : AcceptedApdu) : Type 0 where
  pub title : List ℕ
  pub peer : s.peer ≡ Some title
  pub above : is_above s.accepted a.counter ≡ true
  pub is : IsProtected s title a.counter (record { message = message; apdu = a.apdu })
  pub short : length a.apdu ≤ MOST_APDU

-- ---- the laws

-- A message is accepted exactly if it is acceptable, and as that APDU with that counter.
abbrev pub AcceptedExactly : Type 0
AcceptedExactly = (s : SecurityState) (message : List ℕ) (a : AcceptedApdu)
    → (acceptance s message ≡ Ok a) ↔ IsAcceptable s message a

-- No counter is used twice: over all calls and stops the counters of messages and answers that go out rise.
abbrev pub NeverTwice : Type 0
NeverTwice = (s t : SecurityState) (events : List Event) → IsState s → AreSteps s events t
    → IsStrictlyIncreasing (used_counters events)

-- No message goes out in the clear: each is the protected form of the APDU that the caller passed.
abbrev pub NeverInTheClear : Type 0
NeverInTheClear =
    (s t : SecurityState) (events : List Event) → IsState s → AreSteps s events t
    → All (λ x. IsProtected s s.own (counter_in x) x) (outgoing events)

-- No message is accepted twice: over all calls, and stops after which the last accepted counter is read back, the counters of
-- accepted messages rise.
abbrev pub Fresh : Type 0
Fresh = (s t : SecurityState) (events : List Event) → AreRestoring s events t
    → IsStrictlyIncreasing (map counter_in (incoming events))

-- Every APDU that is returned came in its protected form under the peer's title.
abbrev pub Authentic : Type 0
Authentic =
    (s t : SecurityState) (title : List ℕ) (events : List Event) → s.peer ≡ Some title
    → All (RestoresTitle title) events → AreSteps s events t
    → All (λ x. IsProtected s title (counter_in x) x) (incoming events)

-- two ends of an association: equal keys and policy, and the receiver knows the sender's title
pub record ArePeers (s r : SecurityState) : Type 0 where
  pub kind : r.kind ≡ s.kind
  pub encryption : r.encryption ≡ s.encryption
  pub authentication : r.authentication ≡ s.authentication
  pub policy : r.policy ≡ s.policy
  pub title : r.peer ≡ Some s.own

-- The peer accepts a message that goes out as the APDU that the caller passed, if its counter is above the last accepted one.
abbrev pub RoundTrip : Type 0
RoundTrip =
    (s r : SecurityState) (form : Form) (apdu message : List ℕ) → IsState s → ArePeers s r
    → is_above r.accepted s.next ≡ true
    → message_for s form apdu ≡ Ok message
    → acceptance r message ≡ Ok (record { counter = s.next; apdu = apdu })
