-- The protection of one association: its state, and what each call returns and leaves.
use Rattle.std.specs.Prelude.{ℕ, ◌+◌, ◌-◌, ◌^◌, ◌==◌, nat_lt, if◌then◌else◌, Bool, true, List, length, Option, Some, None, Result, Ok, Err}
use Rattle.std.specs.Str.{bytes_eq}
use Rattle.dlms_cipher.specs.Dlms.{answer_of, IsAnswer}
use Rattle.dlms_security.specs.declared.form.TheConstants.{MOST_APDU}
use Rattle.dlms_security.specs.declared.kind.KeyKind.{KeyKind}
use Rattle.dlms_security.specs.declared.form.Form.{Form}
use Rattle.dlms_security.specs.declared.form.Head.{Head}
use Rattle.dlms_security.specs.declared.policy.Policy.{Policy}
use Rattle.dlms_security.specs.declared.stored.StoredState.{StoredState}
use Rattle.dlms_security.specs.declared.fault.ProtectFault.{ProtectFault}
use Rattle.dlms_security.specs.declared.fault.ProtectFault.TheVariants as protect_fault
use Rattle.dlms_security.specs.declared.fault.UnprotectFault.{UnprotectFault}
use Rattle.dlms_security.specs.declared.fault.UnprotectFault.TheVariants.{UnknownTitle, AnotherTitle, AnotherControl, OldCounter, AnotherService}
use Rattle.dlms_security.specs.Form.{front_of, content, message_of, is_of, parts}
use Rattle.dlms_security.specs.Body.{Use, control_of, body_of, open_body}

-- The kind of the encryption key; both system titles, both keys and the policy; the next own counter; the end of the reservation,
-- which is the first counter that is not reserved; the last accepted counter of the peer.
pub record SecurityState : Type 0 where
  pub kind : KeyKind
  pub own : List ℕ
  pub peer : Option (List ℕ)
  pub encryption : List ℕ
  pub authentication : List ℕ
  pub policy : Policy
  pub next : ℕ
  pub reserved : ℕ
  pub accepted : Option ℕ

-- the state after a stop, from what was stored: every counter below the stored reservation may have been used
abbrev pub after_stop : SecurityState → StoredState → SecurityState
after_stop s stored = record s {
  peer = stored.peer;
  next = stored.reserved;
  reserved = stored.reserved;
  accepted = stored.accepted;
}

-- ---- counters

-- The counter of the next message or answer, or why there is none. The counter 2^32 - 1 is never used.
abbrev pub counter_for : SecurityState → Result ℕ ProtectFault
counter_for s =
    if s.next == 2 ^ 32 - 1 then Err protect_fault.Exhausted
    else if nat_lt s.next s.reserved then Ok s.next
    else Err protect_fault.Reserve

-- the octets that go out, if there is a counter
abbrev pub with_counter : Result ℕ ProtectFault → List ℕ → Result (List ℕ) ProtectFault
with_counter (Ok counter) out = Ok out
with_counter (Err fault) out = Err fault

-- ---- messages and answers that go out

-- the use of the keys for the next message
abbrev pub own_use : SecurityState → Use
own_use s = record {
  encryption = s.encryption;
  authentication = s.authentication;
  title = s.own;
  counter = s.next;
}

-- security header and protected body of an APDU
abbrev pub content_for : SecurityState → List ℕ → List ℕ
content_for s apdu = content (control_of s.policy) s.next (body_of s.policy (own_use s) apdu)

-- the message with this front; without a front the service has no ciphered form
abbrev pub message_with : SecurityState → Option (List ℕ) → List ℕ → Result (List ℕ) ProtectFault
message_with s None apdu = Err protect_fault.Service
message_with s (Some front) apdu =
    with_counter (counter_for s) (message_of front (content_for s apdu))

-- the message of an APDU in a form, or why there is none
abbrev pub message_for : SecurityState → Form → List ℕ → Result (List ℕ) ProtectFault
message_for s form apdu =
    if nat_lt MOST_APDU (length apdu) then Err protect_fault.Long
    else message_with s (front_of s.kind form s.own apdu) apdu

-- the answer to a challenge under authentication mechanism 5 (Green Book 9.2.7.4); it uses the same counters as messages
abbrev pub answer_for : SecurityState → List ℕ → Result (List ℕ) ProtectFault
answer_for s challenge =
    with_counter (counter_for s) (answer_of s.encryption s.authentication s.own s.next challenge)

-- a message or answer that goes out uses a counter up
abbrev pub after_protect : SecurityState → Result (List ℕ) ProtectFault → SecurityState
after_protect s (Ok message) = record s { next = s.next + 1 }
after_protect s (Err fault) = s

-- counters below `upto` are reserved; a reservation never shrinks
abbrev pub after_reserved : SecurityState → ℕ → SecurityState
after_reserved s upto = if nat_lt s.reserved upto then record s { reserved = upto } else s

-- ---- messages that come in

-- an accepted APDU, with the counter of its message
pub record AcceptedApdu : Type 0 where
  pub counter : ℕ
  pub apdu : List ℕ

-- the use of the keys for a message of this title with this counter
abbrev pub peer_use : SecurityState → List ℕ → ℕ → Use
peer_use s title counter = record {
  encryption = s.encryption;
  authentication = s.authentication;
  title = title;
  counter = counter;
}

-- the title in a message is the peer's, or there is none
abbrev pub is_from : Option (List ℕ) → List ℕ → Bool
is_from None title = true
is_from (Some named) title = bytes_eq named title

-- the counter is above the last accepted one
abbrev pub is_above : Option ℕ → ℕ → Bool
is_above None counter = true
is_above (Some last) counter = nat_lt last counter

-- the APDU is accepted if the tag of the message is that of its service under this kind of key
abbrev pub of_service : KeyKind → Head → Result (List ℕ) UnprotectFault
    → Result AcceptedApdu UnprotectFault
of_service kind head (Err fault) = Err fault
of_service kind head (Ok apdu) =
    if is_of kind head.tag apdu then Ok (record { counter = head.counter; apdu = apdu }) else Err AnotherService

-- the checks of a message of the peer with this title, in their order
abbrev pub check_from : SecurityState → List ℕ → Head → List ℕ → Result AcceptedApdu UnprotectFault
check_from s title head body =
    if is_from head.title title then
    (if head.control == control_of s.policy then
    (if is_above s.accepted head.counter
    then of_service s.kind head (open_body s.policy (peer_use s title head.counter) body)
    else Err OldCounter)
    else Err AnotherControl)
    else Err AnotherTitle

-- the same, if the peer's title is known
abbrev pub check_with : SecurityState → Option (List ℕ) → Head → List ℕ
    → Result AcceptedApdu UnprotectFault
check_with s None head body = Err UnknownTitle
check_with s (Some title) head body = check_from s title head body

-- the same, of a header and a body
abbrev pub check : SecurityState → Head → List ℕ → Result AcceptedApdu UnprotectFault
check s head body = check_with s s.peer head body

-- the same, of the parts of a message
abbrev pub check_parts : SecurityState → Result (Head × List ℕ) UnprotectFault
    → Result AcceptedApdu UnprotectFault
check_parts s (Err fault) = Err fault
check_parts s (Ok found) = check s found.0 found.1

-- the APDU and the counter that a message is accepted as, or why it is refused
abbrev pub acceptance : SecurityState → List ℕ → Result AcceptedApdu UnprotectFault
acceptance s message = check_parts s (parts message)

-- an accepted counter is the last accepted one from then on
abbrev pub after_unprotect : SecurityState → Result AcceptedApdu UnprotectFault → SecurityState
after_unprotect s (Ok a) = record s { accepted = Some a.counter }
after_unprotect s (Err fault) = s

-- the APDU that is returned
abbrev pub apdu_in : Result AcceptedApdu UnprotectFault → Result (List ℕ) UnprotectFault
apdu_in (Ok a) = Ok a.apdu
apdu_in (Err fault) = Err fault

-- ---- the peer's title

-- A known title stays, and the own title is ignored.
abbrev pub after_learn : SecurityState → Option (List ℕ) → List ℕ → SecurityState
after_learn s None title = if bytes_eq title s.own then s else record s { peer = Some title }
after_learn s (Some known) title = s

-- ---- the peer's answer to a challenge

-- these octets are the answer of the peer with this title, under some counter
abbrev pub IsAnswerOf : SecurityState → Option (List ℕ) → List ℕ → List ℕ → Type 0
IsAnswerOf s None challenge answer = ⊥
IsAnswerOf s (Some title) challenge answer =
    IsAnswer s.encryption s.authentication title challenge answer
