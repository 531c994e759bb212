-- A ciphered APDU of a log, opened under keys that the reader has. No counter is compared.
use Rattle.std.specs.Prelude.{◌≡◌, ◌↔◌, ◌≤◌, ℕ, ◌==◌, if◌then◌else◌, List, [], length, Option, Some, None, Result, Ok, Err}
use Rattle.dlms_security.specs.declared.form.TheConstants.{MOST_APDU}
use Rattle.dlms_security.specs.declared.form.Head.{Head}
use Rattle.dlms_security.specs.declared.kind.KeyKind.{KeyKind}
use Rattle.dlms_security.specs.declared.opening.Header.{Header}
use Rattle.dlms_security.specs.declared.policy.Policy.{Policy}
use Rattle.dlms_security.specs.declared.policy.Policy.TheVariants.{Authenticated, Encrypted, AuthenticatedEncrypted}
use Rattle.dlms_security.specs.declared.fault.UnprotectFault.{UnprotectFault}
use Rattle.dlms_security.specs.declared.fault.UnprotectFault.TheVariants.{NotProtected, AnotherTitle, AnotherControl, AnotherService}
use Rattle.dlms_security.specs.Form.{parts, kind_of, is_of}
use Rattle.dlms_security.specs.Body.{open_body}
use Rattle.dlms_security.specs.Security.{SecurityState, is_from}
use Rattle.dlms_security.specs.Run.{IsProtected}

-- the policy that a security control byte states
abbrev pub policy_at : ℕ → Option Policy
policy_at control = if control == 0x10 then Some Authenticated
    else if control == 0x20 then Some Encrypted
    else if control == 0x30 then Some AuthenticatedEncrypted
    else None

-- what a message says without its keys
abbrev pub header_from : Option KeyKind → Result (Head × List ℕ) UnprotectFault → Option Header
header_from (Some kind) (Ok found) = Some (record {
  kind = kind;
  title = found.0.title;
  policy = policy_at found.0.control;
  counter = found.0.counter;
})
header_from _ _ = None

abbrev pub header_in : List ℕ → Option Header
header_in message = header_from (kind_of message) (parts message)

-- an APDU of the message's service
abbrev pub if_of_service : KeyKind → ℕ → Result (List ℕ) UnprotectFault → Result (List ℕ) UnprotectFault
if_of_service kind tag (Err fault) = Err fault
if_of_service kind tag (Ok apdu) = if is_of kind tag apdu then Ok apdu else Err AnotherService

-- the APDU in a header and a body from this title, under an encryption key of this kind and the policy that the header states
abbrev pub opening_by : (encryption authentication title : List ℕ) → KeyKind → Option Policy → Head → List ℕ
    → Result (List ℕ) UnprotectFault
opening_by encryption authentication title kind None head body = Err AnotherControl
opening_by encryption authentication title kind (Some policy) head body =
    if is_from head.title title
    then if_of_service kind head.tag (open_body policy (record {
      encryption = encryption;
      authentication = authentication;
      title = title;
      counter = head.counter;
    }) body)
    else Err AnotherTitle

abbrev pub opening_of : (encryption authentication title : List ℕ) → Option KeyKind
    → Result (Head × List ℕ) UnprotectFault → Result (List ℕ) UnprotectFault
opening_of encryption authentication title kind (Err fault) = Err fault
opening_of encryption authentication title None (Ok found) = Err NotProtected
opening_of encryption authentication title (Some kind) (Ok found) =
    opening_by encryption authentication title kind (policy_at found.0.control) found.0 found.1

-- the APDU in a message from this title under these keys, or why it is not opened
abbrev pub opening : (encryption authentication title message : List ℕ) → Result (List ℕ) UnprotectFault
opening encryption authentication title message =
    opening_of encryption authentication title (kind_of message) (parts message)

-- a receiver of messages under this kind of key and this policy, with these keys
abbrev pub reader : KeyKind → Policy → (encryption authentication title : List ℕ) → SecurityState
reader kind policy encryption authentication title = record {
  kind = kind;
  own = [];
  peer = Some title;
  encryption = encryption;
  authentication = authentication;
  policy = policy;
  next = 0;
  reserved = 0;
  accepted = None;
}

-- The message is the protected form of the APDU under these keys and this title, by the kind of key that its tag names, under some
-- policy and counter.
pub record IsOpened (encryption authentication title message apdu : List ℕ) : Type 0 where
  pub kind : KeyKind
  pub policy : Policy
  pub counter : ℕ
  pub named : kind_of message ≡ Some kind
  pub is : IsProtected (reader kind policy encryption authentication title) title counter
      (record { message = message; apdu = apdu })
  pub short : length apdu ≤ MOST_APDU

-- A message is opened exactly if it is the protected form of an APDU, and as that APDU.
abbrev pub OpenedExactly : Type 0
OpenedExactly = (encryption authentication title message apdu : List ℕ)
    → (opening encryption authentication title message ≡ Ok apdu)
    ↔ IsOpened encryption authentication title message apdu
