-- What the meter's APDUs say (IEC 62056-5-3; Green Book 9.2.7.4 and 9.5), and the first fault in
-- them.
use Rattle.std.specs.Prelude.{ℕ, ◌+◌, ◌*◌, ◌==◌, ◌&&◌, ◌||◌, nat_lt, if◌then◌else◌, Bool, true}
use Rattle.std.specs.Prelude.{false, List, [], ◌∷◌, length}
use Rattle.std.specs.Prelude.{Option, Some, None, Result, Ok, Err}
use Rattle.std.specs.Str.{bytes_eq}
use Rattle.dlms_acse.specs.Reading.{on_some, inner_at, find_at, aare_at}
use Rattle.dlms_acse.specs.Writing.{mechanism_name}
use Rattle.dlms_acse.specs.declared.fault.AcseFault.{AcseFault}
use Rattle.dlms_acse.specs.declared.outcome.Verdict.{Verdict}
use Rattle.dlms_acse.specs.declared.outcome.Verdict.TheVariants.{Accepted, Refused}
use Rattle.dlms_secured.specs.declared.stage.Granted.{Granted}
use Rattle.dlms_secured.specs.declared.fault.SecuredFault.{SecuredFault}
use Rattle.dlms_secured.specs.declared.fault.SecuredFault.TheVariants as fault
use Rattle.dlms_secured.specs.Messages.{ciphered_names, begins}

-- the value of the field with this tag, and of the one field in it
abbrev pub value_in : ℕ → List ℕ → Option (List ℕ)
value_in tag fields = find_at (length fields) tag fields

abbrev pub inside : ℕ → ℕ → List ℕ → Option (List ℕ)
inside tag inner fields = on_some (value_in tag fields) (inner_at inner)

abbrev pub is_value : List ℕ → Option (List ℕ) → Bool
is_value value None = false
is_value value (Some given) = bytes_eq given value

-- the field with this tag has this value
abbrev pub is_field : ℕ → List ℕ → List ℕ → Bool
is_field tag value fields = is_value value (value_in tag fields)

-- ---- the association response

abbrev pub with_length : (ℕ → Bool) → List ℕ → Option (List ℕ)
with_length test value = if test (length value) then Some value else None

-- responding-AP-title: 8 octets
abbrev pub title_in : List ℕ → Option (List ℕ)
title_in fields = on_some (inside 0xA4 0x04 fields) (with_length (λ n. n == 8))

-- responding authentication value: the meter's challenge of 8 to 64 octets
abbrev pub challenge_in : List ℕ → Option (List ℕ)
challenge_in fields = on_some (inside 0xAA 0x80 fields)
    (with_length (λ n. nat_lt 7 n && nat_lt n 65))

-- user information
abbrev pub message_in : List ℕ → Option (List ℕ)
message_in fields = inside 0xBE 0x04 fields

-- An accepting response: the meter's title, its challenge, and the protected initiate response.
pub record Response : Type 0 where
  pub title : List ℕ
  pub challenge : List ℕ
  pub message : List ℕ

abbrev pub response_of : List ℕ → List ℕ → List ℕ → Response
response_of title challenge message =
    record { title = title; challenge = challenge; message = message }

abbrev pub with_message : List ℕ → List ℕ → Option (List ℕ) → Result Response SecuredFault
with_message title challenge None = Err fault.Initiate
with_message title challenge (Some message) = Ok (response_of title challenge message)

abbrev pub with_challenge : List ℕ → List ℕ → List ℕ → Option (List ℕ)
    → Result Response SecuredFault
with_challenge own fields title None = Err fault.NoChallenge
with_challenge own fields title (Some challenge) =
    if bytes_eq challenge own then Err fault.Reflected
    else with_message title challenge (message_in fields)

abbrev pub with_title : List ℕ → List ℕ → List ℕ → Option (List ℕ) → Result Response SecuredFault
with_title own_title own fields None = Err fault.Title
with_title own_title own fields (Some title) =
    if bytes_eq title own_title then Err fault.Title
    else if is_field 0x89 (mechanism_name 5) fields
    then with_challenge own fields title (challenge_in fields)
    else Err fault.Mechanism

-- the response in these fields, for a client with this title and this challenge
abbrev pub response_in : List ℕ → List ℕ → List ℕ → Result Response SecuredFault
response_in own_title own fields =
    if is_field 0xA1 ciphered_names fields
    then (if is_field 0xA2 (0x02 ∷ 0x01 ∷ 0x00 ∷ []) fields
    then with_title own_title own fields (title_in fields)
    else Err fault.Response)
    else Err fault.Context

-- ---- a refusal

abbrev pub is_refused : Result Verdict AcseFault → Bool
is_refused (Ok (Accepted conformance size)) = false
is_refused (Ok (Refused diagnostic initiate)) = true
is_refused (Err why) = false

-- an exception-response, a confirmed-service-error, or a refusing association response
abbrev pub is_refusal : List ℕ → Bool
is_refusal apdu = (begins 0xD8 apdu || begins 0x0E apdu) || is_refused (aare_at apdu)

-- ---- the initiate response and the meter's answer

-- an initiate response of version 6 for logical names: the services and the size
abbrev pub granted_in : List ℕ → Option Granted
granted_in (a ∷ b ∷ v ∷ c ∷ d ∷ e ∷ f ∷ h ∷ m ∷ l ∷ s ∷ t ∷ y ∷ z ∷ []) =
    if (a == 0x08) && (b == 0x00) && (v == 0x06) && (c == 0x5F) && (d == 0x1F) && (e == 0x04)
    && (f == 0x00) && (y == 0x00) && (z == 0x07)
    then Some (record { services = h ∷ m ∷ l ∷ []; size = 256 * s + t })
    else None
granted_in _ = None

-- a normal action response of success, with an octet string of 17 octets as its data
abbrev pub proof_in : List ℕ → Option (List ℕ)
proof_in (a ∷ b ∷ invoke ∷ c ∷ d ∷ e ∷ f ∷ n ∷ answer) =
    if (a == 0xC7) && (b == 0x01) && (c == 0x00) && (d == 0x01) && (e == 0x00) && (f == 0x09)
    && (n == 0x11) && (length answer == 17)
    then Some answer else None
proof_in _ = None
