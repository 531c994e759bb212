-- The APDUs that the security layer writes itself (IEC 62056-5-3; Green Book 9.3.2 and 9.5; ACSE
-- APDUs in BER).
use Rattle.std.specs.Prelude.{ℕ, ◌-◌, ◌==◌, if◌then◌else◌, min, Bool, false, List, [], ◌∷◌, ◌++◌}
use Rattle.std.specs.Prelude.{length, Option, Some, None}
use Rattle.dlms_acse.specs.Writing.{field, logical_names, mechanism_name, two_bytes}
use Rattle.dlms_acse.specs.Writing.{conformance_head, three_bytes, initiate_request}
use Rattle.dlms_acse.specs.Writing.{result_field, diagnostic_field}
use Rattle.dlms_security.specs.Form.{length_octets}
use Rattle.dlms_secured.specs.declared.stage.Granted.{Granted}
use Rattle.dlms_secured.specs.declared.messages.TheConstants.{MOST_CARRIED, OVERHEAD}

-- an initiate request, with the dedicated key if there is one
abbrev pub initiate_of : Option (List ℕ) → ℕ → ℕ → List ℕ
initiate_of None services size = initiate_request services size
initiate_of (Some key) services size =
    0x01 ∷ 0x01 ∷ 0x10 ∷ (key ++ 0x00 ∷ 0x00 ∷ 0x06
    ∷ (conformance_head ++ three_bytes services ++ two_bytes size))

-- the application context with logical names and with ciphering, as an object identifier
abbrev pub ciphered_names : List ℕ
ciphered_names = 0x06 ∷ 0x07 ∷ 0x60 ∷ 0x85 ∷ 0x74 ∷ 0x05 ∷ 0x08 ∷ 0x01 ∷ 0x03 ∷ []

-- the field that contains a protected initiate request or response
abbrev pub user_information : List ℕ → List ℕ
user_information message = field 0xBE (field 0x04 message)

-- who the client is: calling-AP-title, sender ACSE requirements, mechanism 5, calling
-- authentication value
abbrev pub credentials : List ℕ → List ℕ → List ℕ
credentials title challenge =
    field 0xA6 (field 0x04 title) ++ field 0x8A (0x07 ∷ 0x80 ∷ [])
    ++ field 0x8B (mechanism_name 5) ++ field 0xAC (field 0x80 challenge)

-- the fields of the association request with ciphering, around a protected initiate request
abbrev pub request_fields : List ℕ → List ℕ → List ℕ → List ℕ
request_fields title challenge message =
    field 0xA1 ciphered_names ++ credentials title challenge ++ user_information message

-- an APDU of a tag, a length and fields, which may be 128 octets or more
abbrev pub long_field : ℕ → List ℕ → List ℕ
long_field tag value = tag ∷ (length_octets (length value) ++ value)

abbrev pub secured_aarq : List ℕ → List ℕ → List ℕ → List ℕ
secured_aarq title challenge message = long_field 0x60 (request_fields title challenge message)

-- the release request with a protected initiate request
abbrev pub secured_rlrq : List ℕ → List ℕ
secured_rlrq message = field 0x62 (field 0x80 (0x00 ∷ []) ++ user_information message)

-- reply_to_HLS_authentication: an action request on class 15, 0.0.40.0.0.255, method 1, with the
-- answer to the meter's challenge as an octet string
abbrev pub reply_to_hls : List ℕ → List ℕ
reply_to_hls answer =
    0xC3 ∷ 0x01 ∷ 0xC1 ∷ 0x00 ∷ 0x0F ∷ 0x00 ∷ 0x00 ∷ 0x28 ∷ 0x00 ∷ 0x00 ∷ 0xFF ∷ 0x01 ∷ 0x01 ∷ 0x09
    ∷ 0x11 ∷ answer

-- the largest APDU in clear whose protected form the meter receives and the carrier carries; a size
-- of 0 is no limit
abbrev pub clear_size : ℕ → ℕ
clear_size size = (if size == 0 then MOST_CARRIED else min size MOST_CARRIED) - OVERHEAD

-- an initiate response: version 6, the services, the size, logical names
abbrev pub initiate_response : List ℕ → ℕ → List ℕ
initiate_response services size =
    0x08 ∷ 0x00 ∷ 0x06 ∷ (conformance_head ++ services ++ two_bytes size ++ 0x00 ∷ 0x07 ∷ [])

-- the accepting association response without ciphering
abbrev pub aare_of : List ℕ → ℕ → List ℕ
aare_of services size =
    field 0x61 (field 0xA1 logical_names ++ result_field 0 ++ diagnostic_field 0
    ++ field 0xBE (field 0x04 (initiate_response services size)))

-- with the meter's services and the lowered size
abbrev pub plain_aare : Granted → List ℕ
plain_aare granted = aare_of granted.services (clear_size granted.size)

-- the APDU has this tag
abbrev pub begins : ℕ → List ℕ → Bool
begins tag [] = false
begins tag (first ∷ rest) = first == tag
