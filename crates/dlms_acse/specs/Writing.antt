-- The bytes of an association: the request, the response and the release, as they are written (IEC 62056-5-3, the
-- encoding of ACSE APDUs in BER, with the initiate request and response in A-XDR).
use Rattle.std.specs.Prelude.{ℕ, if◌then◌else◌, ◌/◌, ◌%◌, List, [], ◌∷◌, ◌++◌, length, Option, Some, None}
use Rattle.dlms_frame.specs.declared.client.Client.{Client}
use Rattle.dlms_frame.specs.Client.{has_secret}
use Rattle.dlms_acse.specs.declared.outcome.Verdict.{Verdict}
use Rattle.dlms_acse.specs.declared.outcome.Verdict.TheVariants.{Accepted, Refused}
use Rattle.dlms_acse.specs.declared.judging.TheConstants.{MOST_SIZE}

-- a tag, a length below 128, and its content
abbrev pub field : ℕ → List ℕ → List ℕ
field tag value = tag ∷ length value ∷ value

-- the application context with logical names and without ciphering, as an object identifier
abbrev pub logical_names : List ℕ
logical_names = 0x06 ∷ 0x07 ∷ 0x60 ∷ 0x85 ∷ 0x74 ∷ 0x05 ∷ 0x08 ∷ 0x01 ∷ 0x01 ∷ []

-- the mechanism of this number
abbrev pub mechanism_name : ℕ → List ℕ
mechanism_name n = 0x60 ∷ 0x85 ∷ 0x74 ∷ 0x05 ∷ 0x08 ∷ 0x02 ∷ n ∷ []

-- a number of two bytes, and of three
abbrev pub two_bytes : ℕ → List ℕ
two_bytes n = (n / 256) ∷ (n % 256) ∷ []

abbrev pub three_bytes : ℕ → List ℕ
three_bytes n = (n / 65536 % 256) ∷ (n / 256 % 256) ∷ (n % 256) ∷ []

-- the head of a conformance block: its tag, its length, and that no bit of it is unused
abbrev pub conformance_head : List ℕ
conformance_head = 0x5F ∷ 0x1F ∷ 0x04 ∷ 0x00 ∷ []

-- version 6, without a dedicated key, with both options left out
abbrev pub initiate_request : ℕ → ℕ → List ℕ
initiate_request conformance size =
    0x01 ∷ 0x00 ∷ 0x00 ∷ 0x00 ∷ 0x06
    ∷ (conformance_head ++ three_bytes conformance ++ two_bytes size)

-- version 6, size 1,024, the variable access name for logical names
abbrev pub initiate_response : ℕ → ℕ → List ℕ
initiate_response conformance size =
    0x08 ∷ 0x00 ∷ 0x06 ∷ (conformance_head ++ three_bytes conformance ++ two_bytes size ++ 0x00
    ∷ 0x07 ∷ [])

-- the requirements, the low-level mechanism, and the secret
abbrev pub credentials : List ℕ → List ℕ
credentials secret = field 0x8A (0x07 ∷ 0x80 ∷ []) ++ field 0x8B (mechanism_name 1)
    ++ field 0xAC (field 0x80 secret)

-- who the client is: nothing of one without a secret
abbrev pub authentication : Client → List ℕ → List ℕ
authentication client secret = if has_secret client then credentials secret else []

abbrev pub aarq_bytes : Client → List ℕ → ℕ → ℕ → List ℕ
aarq_bytes client secret conformance size =
    field 0x60 (field 0xA1 logical_names ++ authentication client secret
    ++ field 0xBE (field 0x04 (initiate_request conformance size)))

-- accepted is 0, rejected permanently 1
abbrev pub result_field : ℕ → List ℕ
result_field r = field 0xA2 (field 0x02 (r ∷ []))

-- a diagnostic of the service user
abbrev pub diagnostic_field : ℕ → List ℕ
diagnostic_field d = field 0xA3 (field 0xA1 (field 0x02 (d ∷ [])))

-- a confirmed service error of the initiate service
abbrev pub error_field : Option ℕ → List ℕ
error_field None = []
error_field (Some n) = field 0xBE (field 0x04 (0x0E ∷ 0x01 ∷ 0x06 ∷ n ∷ []))

abbrev pub aare_bytes : Verdict → List ℕ
aare_bytes (Accepted conformance size) =
    field 0x61 (field 0xA1 logical_names ++ result_field 0 ++ diagnostic_field 0
    ++ field 0xBE (field 0x04 (initiate_response conformance.0 MOST_SIZE)))
aare_bytes (Refused diagnostic initiate) =
    field 0x61 (field 0xA1 logical_names ++ result_field 1 ++ diagnostic_field diagnostic
    ++ error_field initiate)

-- a release, and the answer to it, with the reason `normal`
abbrev pub release_request : List ℕ
release_request = field 0x62 (field 0x80 (0x00 ∷ []))

abbrev pub release_response : List ℕ
release_response = field 0x63 (field 0x80 (0x00 ∷ []))
