-- The association (IEC 62056-5-3): its request, and the meaning of an APDU as an answer to that and to the release.
use Rattle.std.specs.Prelude.{ℕ, ◌==◌, if◌then◌else◌, true, false, Bool, List, [], ◌∷◌, ◌++◌, Option, Some, None, Result, Ok, Err}
use Rattle.dlms_acse.specs.Reading.{aare_at}
use Rattle.dlms_acse.specs.Writing.{credentials, field, initiate_request, logical_names}
use Rattle.dlms_acse.specs.declared.fault.AcseFault.{AcseFault}
use Rattle.dlms_acse.specs.declared.outcome.Verdict.{Verdict}
use Rattle.dlms_acse.specs.declared.outcome.Verdict.TheVariants.{Accepted, Refused as Rejected}
use Rattle.dlms_association.specs.Terms.{TermsValue}
use Rattle.dlms_association.specs.declared.answer.Denial.{Denial}
use Rattle.dlms_association.specs.declared.answer.Denial.TheVariants.{Exception, ServiceError}
use Rattle.dlms_association.specs.declared.fault.Fault.{Fault}
use Rattle.dlms_association.specs.declared.fault.Fault.TheVariants.{Refused, Denied, Association, Form}
use Rattle.dlms_association.specs.declared.granted.Granted.{Granted}

-- A secret goes with the low-level mechanism; without one no mechanism is named.
abbrev pub credentials_of : Option (List ℕ) → List ℕ
credentials_of None = []
credentials_of (Some secret) = credentials secret

-- The request proposes blocks with get, set and action, get, set, selective access and action, and APDUs of this size.
abbrev pub association_bytes : TermsValue → List ℕ
association_bytes terms =
    field 0x60 (field 0xA1 logical_names ++ credentials_of terms.secret
    ++ field 0xBE (field 0x04 (initiate_request 0x1C1D terms.size)))

-- an exception: its tag, the state error and the service error; or a confirmed service error: its tag, the service, the class and
-- the value
abbrev pub denial_of : List ℕ → Option Denial
denial_of (tag ∷ a ∷ b ∷ []) = if tag == 0xD8 then Some (Exception a b) else None
denial_of (tag ∷ a ∷ b ∷ c ∷ []) = if tag == 0x0E then Some (ServiceError a b c) else None
denial_of _ = None

abbrev pub denied_or : Option Denial → Fault → Fault
denied_or (Some denial) fault = Denied denial
denied_or None fault = fault

-- the answer to the association request
abbrev pub granted_by : Result Verdict AcseFault → List ℕ → Result Granted Fault
granted_by (Ok (Accepted conformance size)) apdu = Ok (record {
  conformance = conformance;
  size = size;
})
granted_by (Ok (Rejected diagnostic initiate)) apdu = Err (Refused diagnostic initiate)
granted_by (Err fault) apdu = Err (denied_or (denial_of apdu) (Association fault))

abbrev pub granted_at : List ℕ → Result Granted Fault
granted_at apdu = granted_by (aare_at apdu) apdu

-- the answer to the release: any APDU that begins with its tag
abbrev pub is_release : List ℕ → Bool
is_release [] = false
is_release (tag ∷ rest) = tag == 0x63

abbrev pub released_by : Bool → List ℕ → Result (Unit {0}) Fault
released_by true apdu = Ok tt
released_by false apdu = Err (denied_or (denial_of apdu) Form)

abbrev pub released_at : List ℕ → Result (Unit {0}) Fault
released_at apdu = released_by (is_release apdu) apdu
