-- Who may talk to the meter: one table (IEC 62056-5-3, the association of a client; the diagnostics are those of
-- Acse-service-user, the numbers beside them those of the initiate error).
use Rattle.std.specs.Prelude.{ℕ, Bool, true, false, not, ◌&&◌, ◌==◌, if◌then◌else◌, nat_lt, min, bit_and, List, [], ◌∷◌, ◌++◌, Option, Some, None, option_map, unwrap_or}
use Rattle.std.specs.Str.{bytes_eq}
use Rattle.dlms_frame.specs.declared.client.Client.{Client}
use Rattle.dlms_frame.specs.Client.{has_secret}
use Rattle.dlms_acse.specs.declared.aarq.Aarq.{Aarq}
use Rattle.dlms_acse.specs.declared.aarq.Initiate.{Initiate}
use Rattle.dlms_acse.specs.declared.aarq.Mechanism.{Mechanism}
use Rattle.dlms_acse.specs.declared.aarq.Mechanism.TheVariants.{Absent, Lowest, Low}
use Rattle.dlms_acse.specs.declared.outcome.Verdict.{Verdict}
use Rattle.dlms_acse.specs.declared.outcome.Verdict.TheVariants.{Accepted, Refused}
use Rattle.dlms_acse.specs.declared.judging.TheConstants.{LEAST_SIZE, MOST_SIZE}

-- what a request says
pub record Request : Type 0 where
  pub context : Bool
  pub mechanism : Mechanism
  pub secret : Option (List ℕ)
  pub initiate : Option Initiate

abbrev pub request_of : Aarq → Request
request_of a = record {
  context = a.context;
  mechanism = a.mechanism;
  secret = option_map (λ s. s.items) a.secret;
  initiate = a.initiate;
}

abbrev pub is_absent : Mechanism → Bool
is_absent Absent = true
is_absent _ = false

abbrev pub is_lowest : Mechanism → Bool
is_lowest Lowest = true
is_lowest _ = false

abbrev pub is_low : Mechanism → Bool
is_low Low = true
is_low _ = false

-- the secret is there, and the whole of it is the right one
abbrev pub is_secret : List ℕ → Option (List ℕ) → Bool
is_secret secret None = false
is_secret secret (Some given) = bytes_eq given secret

-- the initiate request can be read, and this is so of it
abbrev pub proposes : (Initiate → Bool) → Option Initiate → Bool
proposes test None = false
proposes test (Some i) = test i

-- blocks with get, set and action, get, set, selective access, action
abbrev pub offered : ℕ
offered = 0x1C1D

-- proposed and offered
abbrev pub agreed : Initiate → ℕ
agreed i = bit_and i.conformance.0 offered

abbrev pub has_get : ℕ → Bool
has_get bits = not (bit_and bits 0x10 == 0)

-- the largest APDU that the meter sends: the client's size, at most 1,024; 0 means no limit
abbrev pub size_in_use : ℕ → ℕ
size_in_use size = if size == 0 then MOST_SIZE else min size MOST_SIZE

abbrev pub refused : ℕ → Verdict
refused diagnostic = Refused diagnostic None

abbrev pub initiate_error : ℕ → Verdict
initiate_error error = Refused 1 (Some error)

abbrev pub accepted : Option Initiate → Verdict
accepted None = refused 1
accepted (Some i) = Accepted (record { 0 = agreed i }) (size_in_use i.size)

-- the refusal of the first case that fits
abbrev pub first_fit : List (Bool × Verdict) → Option Verdict
first_fit [] = None
first_fit (row ∷ rows) = if row.0 then Some row.1 else first_fit rows

-- the client may not be who it says
abbrev pub doubts : Request → Client → List ℕ → List (Bool × Verdict)
doubts r client secret = (
  not (has_secret client) && not (is_absent r.mechanism) && not
      (is_lowest r.mechanism),
  refused 11,
)
    ∷ (has_secret client && is_absent r.mechanism, refused 14)
    ∷ (has_secret client && is_lowest r.mechanism, refused 14)
    ∷ (has_secret client && not (is_low r.mechanism), refused 11)
    ∷ (has_secret client && not (is_secret secret r.secret), refused 13)
    ∷ []

-- what it proposes can't be met
abbrev pub objections : Option Initiate → List (Bool × Verdict)
objections initiate =
    (not (proposes (λ i. true) initiate), refused 1)
    ∷ (proposes (λ i. nat_lt i.version 6) initiate, initiate_error 1)
    ∷ (proposes (λ i. not (has_get (agreed i))) initiate, initiate_error 2)
    ∷ (proposes (λ i. nat_lt 0 i.size && nat_lt i.size LEAST_SIZE) initiate, initiate_error 3)
    ∷ []

-- the table: another context, then who the client is, then what it proposes; if no case applies it is accepted
abbrev pub cases : Request → Client → List ℕ → List (Bool × Verdict)
cases r client secret = (not r.context, refused 2)
    ∷ (doubts r client secret ++ objections r.initiate)

abbrev pub verdict : Request → Client → List ℕ → Verdict
verdict r client secret = unwrap_or (first_fit (cases r client secret)) (accepted r.initiate)
