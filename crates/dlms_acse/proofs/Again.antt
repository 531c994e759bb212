-- Written APDUs are read again.
use Rattle.std.proofs.Common.{◌≡◌, ℕ, ◌+◌, ◌*◌, ◌/◌, ◌%◌, ◌≤◌, ◌<◌, Bool, true, false, if◌then◌else◌, ltb, eqb, eq-eqb, lit<, subst, List, [], ◌∷◌, ◌++◌, length, Ok, Some, None, refl, sym, ap, ◌∙◌, arith}
use Rattle.std.proofs.lemmas.Bool.{le-ltb}
use Rattle.std.proofs.lemmas.List.{append-nil, length-append}
use Rattle.dlms_frame.specs.declared.client.Client.{Client}
use Rattle.dlms_frame.specs.Client.{has_secret}
use Rattle.dlms_acse.specs.Verdict.{Request}
use Rattle.dlms_acse.specs.declared.aarq.Mechanism.TheVariants.{Absent, Low}
use Rattle.dlms_acse.specs.declared.outcome.Verdict.{Verdict}
use Rattle.dlms_acse.specs.declared.outcome.Verdict.TheVariants.{Accepted, Refused}
use Rattle.dlms_acse.specs.Reading.{octets_at, inner_at, secret_at, key_at, option_at, block_at, proposal_at, request_at, initiate_at, response_at, error_at, request_from, verdict_from}
use Rattle.dlms_acse.specs.Spelling.{Field, SpellFields, Counts, IsAarq, IsAare, value_of, asked, answered}
use Rattle.dlms_acse.specs.Services.{lower}
use Rattle.dlms_acse.specs.Writing.{field, logical_names, mechanism_name, credentials, initiate_request, initiate_response, aarq_bytes, aare_bytes}
use Rattle.dlms_acse.specs.Reading.{aarq_at, aare_at}
use Rattle.dlms_acse.proofs.Takes.{octets_again}
use Rattle.dlms_acse.proofs.Apdus.{aarq_only, aare_only}
use Rattle.dlms_acse.proofs.Relations.{says_request, says_verdict}

-- a length below 128
short : (most : ℕ) (value : List ℕ) → length value < 128 → Counts most (length value ∷ value) value
short most value l = (length value ∷ [], refl, (l, refl))

-- one field alone
inner_again : (tag : ℕ) (value : List ℕ) → length value < 128 → inner_at tag (field tag value) ≡ Some value
unfolding inner_at
inner_again tag value l =
    let octets : octets_at 2 (length value ∷ value) ≡ Ok (value, []) = ap (octets_at 2) (sym (append-nil (length value ∷ value))) ∙ octets_again 2 (length value ∷ value) value [] (short 2 value l) in
    let here : eqb tag tag ≡ true = eq-eqb tag tag refl in
    rw (here, octets) refl

secret_again : (secret : List ℕ) → length secret ≤ 16 → secret_at (field 0x80 secret) ≡ Some secret
unfolding secret_at
secret_again secret l =
    let fits : ltb 16 (length secret) ≡ false = le-ltb 16 (length secret) l in
    rw (inner_again 0x80 secret (omega arith), fits) refl

three : (n : ℕ) → 65536 * (n / 65536 % 256) + 256 * (n / 256 % 256) + n % 256 ≡ lower n
three n = omega arith

two : (n : ℕ) → 256 * (n / 256) + n % 256 ≡ n
two n = omega arith

initiate_again : (bits size : ℕ) → initiate_at (field 0x04 (initiate_request bits size)) ≡ Some (record { version = 6; conformance = record { 0 = lower bits }; size = size })
unfolding initiate_at request_at key_at option_at proposal_at block_at
initiate_again bits size = rw (inner_again 0x04 (initiate_request bits size) (lit< tt), three bits, two size) refl

abbrev field_of : ℕ → List ℕ → Field
field_of tag value = record { tag = tag; value = value }

-- the bytes, and what they say, of a client with a secret or without one
abbrev request_bytes : Bool → List ℕ → ℕ → ℕ → List ℕ
request_bytes needs secret bits size =
    field 0x60 (field 0xA1 logical_names ++ (if needs then credentials secret else []) ++ field 0xBE (field 0x04 (initiate_request bits size)))

abbrev says_of : Bool → List ℕ → ℕ → ℕ → Request
says_of needs secret bits size = record {
  context = true;
  mechanism = if needs then Low else Absent;
  secret = if needs then Some secret else None;
  initiate = Some (record { version = 6; conformance = record { 0 = lower bits }; size = size });
}

open_again : (secret : List ℕ) (bits size : ℕ) → IsAarq (request_bytes false secret bits size) (says_of false secret bits size)
open_again secret bits size =
    let v : List ℕ = field 0x04 (initiate_request bits size) in
    let body : List ℕ = field 0xA1 logical_names ++ field 0xBE v in
    let fs : List Field = field_of 0xA1 logical_names ∷ field_of 0xBE v ∷ [] in
    let last : SpellFields (field 0xBE v) (field_of 0xBE v ∷ []) = (length v ∷ v, [], refl, short 2 v (lit< tt), refl) in
    let spelled : SpellFields body fs = (length logical_names ∷ logical_names, field 0xBE v, refl, short 2 logical_names (lit< tt), last) in
    let says : request_from (λ tag. value_of tag fs) ≡ says_of false secret bits size = rw (initiate_again bits size) refl in
    (fs, (length body ∷ body, body, refl, short 2 body (lit< tt), spelled, (refl, (refl, tt))), says_request (λ tag. value_of tag fs) (says_of false secret bits size) says)

known_again : (secret : List ℕ) (bits size : ℕ) → length secret ≤ 16 → IsAarq (request_bytes true secret bits size) (says_of true secret bits size)
known_again secret bits size few =
    let v : List ℕ = field 0x04 (initiate_request bits size) in
    let needs : List ℕ = 0x07 ∷ 0x80 ∷ [] in
    let name : List ℕ = mechanism_name 1 in
    let s : List ℕ = field 0x80 secret in
    let fifth : List ℕ = field 0xBE v in
    let fourth : List ℕ = field 0xAC s ++ fifth in
    let third : List ℕ = field 0x8B name ++ fourth in
    let second : List ℕ = field 0x8A needs ++ third in
    let body : List ℕ = field 0xA1 logical_names ++ second in
    let fs : List Field = field_of 0xA1 logical_names ∷ field_of 0x8A needs ∷ field_of 0x8B name ∷ field_of 0xAC s ∷ field_of 0xBE v ∷ [] in
    let size_of_body : length body < 128 = omega (arith, length-append secret fifth) in
    let e : SpellFields fifth (field_of 0xBE v ∷ []) = (length v ∷ v, [], refl, short 2 v (lit< tt), refl) in
    let d : SpellFields fourth (field_of 0xAC s ∷ field_of 0xBE v ∷ []) = (length s ∷ s, fifth, refl, short 2 s (omega arith), e) in
    let c : SpellFields third (field_of 0x8B name ∷ field_of 0xAC s ∷ field_of 0xBE v ∷ []) = (length name ∷ name, fourth, refl, short 2 name (lit< tt), d) in
    let b : SpellFields second (field_of 0x8A needs ∷ field_of 0x8B name ∷ field_of 0xAC s ∷ field_of 0xBE v ∷ []) = (length needs ∷ needs, third, refl, short 2 needs (lit< tt), c) in
    let spelled : SpellFields body fs = (length logical_names ∷ logical_names, second, refl, short 2 logical_names (lit< tt), b) in
    let says : request_from (λ tag. value_of tag fs) ≡ says_of true secret bits size = rw (initiate_again bits size, secret_again secret few) refl in
    (fs, (length body ∷ body, body, refl, short 2 body size_of_body, spelled, (refl, (refl, (refl, (refl, (refl, tt)))))), says_request (λ tag. value_of tag fs) (says_of true secret bits size) says)

-- of any client, by whether it has a secret
either_again : (needs : Bool) (secret : List ℕ) (bits size : ℕ) → length secret ≤ 16 → IsAarq (request_bytes needs secret bits size) (says_of needs secret bits size)
either_again false secret bits size few = open_again secret bits size
either_again true secret bits size few = known_again secret bits size few

pub aarq_again : (client : Client) (bytes secret : List ℕ) (bits size : ℕ) → bytes ≡ aarq_bytes client secret bits size → length secret ≤ 16 → IsAarq bytes (asked client secret bits size)
aarq_again client bytes secret bits size e few = subst (λ (w : List ℕ). IsAarq w (asked client secret bits size)) (sym e) (either_again (has_secret client) secret bits size few)

-- ---- the response

response_again : (bits : ℕ) → response_at (initiate_response bits 1024) ≡ Some (Accepted (record { 0 = lower bits }) 1024)
unfolding response_at
response_again bits = rw (three bits) refl

error_again : (n : ℕ) → error_at (0x0E ∷ 0x01 ∷ 0x06 ∷ n ∷ []) ≡ Some n
unfolding error_at
error_again n = refl

abbrev result_value : ℕ → List ℕ
result_value r = field 0x02 (r ∷ [])

abbrev diagnostic_value : ℕ → List ℕ
diagnostic_value d = field 0xA1 (field 0x02 (d ∷ []))

abbrev head_fields : ℕ → ℕ → List Field → List Field
head_fields r d fs = field_of 0xA1 logical_names ∷ field_of 0xA2 (result_value r) ∷ field_of 0xA3 (diagnostic_value d) ∷ fs

abbrev head_bytes : ℕ → ℕ → List ℕ → List ℕ
head_bytes r d rest = field 0xA1 logical_names ++ (field 0xA2 (result_value r) ++ (field 0xA3 (diagnostic_value d) ++ rest))

head_spelled : (r d : ℕ) (rest : List ℕ) (fs : List Field) → SpellFields rest fs → SpellFields (head_bytes r d rest) (head_fields r d fs)
head_spelled r d rest fs s =
    let third : List ℕ = field 0xA3 (diagnostic_value d) ++ rest in
    let second : List ℕ = field 0xA2 (result_value r) ++ third in
    let c : SpellFields third (field_of 0xA3 (diagnostic_value d) ∷ fs) = (length (diagnostic_value d) ∷ diagnostic_value d, rest, refl, short 2 (diagnostic_value d) (lit< tt), s) in
    let b : SpellFields second (field_of 0xA2 (result_value r) ∷ field_of 0xA3 (diagnostic_value d) ∷ fs) = (length (result_value r) ∷ result_value r, third, refl, short 2 (result_value r) (lit< tt), c) in
    (length logical_names ∷ logical_names, second, refl, short 2 logical_names (lit< tt), b)

user_spelled : (value : List ℕ) → length value < 128 → SpellFields (field 0xBE value) (field_of 0xBE value ∷ [])
user_spelled value l = (length value ∷ value, [], ap (λ (w : List ℕ). 0xBE ∷ length value ∷ w) (sym (append-nil value)), short 2 value l, refl)

verdict_again : (v : Verdict) → IsAare (aare_bytes v) (answered v)
verdict_again (Accepted conformance size) =
    let u : List ℕ = field 0x04 (initiate_response conformance.0 1024) in
    let fs : List Field = head_fields 0 0 (field_of 0xBE u ∷ []) in
    let body : List ℕ = head_bytes 0 0 (field 0xBE u) in
    let spelled : SpellFields body fs = head_spelled 0 0 (field 0xBE u) (field_of 0xBE u ∷ []) (user_spelled u (lit< tt)) in
    let says : verdict_from (λ tag. value_of tag fs) ≡ Ok (answered (Accepted conformance size)) = rw (inner_again 0x04 (initiate_response conformance.0 1024) (lit< tt), response_again conformance.0) refl in
    (fs, (length body ∷ body, body, refl, short 2 body (lit< tt), spelled, (refl, (refl, (refl, (refl, tt))))), says_verdict (λ tag. value_of tag fs) (answered (Accepted conformance size)) says)
verdict_again (Refused diagnostic None) =
    let fs : List Field = head_fields 1 diagnostic [] in
    let body : List ℕ = head_bytes 1 diagnostic [] in
    let spelled : SpellFields body fs = head_spelled 1 diagnostic [] [] refl in
    (fs, (length body ∷ body, body, refl, short 2 body (lit< tt), spelled, (refl, (refl, (refl, tt)))), says_verdict (λ tag. value_of tag fs) (Refused diagnostic None) refl)
verdict_again (Refused diagnostic (Some n)) =
    let u : List ℕ = field 0x04 (0x0E ∷ 0x01 ∷ 0x06 ∷ n ∷ []) in
    let fs : List Field = head_fields 1 diagnostic (field_of 0xBE u ∷ []) in
    let body : List ℕ = head_bytes 1 diagnostic (field 0xBE u) in
    let spelled : SpellFields body fs = head_spelled 1 diagnostic (field 0xBE u) (field_of 0xBE u ∷ []) (user_spelled u (lit< tt)) in
    let says : verdict_from (λ tag. value_of tag fs) ≡ Ok (Refused diagnostic (Some n)) = rw (inner_again 0x04 (0x0E ∷ 0x01 ∷ 0x06 ∷ n ∷ []) (lit< tt), error_again n) refl in
    (fs, (length body ∷ body, body, refl, short 2 body (lit< tt), spelled, (refl, (refl, (refl, (refl, tt))))), says_verdict (λ tag. value_of tag fs) (Refused diagnostic (Some n)) says)

pub aare_again : (bytes : List ℕ) (v : Verdict) → bytes ≡ aare_bytes v → IsAare bytes (answered v)
aare_again bytes v e = subst (λ (w : List ℕ). IsAare w (answered v)) (sym e) (verdict_again v)

-- ---- the laws

pub written_requests_read : (client : Client) (secret : List ℕ) (bits size : ℕ) → length secret ≤ 16 → aarq_at (aarq_bytes client secret bits size) ≡ Ok (asked client secret bits size)
written_requests_read client secret bits size few =
    aarq_only (aarq_bytes client secret bits size) (asked client secret bits size) (aarq_again client (aarq_bytes client secret bits size) secret bits size refl few)

pub written_responses_read : (v : Verdict) → aare_at (aare_bytes v) ≡ Ok (answered v)
written_responses_read v = aare_only (aare_bytes v) (answered v) (verdict_again v)
