-- The laws.
use Rattle.std.proofs.Common.{◌≡◌, ◌∙◌, ◌⊎◌, inl, inr, ℕ, List, ◌∷◌, ◌++◌, Result, Ok, Err, refl, ap, sym}
use Rattle.dlms_apdu.specs.declared.fault.Refusal.{Refusal}
use Rattle.dlms_apdu.specs.declared.fault.Refusal.TheVariants.{Short, Choice, Trailing, Data}
use Rattle.dlms_apdu.specs.Laws.{ReadsRequests, ReadsResponses, HasOneRequest, HasOneResponse, ReadsWrittenRequests, ReadsWrittenResponses, TellsWhatFollowsARequest, TellsWhatFollowsAResponse, KeepsRefusingRequests, KeepsRefusingResponses, TellsBeginningsOfRequests, TellsBeginningsOfResponses}
use Rattle.dlms_apdu.specs.Reading.{request_at, response_at}
use Rattle.dlms_apdu.specs.Writing.{request_bytes, response_bytes}
use Rattle.dlms_apdu.proofs.Takes.{ok_is, ended_before, regrouped}
use Rattle.dlms_apdu.proofs.Requests.{request_found, request_again, request_again_before}
use Rattle.dlms_apdu.proofs.Responses.{response_found, response_again, response_again_before}
use Rattle.dlms_apdu.proofs.Firm.{request_firm, response_firm}
use Rattle.dlms_apdu.proofs.Followed.{request_followed, response_followed}
use Rattle.dlms_apdu.proofs.Written.{request_spelled, response_spelled}

pub reads_requests : ReadsRequests
reads_requests bytes r = (request_found bytes r, request_again bytes r)

pub reads_responses : ReadsResponses
reads_responses bytes r = (response_found bytes r, response_again bytes r)

pub has_one_request : HasOneRequest
has_one_request bytes r s one other = ok_is r s (sym (request_again bytes r one) ∙ request_again bytes s other)

pub has_one_response : HasOneResponse
has_one_response bytes r s one other = ok_is r s (sym (response_again bytes r one) ∙ response_again bytes s other)

pub reads_written_requests : ReadsWrittenRequests
reads_written_requests r fits in_range = request_again (request_bytes r) r (request_spelled r fits in_range)

pub reads_written_responses : ReadsWrittenResponses
reads_written_responses r fits in_range = response_again (response_bytes r) r (response_spelled r fits in_range)

pub tells_what_follows_a_request : TellsWhatFollowsARequest
tells_what_follows_a_request bytes =
    (request_followed bytes, λ h. ap request_at h.3 ∙ request_again_before h.0 (h.1 ∷ h.2) h.4.0 h.4.1 ∙ ended_before h.4.0 h.1 h.2)

pub tells_what_follows_a_response : TellsWhatFollowsAResponse
tells_what_follows_a_response bytes =
    (response_followed bytes, λ h. ap response_at h.3 ∙ response_again_before h.0 (h.1 ∷ h.2) h.4.0 h.4.1 ∙ ended_before h.4.0 h.1 h.2)

pub keeps_refusing_requests : KeepsRefusingRequests
keeps_refusing_requests = request_firm

pub keeps_refusing_responses : KeepsRefusingResponses
keeps_refusing_responses = response_firm

-- what is left for a beginning of bytes that are read
cut_short : {Y : Type 0} (front whole : Result Y Refusal) (r : Y) → whole ≡ Ok r → ((y : Y) → front ≡ Ok y → whole ≡ Err Trailing) → (front ≡ Err Trailing → whole ≡ Err Trailing)
    → (front ≡ Err Choice → whole ≡ Err Choice) → (front ≡ Err Short) ⊎ (front ≡ Err Data)
cut_short (Ok y) whole r e ok trailing choice = let h = ok y refl in absurd cc
cut_short (Err Short) whole r e ok trailing choice = inl refl
cut_short (Err Data) whole r e ok trailing choice = inr refl
cut_short (Err Trailing) whole r e ok trailing choice = let h = trailing refl in absurd cc
cut_short (Err Choice) whole r e ok trailing choice = let h = choice refl in absurd cc

further : (bytes front more rest : List ℕ) (b : ℕ) → bytes ≡ front ++ b ∷ more → bytes ++ rest ≡ front ++ b ∷ (more ++ rest)
further bytes front more rest b e = regrouped bytes front (b ∷ more) rest e

pub tells_beginnings_of_requests : TellsBeginningsOfRequests
tells_beginnings_of_requests bytes more b r h =
    let next : List ℕ = b ∷ more in
    cut_short (request_at bytes) (request_at (bytes ++ next)) r (request_again (bytes ++ next) r h)
    (λ y e. request_again_before bytes next y (request_found bytes y e) ∙ ended_before y b more)
    (λ e. let k = request_followed bytes e in ap request_at (further bytes k.0 k.2 next k.1 k.3) ∙ request_again_before k.0 (k.1 ∷ (k.2 ++ next)) k.4.0 k.4.1 ∙ ended_before k.4.0 k.1 (k.2 ++ next))
    (request_firm bytes next)

pub tells_beginnings_of_responses : TellsBeginningsOfResponses
tells_beginnings_of_responses bytes more b r h =
    let next : List ℕ = b ∷ more in
    cut_short (response_at bytes) (response_at (bytes ++ next)) r (response_again (bytes ++ next) r h)
    (λ y e. response_again_before bytes next y (response_found bytes y e) ∙ ended_before y b more)
    (λ e. let k = response_followed bytes e in ap response_at (further bytes k.0 k.2 next k.1 k.3) ∙ response_again_before k.0 (k.1 ∷ (k.2 ++ next)) k.4.0 k.4.1 ∙ ended_before k.4.0 k.1 (k.2 ++ next))
    (response_firm bytes next)
