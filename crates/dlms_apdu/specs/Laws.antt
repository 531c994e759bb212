-- Laws of reading and writing.
use Rattle.std.specs.Prelude.{◌≡◌, ◌↔◌, ◌⊎◌, ℕ, List, ◌∷◌, ◌++◌, Ok, Err}
use Rattle.dlms_apdu.specs.declared.fault.Refusal.TheVariants.{Short, Choice, Trailing, Data}
use Rattle.dlms_apdu.specs.Forms.{RequestForm, ResponseForm}
use Rattle.dlms_apdu.specs.Reading.{request_at, response_at}
use Rattle.dlms_apdu.specs.Spelling.{SpellsRequest, SpellsResponse}
use Rattle.dlms_apdu.specs.Writing.{request_bytes, response_bytes, RequestFits, RequestInRange, ResponseFits, ResponseInRange}

-- reading from left to right returns a request exactly if the grammar has one
abbrev pub ReadsRequests : Type 0
ReadsRequests = (bytes : List ℕ) (r : RequestForm) → (request_at bytes ≡ Ok r)
    ↔ SpellsRequest bytes r

abbrev pub ReadsResponses : Type 0
ReadsResponses = (bytes : List ℕ) (r : ResponseForm) → (response_at bytes ≡ Ok r)
    ↔ SpellsResponse bytes r

-- two spellings that are the same bytes are of one request
abbrev pub HasOneRequest : Type 0
HasOneRequest = (bytes : List ℕ) (r s : RequestForm) → SpellsRequest bytes r → SpellsRequest bytes s
    → r ≡ s

abbrev pub HasOneResponse : Type 0
HasOneResponse = (bytes : List ℕ) (r s : ResponseForm) → SpellsResponse bytes r
    → SpellsResponse bytes s → r ≡ s

-- the canonical spelling of what can be written is read again
abbrev pub ReadsWrittenRequests : Type 0
ReadsWrittenRequests = (r : RequestForm) → RequestFits r → RequestInRange r
    → request_at (request_bytes r) ≡ Ok r

abbrev pub ReadsWrittenResponses : Type 0
ReadsWrittenResponses = (r : ResponseForm) → ResponseFits r → ResponseInRange r
    → response_at (response_bytes r) ≡ Ok r

-- Trailing is reported exactly if a spelling is followed by more bytes
abbrev pub TellsWhatFollowsARequest : Type 0
TellsWhatFollowsARequest =
    (bytes : List ℕ) → (request_at bytes ≡ Err Trailing)
    ↔ ((front : List ℕ) × (b : ℕ) × (more : List ℕ) × (bytes ≡ front ++ b ∷ more)
    × ((r : RequestForm) × SpellsRequest front r))

abbrev pub TellsWhatFollowsAResponse : Type 0
TellsWhatFollowsAResponse =
    (bytes : List ℕ) → (response_at bytes ≡ Err Trailing)
    ↔ ((front : List ℕ) × (b : ℕ) × (more : List ℕ) × (bytes ≡ front ++ b ∷ more)
    × ((r : ResponseForm) × SpellsResponse front r))

-- Choice is final: whatever bytes follow, it is reported again
abbrev pub KeepsRefusingRequests : Type 0
KeepsRefusingRequests = (bytes more : List ℕ) → request_at bytes ≡ Err Choice
    → request_at (bytes ++ more) ≡ Err Choice

abbrev pub KeepsRefusingResponses : Type 0
KeepsRefusingResponses = (bytes more : List ℕ) → response_at bytes ≡ Err Choice
    → response_at (bytes ++ more) ≡ Err Choice

-- a spelling that is cut short is refused as Short, or as Data if the cut is inside a value
abbrev pub TellsBeginningsOfRequests : Type 0
TellsBeginningsOfRequests =
    (bytes more : List ℕ) (b : ℕ) (r : RequestForm) → SpellsRequest (bytes ++ b ∷ more) r
    → (request_at bytes ≡ Err Short) ⊎ (request_at bytes ≡ Err Data)

abbrev pub TellsBeginningsOfResponses : Type 0
TellsBeginningsOfResponses =
    (bytes more : List ℕ) (b : ℕ) (r : ResponseForm) → SpellsResponse (bytes ++ b ∷ more) r
    → (response_at bytes ≡ Err Short) ⊎ (response_at bytes ≡ Err Data)
