-- Reading from left to right, with the first fault that is met.
use Rattle.std.specs.Prelude.{◌≡◌, ℕ, zero, suc, ◌+◌, ◌-◌, ◌*◌, ◌==◌, ◌&&◌, ◌||◌, if◌then◌else◌, Bool, false, nat_lt, List, [], ◌∷◌, length, take, drop, Result, Ok, Err, Option, Some, None}
use Rattle.std.specs.Str.{bytes_eq}
use Rattle.byteorder.specs.Endian.{big_number}
use Rattle.dlms_acse.specs.declared.fault.AcseFault.{AcseFault}
use Rattle.dlms_acse.specs.declared.fault.AcseFault.TheVariants.{Short, Tag, Length, Repeated}
use Rattle.dlms_acse.specs.declared.aarq.Initiate.{Initiate}
use Rattle.dlms_acse.specs.declared.aarq.Mechanism.{Mechanism}
use Rattle.dlms_acse.specs.declared.aarq.Mechanism.TheVariants.{Absent, Lowest, Low, Other}
use Rattle.dlms_acse.specs.declared.outcome.Verdict.{Verdict}
use Rattle.dlms_acse.specs.declared.outcome.Verdict.TheVariants.{Accepted, Refused}
use Rattle.dlms_acse.specs.Verdict.{Request}
use Rattle.dlms_axdr.specs.declared.fault.DataFault.{DataFault}
use Rattle.dlms_axdr.specs.declared.fault.DataFault.TheVariants as xdr
use Rattle.dlms_acse.specs.Writing.{logical_names, mechanism_name}

infixl 10 ◌>>=◌
abbrev pub ◌>>=◌ : {A B : Type 0} → Result A AcseFault → (A → Result B AcseFault)
    → Result B AcseFault
(Ok x) >>= f = f x
(Err e) >>= f = Err e

-- the result of a function, as its view shows it, is the result of reading
abbrev pub Tells : {X Y : Type 0} → (X → Y) → Result X AcseFault → Result Y AcseFault → Type 0
Tells view (Ok x) read = read ≡ Ok (view x)
Tells view (Err e) read = read ≡ Err e

-- The result of reading, and the bytes after it.
unfoldable pub taken_at : ℕ → List ℕ → Result (List ℕ × List ℕ) AcseFault
taken_at n bytes = if nat_lt (length bytes) n then Err Short else Ok (take n bytes, drop n bytes)

unfoldable pub number_at : ℕ → List ℕ → Result (ℕ × List ℕ) AcseFault
number_at n bytes = taken_at n bytes >>= λ t. Ok (big_number n t.0, t.1)

-- a byte below 128, or the number of bytes after it that are the length: 81 for one and so on, up to the limit
unfoldable pub length_at : ℕ → List ℕ → Result (ℕ × List ℕ) AcseFault
length_at most [] = Err Short
length_at most (b ∷ rest) =
    if nat_lt b 0x80 then Ok (b, rest)
    else (if nat_lt b 0x81 || nat_lt (0x80 + most) b then Err Length
    else number_at (b - 0x80) rest)

-- a length begins here that has more octets than the limit
abbrev pub is_longer : ℕ → List ℕ → Bool
is_longer most [] = false
is_longer most (b ∷ rest) = nat_lt (0x80 + most) b

-- the fault for a fault that dlms_data finds in a length and its content
abbrev pub told : DataFault → AcseFault
told xdr.Short = Short
told xdr.Tag = Length
told xdr.Length = Length
told xdr.Depth = Length
told xdr.Memory = Length

unfoldable pub octets_at : ℕ → List ℕ → Result (List ℕ × List ℕ) AcseFault
octets_at most bytes = length_at most bytes >>= λ n. taken_at n.0 n.1

-- whether a tag is among these
abbrev pub contains : ℕ → List ℕ → Bool
contains tag [] = false
contains tag (t ∷ ts) = (t == tag) || contains tag ts

-- Whether fields are here, none of whose tags is among the earlier ones. The number bounds how many fields are read.
abbrev pub checked_at : ℕ → List ℕ → List ℕ → Result (Unit {0}) AcseFault
checked_at n tags [] = Ok tt
checked_at zero tags (t ∷ rest) = Ok tt
checked_at (suc n) tags (t ∷ rest) =
    if contains t tags then Err Repeated
    else (octets_at 2 rest >>= λ x. checked_at n (t ∷ tags) x.1)

-- the value of the first field with this tag
abbrev pub found_at : Bool → (List ℕ → Option (List ℕ)) → Result (List ℕ × List ℕ) AcseFault
    → Option (List ℕ)
found_at here further (Ok x) = if here then Some x.0 else further x.1
found_at here further (Err e) = None

abbrev pub find_at : ℕ → ℕ → List ℕ → Option (List ℕ)
find_at n tag [] = None
find_at zero tag (t ∷ rest) = None
find_at (suc n) tag (t ∷ rest) = found_at (t == tag) (find_at n tag) (octets_at 2 rest)

-- the fields of an APDU with this tag: nothing follows them
abbrev pub ended : List ℕ × List ℕ → Result (List ℕ) AcseFault
ended x = if length x.1 == 0 then Ok x.0 else Err Length

unfoldable pub body_at : ℕ → List ℕ → Result (List ℕ) AcseFault
body_at tag [] = Err Short
body_at tag (t ∷ rest) =
    if t == tag then (octets_at 2 rest >>= λ x. checked_at (length x.0) [] x.0 >>= λ u. ended x)
    else Err Tag

-- ---- the content of the fields

abbrev pub on_some : {A B : Type 0} → Option A → (A → Option B) → Option B
on_some None f = None
on_some (Some x) f = f x

abbrev pub ok_of : {A : Type 0} → Result A AcseFault → Option A
ok_of (Ok x) = Some x
ok_of (Err e) = None

-- one field with this tag, and nothing after it: its value
abbrev pub alone : List ℕ × List ℕ → Option (List ℕ)
alone x = if length x.1 == 0 then Some x.0 else None

unfoldable pub inner_at : ℕ → List ℕ → Option (List ℕ)
inner_at tag [] = None
inner_at tag (t ∷ rest) = if t == tag then on_some (ok_of (octets_at 2 rest)) alone else None

abbrev pub is_context : Option (List ℕ) → Bool
is_context None = false
is_context (Some name) = bytes_eq name logical_names

abbrev pub mechanism_of : Option (List ℕ) → Mechanism
mechanism_of None = Absent
mechanism_of (Some name) =
    if bytes_eq name (mechanism_name 0) then Lowest else if bytes_eq name (mechanism_name 1)
    then Low else Other

-- a secret of at most 16 bytes
unfoldable pub secret_at : List ℕ → Option (List ℕ)
secret_at value = on_some (inner_at 0x80 value) (λ secret. if nat_lt 16 (length secret) then None
    else Some secret)

-- after a dedicated key: 00, or 01 and a length with the key
unfoldable pub key_at : List ℕ → Option (List ℕ)
key_at [] = None
key_at (o ∷ rest) =
    if o == 0 then Some rest
    else if o == 1 then on_some (ok_of (octets_at 4 rest)) (λ x. Some x.1)
    else None

-- after an option: 00, or 01 and a byte
unfoldable pub option_at : List ℕ → Option (List ℕ)
option_at [] = None
option_at (o ∷ []) = if o == 0 then Some [] else None
option_at (o ∷ b ∷ rest) = if o == 0 then Some (b ∷ rest) else if o == 1 then Some rest else None

-- the conformance bits and the size, and nothing after them
unfoldable pub block_at : ℕ → List ℕ → Option Initiate
block_at version (h ∷ m ∷ l ∷ s ∷ t ∷ []) =
    Some (record {
      version = version;
      conformance = record { 0 = 65536 * h + 256 * m + l };
      size = 256 * s + t;
    })
block_at version _ = None

-- the version, and the head of the conformance block in its own form or in the shorter one
unfoldable pub proposal_at : List ℕ → Option Initiate
proposal_at (v ∷ a ∷ b ∷ c ∷ d ∷ rest) =
    if (a == 0x5F) && (b == 0x1F) && (c == 0x04) && (d == 0x00) then block_at v rest
    else if (a == 0x5F) && (b == 0x04) && (c == 0x00) then block_at v (d ∷ rest)
    else None
proposal_at _ = None

unfoldable pub request_at : List ℕ → Option Initiate
request_at [] = None
request_at (t ∷ rest) =
    if t == 1 then on_some (on_some (on_some (key_at rest) option_at) option_at) proposal_at
    else None

unfoldable pub initiate_at : List ℕ → Option Initiate
initiate_at value = on_some (inner_at 4 value) request_at

-- the meaning of fields with these values
abbrev pub request_from : (ℕ → Option (List ℕ)) → Request
request_from value = record {
  context = is_context (value 0xA1);
  mechanism = mechanism_of (value 0x8B);
  secret = on_some (value 0xAC) secret_at;
  initiate = on_some (value 0xBE) initiate_at;
}

abbrev pub aarq_at : List ℕ → Result Request AcseFault
aarq_at bytes = body_at 0x60 bytes >>= λ body. Ok
    (request_from (λ tag. find_at (length body) tag body))

-- ---- the response

-- 0 accepted, others rejected
abbrev pub result_at : List ℕ → Option ℕ
result_at (a ∷ b ∷ r ∷ []) = if (a == 0x02) && (b == 0x01) then Some r else None
result_at _ = None

-- a diagnostic of the service user
abbrev pub diagnostic_at : List ℕ → Option ℕ
diagnostic_at (a ∷ b ∷ c ∷ d ∷ n ∷ []) = if (a == 0xA1) && (b == 0x03) && (c == 0x02) && (d == 0x01)
    then Some n else None
diagnostic_at _ = None

-- an initiate response: version 6, and after bits and size the variable access name for logical names
unfoldable pub response_at : List ℕ → Option Verdict
response_at (a ∷ b ∷ v ∷ c ∷ d ∷ e ∷ f ∷ h ∷ m ∷ l ∷ s ∷ t ∷ y ∷ z ∷ []) =
    if (a == 0x08) && (b == 0x00) && (v == 0x06) && (c == 0x5F) && (d == 0x1F) && (e == 0x04) && (f == 0x00) && (y == 0x00) && (z == 0x07)
    then Some (Accepted (record { 0 = 65536 * h + 256 * m + l }) (256 * s + t))
    else None
response_at _ = None

-- an initiate error
unfoldable pub error_at : List ℕ → Option ℕ
error_at (a ∷ b ∷ c ∷ n ∷ []) = if (a == 0x0E) && (b == 0x01) && (c == 0x06) then Some n else None
error_at _ = None

abbrev pub or_short : {A : Type 0} → Option A → Result A AcseFault
or_short (Some x) = Ok x
or_short None = Err Short

-- the meaning of fields with these values: a required one that is absent, or has another form, is missing
abbrev pub answer_from : ℕ → ℕ → Option (List ℕ) → Result Verdict AcseFault
answer_from r d user =
    if r == 0 then or_short (on_some (on_some user (inner_at 0x04)) response_at)
    else Ok (Refused d (on_some (on_some user (inner_at 0x04)) error_at))

abbrev pub verdict_from : (ℕ → Option (List ℕ)) → Result Verdict AcseFault
verdict_from value =
    or_short (on_some (value 0xA2) result_at) >>= λ r. or_short
    (on_some (value 0xA3) diagnostic_at) >>= λ d. answer_from r d (value 0xBE)

abbrev pub aare_at : List ℕ → Result Verdict AcseFault
aare_at bytes = body_at 0x61 bytes >>= λ body. verdict_from (λ tag. find_at (length body) tag body)
