-- The spellings of an association's fields: which bytes represent them (BER, ISO/IEC 8825-1, with tags of one byte and definite
-- lengths).
use Rattle.std.specs.Prelude.{◌≡◌, ◌≢◌, ℕ, ◌<◌, ◌≤◌, ◌+◌, ◌*◌, ◌⊎◌, ◌==◌, if◌then◌else◌, Bool, true, false, List, [], ◌∷◌, ◌++◌, length, Option, Some, None}
use Rattle.byteorder.specs.Endian.{big_number}
use Rattle.dlms_frame.specs.declared.client.Client.{Client}
use Rattle.dlms_frame.specs.Client.{has_secret}
use Rattle.dlms_acse.specs.declared.aarq.Initiate.{Initiate}
use Rattle.dlms_acse.specs.declared.aarq.Mechanism.{Mechanism}
use Rattle.dlms_acse.specs.declared.aarq.Mechanism.TheVariants.{Absent, Lowest, Low, Other}
use Rattle.dlms_acse.specs.declared.conformance.Conformance.{Conformance}
use Rattle.dlms_acse.specs.declared.outcome.Verdict.{Verdict}
use Rattle.dlms_acse.specs.declared.outcome.Verdict.TheVariants.{Accepted, Refused}
use Rattle.dlms_acse.specs.Verdict.{Request}
use Rattle.dlms_acse.specs.Reading.{contains}
use Rattle.dlms_acse.specs.Services.{lower}
use Rattle.dlms_acse.specs.Writing.{logical_names, mechanism_name}
use Rattle.dlms_acse.specs.declared.judging.TheConstants.{MOST_SIZE}

-- one byte below 128, or 81 for one byte, 82 for two and so on, up to the limit
abbrev pub IsLength : ℕ → List ℕ → ℕ → Type 0
IsLength most [] n = ⊥
IsLength most (b ∷ []) n = (b < 0x80) × (n ≡ b)
IsLength most (b ∷ c ∷ more) n = (length more < most) × (b ≡ 0x81 + length more)
    × (n ≡ big_number (length (c ∷ more)) (c ∷ more))

-- a length, and that many bytes after it
abbrev pub Counts : ℕ → List ℕ → List ℕ → Type 0
Counts most text content = (len : List ℕ) × (text ≡ len ++ content)
    × IsLength most len (length content)

-- a field: its tag, and its content
pub record Field : Type 0 where
  pub tag : ℕ
  pub value : List ℕ

-- the fields one after another
abbrev pub SpellFields : List ℕ → List Field → Type 0
SpellFields bytes [] = bytes ≡ []
SpellFields bytes (f ∷ fs) = (text rest : List ℕ) × (bytes ≡ f.tag ∷ (text ++ rest))
    × Counts 2 text f.value × SpellFields rest fs

-- each tag occurs once: none is among the earlier ones
abbrev pub AreNew : List ℕ → List Field → Type 0
AreNew tags [] = Unit {0}
AreNew tags (f ∷ fs) = (contains f.tag tags ≡ false) × AreNew (f.tag ∷ tags) fs

-- an APDU: its tag, and the fields that its length counts
abbrev pub IsApdu : ℕ → List ℕ → List Field → Type 0
IsApdu tag bytes fs = (text body : List ℕ) × (bytes ≡ tag ∷ text) × Counts 2 text body
    × SpellFields body fs × AreNew [] fs

-- the value of the field with this tag
abbrev pub value_of : ℕ → List Field → Option (List ℕ)
value_of tag [] = None
value_of tag (f ∷ fs) = if f.tag == tag then Some f.value else value_of tag fs

-- ---- what stands in the fields

-- a secret of at most 16 bytes
abbrev pub IsSecret : List ℕ → List ℕ → Type 0
IsSecret value secret = (text : List ℕ) × (value ≡ 0x80 ∷ text) × Counts 2 text secret
    × (length secret ≤ 16)

-- a dedicated key: 00, or 01 and a length with the key
abbrev pub IsKey : List ℕ → Type 0
IsKey text = (text ≡ 0x00 ∷ [])
    ⊎ ((counted key : List ℕ) × (text ≡ 0x01 ∷ counted) × Counts 4 counted key)

-- an option of one byte: 00, or 01 and the byte
abbrev pub IsOption : List ℕ → Type 0
IsOption text = (text ≡ 0x00 ∷ []) ⊎ ((b : ℕ) × (text ≡ 0x01 ∷ b ∷ []))

-- the head of the conformance block: its tag, its length and no unused bits; or with the tag's first byte alone
abbrev pub IsHead : List ℕ → Type 0
IsHead text = (text ≡ 0x5F ∷ 0x1F ∷ 0x04 ∷ 0x00 ∷ []) ⊎ (text ≡ 0x5F ∷ 0x04 ∷ 0x00 ∷ [])

-- after a version and that head: three bytes of conformance, two of the size
abbrev pub IsBlock : List ℕ → Initiate → Type 0
IsBlock text i = (h m l s t : ℕ) × (text ≡ h ∷ m ∷ l ∷ s ∷ t ∷ [])
    × (i.conformance ≡ record { 0 = 65536 * h + 256 * m + l }) × (i.size ≡ 256 * s + t)

-- An initiate request: a key, whether a response is allowed, a quality of service, the version, conformance and size
-- (IEC 62056-5-3, InitiateRequest in A-XDR).
abbrev pub SpellsInitiate : List ℕ → Initiate → Type 0
SpellsInitiate bytes i = (key response quality head block : List ℕ)
    × (bytes ≡ 0x01 ∷ (key ++ (response ++ (quality ++ (i.version ∷ (head ++ block))))))
    × IsKey key × IsOption response × IsOption quality × IsHead head × IsBlock block i

-- the field with an initiate request
abbrev pub IsInitiate : List ℕ → Initiate → Type 0
IsInitiate value i = (text content : List ℕ) × (value ≡ 0x04 ∷ text) × Counts 2 text content
    × SpellsInitiate content i

-- ---- the association request

-- whether the field with the application context is there, and names the one with logical names and without ciphering
abbrev pub IsContext : Option (List ℕ) → Bool → Type 0
IsContext None context = context ≡ false
IsContext (Some name) true = name ≡ logical_names
IsContext (Some name) false = name ≢ logical_names

-- which mechanism the field names, if it is there
abbrev pub IsMechanism : Option (List ℕ) → Mechanism → Type 0
IsMechanism None mechanism = mechanism ≡ Absent
IsMechanism (Some name) Absent = ⊥
IsMechanism (Some name) Lowest = name ≡ mechanism_name 0
IsMechanism (Some name) Low = name ≡ mechanism_name 1
IsMechanism (Some name) Other = (name ≢ mechanism_name 0) × (name ≢ mechanism_name 1)

-- the content of a field, if it is there and spells something
abbrev pub Holds : {X : Type 0} → (List ℕ → X → Type 0) → Option (List ℕ) → Option X → Type 0
Holds {X} spells None held = held ≡ None
Holds {X} spells (Some value) None = (x : X) → spells value x → ⊥
Holds spells (Some value) (Some x) = spells value x

-- what the fields with these values say
pub record SaysRequest (value : ℕ → Option (List ℕ)) (r : Request) : Type 0 where
  pub context : IsContext (value 0xA1) r.context
  pub mechanism : IsMechanism (value 0x8B) r.mechanism
  pub secret : Holds IsSecret (value 0xAC) r.secret
  pub initiate : Holds IsInitiate (value 0xBE) r.initiate

-- An association request: an APDU whose fields say this.
abbrev pub IsAarq : List ℕ → Request → Type 0
IsAarq bytes r = (fs : List Field) × IsApdu 0x60 bytes fs × SaysRequest (λ tag. value_of tag fs) r

-- ---- the response to it

-- the result, an integer: 0 accepted, others rejected
abbrev pub IsResult : List ℕ → ℕ → Type 0
IsResult value result = value ≡ 0x02 ∷ 0x01 ∷ result ∷ []

-- a diagnostic of the service user, an integer
abbrev pub IsDiagnostic : List ℕ → ℕ → Type 0
IsDiagnostic value diagnostic = value ≡ 0xA1 ∷ 0x03 ∷ 0x02 ∷ 0x01 ∷ diagnostic ∷ []

-- An initiate response: no quality of service, version 6, conformance and size, the variable access name for logical names
-- (IEC 62056-5-3, InitiateResponse in A-XDR).
abbrev pub SpellsAnswer : List ℕ → Conformance → ℕ → Type 0
SpellsAnswer bytes conformance size = (h m l s t : ℕ)
    × (bytes ≡ 0x08 ∷ 0x00 ∷ 0x06 ∷ 0x5F ∷ 0x1F ∷ 0x04 ∷ 0x00 ∷ h ∷ m ∷ l ∷ s ∷ t ∷ 0x00 ∷ 0x07
    ∷ [])
    × (conformance ≡ record { 0 = 65536 * h + 256 * m + l }) × (size ≡ 256 * s + t)

-- the field with an initiate response
abbrev pub IsAnswer : List ℕ → Conformance → ℕ → Type 0
IsAnswer value conformance size = (text content : List ℕ) × (value ≡ 0x04 ∷ text)
    × Counts 2 text content × SpellsAnswer content conformance size

-- the field with a confirmed service error of the initiate service
abbrev pub IsError : List ℕ → ℕ → Type 0
IsError value error = (text content : List ℕ) × (value ≡ 0x04 ∷ text) × Counts 2 text content
    × (content ≡ 0x0E ∷ 0x01 ∷ 0x06 ∷ error ∷ [])

-- a field is there, and this is so of its value
abbrev pub IsThere : Option (List ℕ) → (List ℕ → Type 0) → Type 0
IsThere None says = ⊥
IsThere (Some value) says = says value

-- the verdict by result, diagnostic and user information: result 0 means accepted, as the initiate response says; any other means
-- refused, with the initiate error if there is one
abbrev pub Judges : ℕ → ℕ → Option (List ℕ) → Verdict → Type 0
Judges result diagnostic user (Accepted conformance size) = (result ≡ 0)
    × IsThere user (λ value. IsAnswer value conformance size)
Judges result diagnostic user (Refused told error) = (result ≢ 0) × (told ≡ diagnostic)
    × Holds IsError user error

-- what the fields with these values say
abbrev pub SaysVerdict : (ℕ → Option (List ℕ)) → Verdict → Type 0
SaysVerdict value v = (result diagnostic : ℕ)
    × IsThere (value 0xA2) (λ b. IsResult b result)
    × IsThere (value 0xA3) (λ b. IsDiagnostic b diagnostic)
    × Judges result diagnostic (value 0xBE) v

-- The response: an APDU whose fields say this.
abbrev pub IsAare : List ℕ → Verdict → Type 0
IsAare bytes v = (fs : List Field) × IsApdu 0x61 bytes fs × SaysVerdict (λ tag. value_of tag fs) v

-- ---- what is written

-- what a written request says: version 6, the lower 24 bits, and of management the low-level secret
abbrev pub asked : Client → List ℕ → ℕ → ℕ → Request
asked client secret bits size = record {
  context = true;
  mechanism = if has_secret client then Low else Absent;
  secret = if has_secret client then Some secret else None;
  initiate = Some (record { version = 6; conformance = record { 0 = lower bits }; size = size });
}

-- what a written response says: an accepted one the lower 24 bits, and always the size 1,024
abbrev pub answered : Verdict → Verdict
answered (Accepted conformance size) = Accepted (record { 0 = lower conformance.0 }) MOST_SIZE
answered (Refused diagnostic initiate) = Refused diagnostic initiate
