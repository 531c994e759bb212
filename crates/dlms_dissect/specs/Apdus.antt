-- The report of an APDU is the result of the reader of its kind.
use Rattle.std.specs.Prelude.{◌≡◌, Bool, true, false, codes, ◌==◌, ◌&&◌, ◌||◌, ℕ, List, Option, Some, None, IsOkAnd, get_or, if◌then◌else◌, length, nat_lt}
use Rattle.dlms_acse.specs.declared.outcome.Verdict.{Verdict}
use Rattle.dlms_acse.specs.Reading.{aarq_at, aare_at}
use Rattle.dlms_acse.specs.Spelling.{IsAarq, IsAare}
use Rattle.dlms_acse.specs.Verdict.{Request, request_of as said_by}
use Rattle.dlms_apdu.specs.Forms.{RequestForm, ResponseForm}
use Rattle.dlms_apdu.specs.Reading.{HoldsData, HoldsValue, request_at, response_at}
use Rattle.dlms_apdu.specs.Spelling.{SpellsRequest, SpellsResponse}
use Rattle.dlms_apdu.specs.View.{request_of, response_of}
use Rattle.dlms_dissect.specs.declared.apdus.Apdu.{Apdu}
use Rattle.dlms_dissect.specs.declared.apdus.Kind.{Kind}
use Rattle.dlms_dissect.specs.declared.apdus.Kind.TheVariants as kind
use Rattle.dlms_dissect.specs.declared.parties.Side.{Side}
use Rattle.dlms_dissect.specs.declared.parties.Side.TheVariants.{Client, Meter}
use Rattle.dlms_dissect.specs.declared.apdus.Apdu.TheVariants as apdu
use Rattle.dlms_dissect.specs.Acse.{is_counted}
use Rattle.dlms_dissect.specs.Foreign.{IsForeign, IsNoForm}
use Rattle.dlms_dissect.specs.Places.{IsAcseFault, IsRefusal}

-- the bytes are not of a kind
abbrev pub IsNoAarq : List ℕ → Type 0
IsNoAarq bytes = (r : Request) → IsAarq bytes r → ⊥

abbrev pub IsNoAare : List ℕ → Type 0
IsNoAare bytes = (v : Verdict) → IsAare bytes v → ⊥

abbrev pub IsNoRequest : List ℕ → Type 0
IsNoRequest bytes = (r : RequestForm) → SpellsRequest bytes r → ⊥

abbrev pub IsNoResponse : List ℕ → Type 0
IsNoResponse bytes = (r : ResponseForm) → SpellsResponse bytes r → ⊥

-- The report of an association request at the front of these bytes: its content, or that they are none. The same for the others. It
-- also states what is wrong, and for a service's APDU where.
abbrev pub IsToldOfAarq : {A : Type 0} → List ℕ → Apdu A → Type 0
IsToldOfAarq bytes (apdu.AssociationRequest a) = IsAarq bytes (said_by a)
IsToldOfAarq bytes (apdu.Unreadable f) = IsNoAarq bytes × IsAcseFault (aarq_at bytes) f
IsToldOfAarq bytes _ = ⊥

abbrev pub IsToldOfAare : {A : Type 0} → List ℕ → Apdu A → Type 0
IsToldOfAare bytes (apdu.AssociationResponse v) = IsAare bytes v
IsToldOfAare bytes (apdu.Unreadable f) = IsNoAare bytes × IsAcseFault (aare_at bytes) f
IsToldOfAare bytes _ = ⊥

abbrev pub IsToldOfRequest : {A : Type 0} → List ℕ → Apdu A → Type 0
IsToldOfRequest bytes (apdu.Request r) = SpellsRequest bytes (request_of r)
IsToldOfRequest bytes (apdu.Foreign f) = IsNoRequest bytes × IsForeign bytes (Some f)
IsToldOfRequest bytes (apdu.Unreadable f) = IsNoRequest bytes × IsNoForm bytes
    × IsRefusal Client bytes f
IsToldOfRequest bytes _ = ⊥

abbrev pub IsToldOfResponse : {A : Type 0} → List ℕ → Apdu A → Type 0
IsToldOfResponse bytes (apdu.Response r) = SpellsResponse bytes (response_of r)
IsToldOfResponse bytes (apdu.Foreign f) = IsNoResponse bytes × IsForeign bytes (Some f)
IsToldOfResponse bytes (apdu.Unreadable f) = IsNoResponse bytes × IsNoForm bytes
    × IsRefusal Meter bytes f
IsToldOfResponse bytes _ = ⊥

-- by its sender
abbrev pub kind_by : Option Side → Kind
kind_by None = kind.Request
kind_by (Some Client) = kind.Request
kind_by (Some Meter) = kind.Response

-- Which reader an APDU is given to, by its first octet (IEC 62056-5-3: the tags of AARQ 0x60, AARE 0x61, RLRQ 0x62 and RLRE 0x63,
-- of the requests 0xC0, 0xC1, 0xC3, of the responses 0xC4, 0xC5, 0xC7, and of the exception 0xD8), and for any other octet by the
-- side that sent it.
abbrev pub kind_of : Option Side → ℕ → Kind
kind_of side octet =
    if octet == 0x60 then kind.AssociationRequest
    else (if octet == 0x61 then kind.AssociationResponse
    else (if octet == 0x62 then kind.ReleaseRequest
    else (if octet == 0x63 then kind.ReleaseResponse
    else (if (octet == 0xC4) || (octet == 0xC5) || (octet == 0xC7) || (octet == 0xD8)
    then kind.Response
    else (if (octet == 0xC0) || (octet == 0xC1) || (octet == 0xC3) then kind.Request
    else kind_by side)))))

-- the reason of a release, if one follows the tag 0x80 and its length 0x01
abbrev pub reason_of : List ℕ → Option ℕ
reason_of bytes = if nat_lt 4
    (length bytes) && (get_or bytes 2 0 == 0x80) && (get_or bytes 3 0 == 1)
    then Some (get_or bytes 4 0) else None

-- a release is reported if its length counts all bytes after it
abbrev pub IsUncounted : {A : Type 0} → Apdu A → Type 0
IsUncounted (apdu.Unreadable f) = (f.words.now ≡ codes "no length counts the bytes after it")
    × (f.octet ≡ 2)
IsUncounted _ = ⊥

abbrev pub IsRelease : {A : Type 0} → Bool → Apdu A → Apdu A → Type 0
IsRelease true release told = told ≡ release
IsRelease false release told = IsUncounted told

-- The report of bytes is the result of the reader of this kind, or that it reads nothing.
abbrev pub IsToldAs : {A : Type 0} → Kind → List ℕ → Apdu A → Type 0
IsToldAs kind.AssociationRequest bytes a = IsToldOfAarq bytes a
IsToldAs kind.AssociationResponse bytes a = IsToldOfAare bytes a
IsToldAs kind.ReleaseRequest bytes a =
    IsRelease (is_counted bytes) (apdu.ReleaseRequest (reason_of bytes)) a
IsToldAs kind.ReleaseResponse bytes a =
    IsRelease (is_counted bytes) (apdu.ReleaseResponse (reason_of bytes)) a
IsToldAs kind.Request bytes a = IsToldOfRequest bytes a
IsToldAs kind.Response bytes a = IsToldOfResponse bytes a

-- the bytes are a request, or a response, that holds a value which needs memory
abbrev pub RequestNeedsMemory : List ℕ → Type 0
RequestNeedsMemory bytes = IsOkAnd (request_at bytes) HoldsValue

abbrev pub ResponseNeedsMemory : List ℕ → Type 0
ResponseNeedsMemory bytes = IsOkAnd (response_at bytes) HoldsData
