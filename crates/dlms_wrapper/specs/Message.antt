-- The octets of a message (IEC 62056-47, the wrapper protocol data unit).
use Rattle.std.specs.Prelude.{◌≡◌, ◌≢◌, ℕ, ◌/◌, ◌%◌, ◌^◌, ◌<◌, ◌≤◌, List, [], ◌∷◌, ◌++◌, length, drop}
use Rattle.dlms_wrapper.specs.declared.fault.HeaderFault.{HeaderFault}
use Rattle.dlms_wrapper.specs.declared.fault.HeaderFault.TheVariants.{Version, TooLong}
use Rattle.dlms_wrapper.specs.declared.header.Header.{Header}
use Rattle.dlms_wrapper.specs.declared.header.TheConstants.{VERSION}

-- a message: the wrapper ports of its sender and its receiver, and its APDU
pub record Parts : Type 0 where
  pub source : ℕ
  pub dest : ℕ
  pub apdu : List ℕ

-- the eight octets of a header: four numbers, high octet first
abbrev pub header_bytes : Header → List ℕ
header_bytes h =
    h.version / 256 ∷ h.version % 256 ∷ h.source / 256 ∷ h.source % 256 ∷
    h.dest / 256 ∷ h.dest % 256 ∷ h.len / 256 ∷ h.len % 256 ∷ []

-- each number fits in two octets
pub record IsHeader (h : Header) : Type 0 where
  pub version : h.version < 2 ^ 16
  pub source : h.source < 2 ^ 16
  pub dest : h.dest < 2 ^ 16
  pub len : h.len < 2 ^ 16

-- the octets begin with this header
pub record Begins (bytes : List ℕ) (h : Header) : Type 0 where
  pub fits : IsHeader h
  pub text : bytes ≡ header_bytes h ++ drop 8 bytes

-- the header has the wrapper's version, and announces an APDU within the limit
pub record IsAccepted (limit : ℕ) (h : Header) : Type 0 where
  pub version : h.version ≡ VERSION
  pub short : h.len ≤ limit

-- why the header is not accepted: its version, or else its length
abbrev pub RefusesHeader : ℕ → Header → HeaderFault → Type 0
RefusesHeader limit h (Version found) = (found ≡ h.version) × (h.version ≢ VERSION)
RefusesHeader limit h (TooLong len most) = (h.version ≡ VERSION) × (len ≡ h.len) × (most ≡ limit) × (limit < h.len)

-- the header of a message
abbrev pub header_of : Parts → Header
header_of m = record { version = VERSION; source = m.source; dest = m.dest; len = length m.apdu }

-- the octets of a message: its header, then its APDU
abbrev pub message_bytes : Parts → List ℕ
message_bytes m = header_bytes (header_of m) ++ m.apdu

-- the ports fit in two octets, and the APDU has at most `limit` octets
pub record IsMessage (limit : ℕ) (m : Parts) : Type 0 where
  pub source : m.source < 2 ^ 16
  pub dest : m.dest < 2 ^ 16
  pub short : length m.apdu ≤ limit
