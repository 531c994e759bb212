-- Addresses of a host and a port, as HOST:PORT, and devices of serial lines, as /dev/ttyUSB0; and
-- places, which may name a carrier before one of these, as wrapper://HOST:PORT.
use Rattle.std.specs.Char.{is_ascii_alphanumeric}
use Rattle.std.specs.Prelude.{◌≡◌, ◌⊎◌, ◌+◌, ◌<◌, ◌^◌, ◌||◌, ◌&&◌, ℕ, nat_eq, nat_lt, is_some, IsTrue, Bool, false, List, [], ◌∷◌, length, drop, get_or, codes, Option, Some, None, if◌then◌else◌}
use Rattle.std.specs.List.{after_first, before_first, list_all, list_any, starts_with}
use Rattle.std.specs.Str.{bytes_eq}
use lib.Dec.{eqb}
use Rattle.dlms_words.specs.Numbers.{IsNumberOf}

-- the digits of a number of 16 bits
abbrev pub IsPort : List ℕ → Type 0
IsPort digits = (port : ℕ) × (port < 2 ^ 16) × IsNumberOf digits port

-- there is a colon at this place, followed by a port
abbrev pub EndsHost : List ℕ → ℕ → Type 0
EndsHost text at = (get_or text at 0 ≡ 58) × IsPort (drop (at + 1) text)

-- a host of at least one octet ends somewhere, followed by a port
pub record IsAddress (text : List ℕ) : Type 0 where
  pub at : ℕ
  pub host : 0 < at
  pub within : at < length text
  pub ends : EndsHost text at

-- a path from the root on
abbrev pub is_device : List ℕ → Bool
is_device [] = false
is_device (octet ∷ octets) = nat_eq octet 47

-- ---- places

abbrev pub is_colon : ℕ → Bool
is_colon octet = eqb octet 58

-- a place names a carrier if two slashes follow its first colon
abbrev pub names_carrier : List ℕ → Bool
names_carrier place = starts_with eqb (after_first is_colon place) (codes "//")

-- the carrier's name is before the colon, and the line after the slashes; any other place is a line
abbrev pub carrier_of : List ℕ → Option (List ℕ)
carrier_of place = if names_carrier place then Some (before_first is_colon place) else None

abbrev pub line_of : List ℕ → List ℕ
line_of place = if names_carrier place then drop 2 (after_first is_colon place) else place

-- ---- a host without a port, which is that of DLMS/COSEM then

abbrev pub is_host_octet : ℕ → Bool
is_host_octet octet =
    is_ascii_alphanumeric octet || (eqb octet 45 || (eqb octet 46 || eqb octet 95))

-- an address in brackets
abbrev pub is_bracketed : List ℕ → Bool
is_bracketed [] = false
is_bracketed (octet ∷ octets) = nat_eq octet 91

-- localhost, an address in brackets, a name with a point in it, or after a carrier any name
abbrev pub is_host : Bool → List ℕ → Bool
is_host has_carrier line = bytes_eq line (codes "localhost") || (is_bracketed line
    || (list_all is_host_octet line
    && (list_any (λ octet. eqb octet 46) line || (has_carrier && nat_lt 0 (length line)))))

-- the line of a place is a device, a host with a port, or a host alone
abbrev pub IsPlace : List ℕ → Type 0
IsPlace place = IsTrue (is_device (line_of place)) ⊎ IsAddress (line_of place)
    ⊎ IsTrue (is_host (is_some (carrier_of place)) (line_of place))
