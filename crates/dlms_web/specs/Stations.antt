-- The stations that the page sends, 41 octets each.
use Rattle.std.specs.Prelude.{◌≡◌, ◌≤◌, ◌*◌, ◌/◌, ◌%◌, ◌==◌, if◌then◌else◌, ℕ, List, [], ◌∷◌, Option, Some, None, length, take, drop, map, get_or}
use Rattle.core.specs.Simd.{first_chunks}
use Rattle.dlms_keys.specs.declared.station.Station.{Station}

-- an authentication key, unless the octet before it is 0
abbrev pub key_if : ℕ → List ℕ → Option (List ℕ)
key_if octet key = if octet == 0 then None else Some key

-- a system title of 8 octets, an encryption key of 16, an octet that is 0 if there is no authentication key, and that key of 16
abbrev pub station_in : List ℕ → Station
station_in octets = record {
  title = take 8 octets;
  encryption_key = take 16 (drop 8 octets);
  authentication_key = key_if (get_or octets 24 0) (take 16 (drop 25 octets));
}

abbrev pub stations_in : List ℕ → List Station
stations_in octets = map station_in (first_chunks 41 (length octets / 41) octets)

-- the stations of a keyring; no octets are no stations
abbrev pub keyring_in : List ℕ → Option (List Station)
keyring_in [] = None
keyring_in (octet ∷ rest) = Some (stations_in (octet ∷ rest))

-- octets of at most 256 stations
pub record AreStations (octets : List ℕ) : Type 0 where
  pub whole : length octets % 41 ≡ 0
  pub most : length octets ≤ 41 * 256
