-- One station more.
use Rattle.std.proofs.Common.{◌≡◌, ◌∙◌, ◌<◌, ◌+◌, sym, ap, ℕ, List, [], ◌∷◌, ◌++◌, map, take, length, get_or}
use Rattle.std.proofs.lemmas.List.{map_push, take_more}
use Rattle.dlms_web.specs.Stations.{station_in}

pub stations_more : (parts : List (List ℕ)) (i : ℕ) (d : List ℕ) → i < length parts → map station_in (take i parts) ++ station_in (get_or parts i d) ∷ [] ≡ map station_in (take (i + 1) parts)
stations_more parts i d within = sym (map_push station_in (take i parts) (get_or parts i d)) ∙ sym (ap (map station_in) (take_more parts i d within))
