-- Values that say stations, one more at a time.
use Rattle.std.proofs.Common.{◌≡◌, ◌<◌, ◌+◌, ◌-◌, ◌∙◌, ℕ, ap, arith, sym, subst, inr, List, [], ◌∷◌, ◌++◌, length, map, take, get_or, slice_get, Some, option_map}
use Rattle.std.proofs.lemmas.List.{map-append, take_more}
use Rattle.std.proofs.lemmas.Option.{slice_get-get_or, slice_get-map}
use Rattle.toml.specs.Data.{Data}
use Rattle.toml.specs.View.{view}
use Rattle.toml.specs.declared.value.Value.{Value}
use Rattle.dlms_keys.specs.Keyring.{IsRefusedList, IsRefusedValue, SayStations, SaysValue}
use Rattle.dlms_keys.specs.declared.fault.StationsFault.{StationsFault}
use Rattle.dlms_keys.specs.declared.station.Station.{Station}

pub says_append : (ds : List Data) (ss : List Station) (d : Data) (s : Station) → SayStations ds ss → SaysValue d s
    → SayStations (ds ++ d ∷ []) (ss ++ s ∷ [])
says_append [] [] d s says one = (one, tt)
says_append (e ∷ ds) (t ∷ ss) d s says one = (says.0, says_append ds ss d s says.1 one)
says_append [] (t ∷ ss) d s says one = absurd says
says_append (e ∷ ds) [] d s says one = absurd says

-- the values so far and the one at the next place
pub says_more : (vs : List Value) (i : ℕ) (v : Value) (ss : List Station) (s : Station) → i < length vs → v ≡ get_or vs i v
    → SayStations (map view (take i vs)) ss → SaysValue (view v) s → SayStations (map view (take (i + 1) vs)) (ss ++ s ∷ [])
says_more vs i v ss s below is says one =
    let more : take (i + 1) vs ≡ take i vs ++ v ∷ [] = take_more vs i v below ∙ ap (λ (w : Value). take i vs ++ w ∷ []) (sym is) in
    let mapped : map view (take (i + 1) vs) ≡ map view (take i vs) ++ view v ∷ [] =
    ap (map view) more ∙ map-append view (take i vs) (v ∷ []) in
    rw mapped (says_append (map view (take i vs)) ss (view v) s says one)

-- a value that is refused, by its number
pub refused_at : (vs : List Value) (i : ℕ) (v : Value) (fault : StationsFault) → i < length vs → v ≡ get_or vs i v
    → IsRefusedValue (i + 1) (view v) fault → IsRefusedList (map view vs) fault
refused_at vs i v fault below is refused =
    let same : i + 1 - 1 ≡ i = omega arith in
    let found : slice_get (map view vs) i ≡ Some (view v) =
    slice_get-map view vs i ∙ ap (option_map view) (slice_get-get_or vs i v below ∙ ap (λ (w : Value). Some w) (sym is)) in
    inr (inr (i + 1, view v, subst (λ (n : ℕ). slice_get (map view vs) n ≡ Some (view v)) (sym same) found, refused))
