-- The parts of a form.
use Rattle.std.proofs.Common.{◌≡◌, ℕ, List, Result, Ok, Err, ap}
use Rattle.dlms_data.specs.Value.{Value}
use Rattle.dlms_axdr.specs.Reading.{Fault, behind}
use Rattle.dlms_apdu.specs.Reading.{value_from}

-- a value precedes the bytes after it
pub behind_value : (r : Result (Value × List ℕ) Fault) (rest : List ℕ) → behind r ≡ Ok rest → (v : Value) × (value_from r ≡ Ok (v, rest))
behind_value (Ok x) rest e =
    let same : x.1 ≡ rest = cc in
    (x.0, ap (λ (w : List ℕ). Ok (x.0, w)) same)
behind_value (Err f) rest e = absurd cc
