-- Parameters are read one after another.
use Rattle.std.proofs.Common.{◌≡◌, ℕ, List, [], ◌∷◌, ◌++◌, length, refl}
use Rattle.dlms_dissect.specs.declared.parameters.Parameters.{Parameters}
use Rattle.dlms_dissect.specs.Parameters.{AreParameters, Parameter, nothing, parameter_octets, told_of, with_number}

-- the rest of the octets, if the parameters before it have this content
abbrev pub IsLeft : List ℕ → Parameters → List ℕ → Type 0
IsLeft octets told rest = (ps : List Parameter) × (AreParameters octets ps rest × (told ≡ told_of nothing ps))

pub left-all : (octets : List ℕ) → IsLeft octets nothing octets
left-all octets = ([], (refl, refl))

more : (ps : List Parameter) (p : Parameter) (octets rest next : List ℕ) → AreParameters octets ps rest → rest ≡ parameter_octets p ++ next
    → AreParameters octets (ps ++ (p ∷ [])) next
more [] p octets rest next are is = (next, (cc, refl))
more (q ∷ qs) p octets rest next are is = (are.0, (are.1.0, more qs p are.0 rest next are.1.1 is))

told-more : (ps : List Parameter) (p : Parameter) (told : Parameters) → told_of told (ps ++ (p ∷ [])) ≡ with_number (told_of told ps) p.id p.value
told-more [] p told = refl
told-more (q ∷ qs) p told = told-more qs p (with_number told q.id q.value)

-- a parameter is read
pub left-step : (octets : List ℕ) (told : Parameters) (rest : List ℕ) (id : ℕ) (value behind : List ℕ) (next : Parameters)
    → rest ≡ id ∷ length value ∷ (value ++ behind) → next ≡ with_number told id value → IsLeft octets told rest → IsLeft octets next behind
left-step octets told rest id value behind next is says left =
    let p : Parameter = record { id = id; value = value } in
    let e : told_of nothing (left.0 ++ (p ∷ [])) ≡ with_number (told_of nothing left.0) id value = told-more left.0 p nothing in
    let t : told ≡ told_of nothing left.0 = left.1.1 in
    (left.0 ++ (p ∷ []), (more left.0 p octets rest behind left.1.0 is, cc))
