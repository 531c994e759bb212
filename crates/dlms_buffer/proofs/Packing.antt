-- The values of a row of a compact array, one after the other.
use Rattle.std.proofs.Common.{◌≡◌, ℕ, zero, suc, ◌+◌, ◌<◌, ◌≤◌, List, [], ◌∷◌, ◌++◌, length, drop, get_or, Result, Ok, Err, refl, sym, ap, ◌∙◌, append_assoc, append-nil, arith, add-one}
use Rattle.std.proofs.Math.Seq.{drop-cons}
use Rattle.std.proofs.Math.ListN.{drop_of_length-le}
use Rattle.dlms_values.specs.declared.fault.ValueFault.{ValueFault}
use Rattle.dlms_values.specs.Types.{type_of}
use Rattle.dlms_values.specs.Value.{Value}
use Rattle.dlms_values.specs.Reading.{◌>>=◌}
use Rattle.dlms_buffer.specs.Packed.{untagged_at, packed_at}

abbrev pub Row : Type 0
Row = List Value × List ℕ

-- the values read before, and those still to be read
abbrev pub with_front : List Value → Result Row ValueFault → Result Row ValueFault
with_front front read = read >>= λ x. Ok (front ++ x.0, x.1)

pub begins : (read : Result Row ValueFault) → with_front [] read ≡ read
begins (Ok x) = refl
begins (Err e) = refl

regroup : (front : List Value) (v : Value) (read : Result Row ValueFault) → with_front front (read >>= λ x. Ok (v ∷ x.0, x.1)) ≡ with_front (front ++ v ∷ []) read
regroup front v (Ok x) = ap (λ (vs : List Value). Ok (vs, x.1)) (sym (append_assoc front (v ∷ []) x.0))
regroup front v (Err e) = refl

next_tag : (tags : List ℕ) (i : ℕ) → i < length tags → drop i tags ≡ get_or tags i 0 ∷ drop (i + 1) tags
next_tag tags i lt = rw add-one (drop-cons tags i 0 lt)

pub goes_on : (tags : List ℕ) (i : ℕ) (front : List Value) (bytes after : List ℕ) (v : Value) (total : Result Row ValueFault) → i < length tags
    → untagged_at (type_of (get_or tags i 0)) bytes ≡ Ok (v, after) → with_front front (packed_at (drop i tags) bytes) ≡ total
    → with_front (front ++ v ∷ []) (packed_at (drop (i + 1) tags) after) ≡ total
unfolding packed_at
goes_on tags i front bytes after v total lt h so_far =
    let one : with_front front (packed_at (drop i tags) bytes) ≡ with_front (front ++ v ∷ []) (packed_at (drop (i + 1) tags) after) =
    rw (next_tag tags i lt, h) (regroup front v (packed_at (drop (i + 1) tags) after)) in
    sym one ∙ so_far

pub fails : (tags : List ℕ) (i : ℕ) (front : List Value) (bytes : List ℕ) (e : ValueFault) (total : Result Row ValueFault) → i < length tags
    → untagged_at (type_of (get_or tags i 0)) bytes ≡ Err e → with_front front (packed_at (drop i tags) bytes) ≡ total → total ≡ Err e
unfolding packed_at
fails tags i front bytes e total lt h so_far =
    let one : with_front front (packed_at (drop i tags) bytes) ≡ Err e = rw (next_tag tags i lt, h) refl in
    sym so_far ∙ one

pub ends : (tags : List ℕ) (i : ℕ) (front : List Value) (bytes : List ℕ) (total : Result Row ValueFault) → length tags ≤ i
    → with_front front (packed_at (drop i tags) bytes) ≡ total → total ≡ Ok (front, bytes)
unfolding packed_at
ends tags i front bytes total le so_far =
    let one : with_front front (packed_at (drop i tags) bytes) ≡ Ok (front, bytes) =
    rw (drop_of_length-le tags le) (ap (λ (vs : List Value). Ok (vs, bytes)) (append-nil front)) in
    sym so_far ∙ one
