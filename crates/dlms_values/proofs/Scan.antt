-- How far a value reaches.
use Rattle.std.proofs.Common.{◌≡◌, ℕ, zero, suc, ◌-◌, ◌+◌, ◌≤◌, ◌<◌, List, Result, Ok, Err, refl, sym, ap, ◌∙◌, arith}
use Rattle.dlms_values.specs.declared.fault.ValueFault.{ValueFault}
use Rattle.dlms_values.specs.declared.fault.ValueFault.TheVariants.{Depth}
use Rattle.dlms_values.specs.Value.{Value, Values, cons}
use Rattle.dlms_values.specs.Reading.{◌>>=◌, behind, length_at, values_by, nested, values_at}

abbrev pub Reader : Type 0
Reader = List ℕ → Result (Value × List ℕ) ValueFault

-- a step that changes the value alone
pub behind_map : {X Y : Type 0} (read : Result (X × List ℕ) ValueFault) (f : X → Y) → behind (read >>= λ x. Ok (f x.0, x.1)) ≡ behind read
behind_map (Ok x) f = refl
behind_map (Err e) f = refl

-- the first value, and then the others
first : (read : Result (Value × List ℕ) ValueFault) (n : ℕ) (item : Reader) (after : List ℕ) → behind read ≡ Ok after
    → behind (read >>= λ v. values_by item n v.1 >>= λ vs. Ok (cons v.0 vs.0, vs.1)) ≡ behind (values_by item n after)
first (Ok x) n item after h =
    let e : x.1 ≡ after = cc in
    behind_map (values_by item n x.1) (λ vs. cons x.0 vs) ∙ ap (λ (b : List ℕ). behind (values_by item n b)) e
first (Err d) n item after h = absurd cc

pub scans_on : (item : Reader) (n i : ℕ) (bytes after : List ℕ) (total : Result (List ℕ) ValueFault) → i < n → behind (item bytes) ≡ Ok after
    → behind (values_by item (n - i) bytes) ≡ total → behind (values_by item (n - (i + 1)) after) ≡ total
unfolding values_by
scans_on item n i bytes after total lt h so_far =
    let k : n - i ≡ suc (n - (i + 1)) = omega arith in
    let one : behind (values_by item (n - i) bytes) ≡ behind (values_by item (n - (i + 1)) after) = rw k (first (item bytes) (n - (i + 1)) item after h) in
    sym one ∙ so_far

failed : (read : Result (Value × List ℕ) ValueFault) (f : Value × List ℕ → Result (Values × List ℕ) ValueFault) (e : ValueFault) → behind read ≡ Err e → behind (read >>= f) ≡ Err e
failed (Ok x) f e h = absurd cc
failed (Err d) f e h = h

pub scan_fails : (e : ValueFault) (item : Reader) (n i : ℕ) (bytes : List ℕ) (total : Result (List ℕ) ValueFault) → i < n → behind (item bytes) ≡ Err e
    → behind (values_by item (n - i) bytes) ≡ total → total ≡ Err e
unfolding values_by
scan_fails e item n i bytes total lt h so_far =
    let k : n - i ≡ suc (n - (i + 1)) = omega arith in
    let one : behind (values_by item (n - i) bytes) ≡ Err e = rw k (failed (item bytes) _ e h) in
    sym so_far ∙ one

pub scan_ends : (item : Reader) (n i : ℕ) (bytes : List ℕ) (total : Result (List ℕ) ValueFault) → n ≤ i → behind (values_by item (n - i) bytes) ≡ total → total ≡ Ok bytes
unfolding values_by
scan_ends item n i bytes total le so_far =
    let k : n - i ≡ 0 = omega arith in
    let one : behind (values_by item (n - i) bytes) ≡ Ok bytes = rw k refl in
    sym so_far ∙ one

-- a nested value, if there is a level left
pub nested-level : (room : ℕ) (bytes : List ℕ) → 0 < room → nested room bytes ≡ (length_at bytes >>= λ n. values_at (room - 1) n.0 n.1)
unfolding nested
nested-level zero bytes lt = absurd (omega arith)
nested-level (suc room) bytes lt = let e : suc room - 1 ≡ room = omega arith in rw e refl

pub nested-none : (room : ℕ) (bytes : List ℕ) → room ≡ 0 → nested room bytes ≡ Err Depth
unfolding nested
nested-none zero bytes e = refl
nested-none (suc room) bytes e = absurd (omega arith)

-- a fault of the first step is the fault of both
pub fault_behind : {X Y : Type 0} (e : ValueFault) (r : Result X ValueFault) (f : X → Result (Y × List ℕ) ValueFault) → r ≡ Err e → behind (r >>= f) ≡ Err e
fault_behind e r f h = rw h refl
