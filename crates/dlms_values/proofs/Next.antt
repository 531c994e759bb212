-- The values of an array, one after the other.
use Rattle.std.proofs.Common.{◌≡◌, ℕ, zero, suc, ◌-◌, List, false, Result, Ok, Err, Some, IsTrue, refl, sym, ap, subst, ◌∙◌, arith}
use Rattle.dlms_values.specs.declared.fault.ValueFault.{ValueFault}
use Rattle.dlms_values.specs.Value.{Value, Values, none, cons, count}
use Rattle.dlms_values.specs.Reading.{◌>>=◌, behind, values_by, value_by, nested, value_at, values_at, values_read, is_read}
use Rattle.dlms_values.specs.declared.value.Value.{Value as Borrowed}
use Rattle.dlms_values.specs.View.{IsNext, value_of}
use Rattle.dlms_values.proofs.Scan.{Reader}

-- a fault of the first step is the fault of both
pub fault_then : {X Y : Type 0} (e : ValueFault) (r : Result X ValueFault) (f : X → Result Y ValueFault) → r ≡ Err e → (r >>= f) ≡ Err e
fault_then e r f h = rw h refl

-- what is read, if its end is known
pub read_is : (r : Result (Values × List ℕ) ValueFault) (rest : List ℕ) → behind r ≡ Ok rest → r ≡ Ok (values_read r, rest)
read_is (Ok x) rest h = let e : x.1 ≡ rest = cc in ap (λ (w : List ℕ). Ok (x.0, w)) e
read_is (Err f) rest h = absurd cc

pub read_true : (r : Result (Values × List ℕ) ValueFault) (rest : List ℕ) → behind r ≡ Ok rest → IsTrue (is_read r)
read_true (Ok x) rest h = refl
read_true (Err f) rest h = absurd cc

-- a fault after a known step
pub read_fails : (r : Result (Values × List ℕ) ValueFault) (e : ValueFault) → behind r ≡ Err e → r ≡ Err e
read_fails (Ok x) e h = absurd cc
read_fails (Err f) e h = cc

-- as many values are read as were wanted
counted_in : (item : Reader) (n : ℕ) (bytes : List ℕ) → IsTrue (is_read (values_by item n bytes)) → count (values_read (values_by item n bytes)) ≡ n
unfolding values_by
counted_in item zero bytes h = refl
counted_in item (suc n) bytes h = by_first (item bytes) (counted_in item n) h
  where
    by_rest : (v : Value) (r : Result (Values × List ℕ) ValueFault) → (IsTrue (is_read r) → count (values_read r) ≡ n) → IsTrue (is_read (r >>= λ vs. Ok (cons v vs.0, vs.1))) → count (values_read (r >>= λ vs. Ok (cons v vs.0, vs.1))) ≡ suc n
    by_rest v (Ok x) known h = ap suc (known refl)
    by_rest v (Err f) known h = absurd cc

    by_first : (r : Result (Value × List ℕ) ValueFault) → ((b : List ℕ) → IsTrue (is_read (values_by item n b)) → count (values_read (values_by item n b)) ≡ n)
        → IsTrue (is_read (r >>= λ v. values_by item n v.1 >>= λ vs. Ok (cons v.0 vs.0, vs.1)))
        → count (values_read (r >>= λ v. values_by item n v.1 >>= λ vs. Ok (cons v.0 vs.0, vs.1))) ≡ suc n
    by_first (Ok v) known h = by_rest v.0 (values_by item n v.1) (known v.1) h
    by_first (Err f) known h = absurd cc

pub count_read : (levels n : ℕ) (bytes : List ℕ) → IsTrue (is_read (values_at levels n bytes)) → n ≡ count (values_read (values_at levels n bytes))
count_read levels n bytes h = sym (counted_in (value_by (nested levels)) n bytes h)

pub none_read : (levels n : ℕ) (bytes : List ℕ) → n ≡ 0 → values_read (values_at levels n bytes) ≡ none
unfolding values_by
none_read levels n bytes e = rw e refl

-- one more than none
one_more : (n : ℕ) → (n ≡ 0 → ⊥) → n ≡ suc (n - 1)
one_more n some = omega arith

pub first_is_read : (levels n : ℕ) (bytes : List ℕ) (f : ValueFault) → (n ≡ 0 → ⊥) → IsTrue (is_read (values_at levels n bytes)) → value_at levels bytes ≡ Err f → ⊥
unfolding values_by
first_is_read levels n bytes f some h e =
    let at : IsTrue (is_read (values_at levels (suc (n - 1)) bytes)) = subst (λ (k : ℕ). IsTrue (is_read (values_at levels k bytes))) (one_more n some) h in
    let fails : is_read (values_at levels (suc (n - 1)) bytes) ≡ false = rw e refl in
    cc

-- what is left after the first value
rest_of : (v : Value) (r : Result (Values × List ℕ) ValueFault) → IsTrue (is_read (r >>= λ vs. Ok (cons v vs.0, vs.1))) → IsTrue (is_read r) × (values_read (r >>= λ vs. Ok (cons v vs.0, vs.1)) ≡ cons v (values_read r))
rest_of v (Ok x) h = (refl, refl)
rest_of v (Err f) h = absurd cc

pub after_first : (levels n : ℕ) (bytes : List ℕ) (v : Value) (rest : List ℕ) → (n ≡ 0 → ⊥) → IsTrue (is_read (values_at levels n bytes)) → value_at levels bytes ≡ Ok (v, rest)
    → IsTrue (is_read (values_at levels (n - 1) rest)) × (values_read (values_at levels n bytes) ≡ cons v (values_read (values_at levels (n - 1) rest)))
unfolding values_by
after_first levels n bytes v rest some h e =
    let k : n ≡ suc (n - 1) = one_more n some in
    let step : values_at levels (suc (n - 1)) bytes ≡ (values_at levels (n - 1) rest >>= λ vs. Ok (cons v vs.0, vs.1)) = rw e refl in
    let whole : values_at levels n bytes ≡ (values_at levels (n - 1) rest >>= λ vs. Ok (cons v vs.0, vs.1)) = ap (λ (m : ℕ). values_at levels m bytes) k ∙ step in
    let parts = rest_of v (values_at levels (n - 1) rest) (subst (λ (r : Result (Values × List ℕ) ValueFault). IsTrue (is_read r)) whole h) in
    (parts.0, ap values_read whole ∙ parts.1)

pub is_next : (before : Values) (w : Borrowed) (after : Values) → before ≡ cons (value_of w) after → IsNext before (Some w) after
is_next none w after e = absurd cc
is_next (cons v vs) w after e = (cc, cc)
