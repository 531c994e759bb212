-- What memory is wanting for.
use Rattle.std.proofs.Common.{◌≡◌, ℕ, zero, suc, ◌+◌, ◌/◌, ◌≤◌, ◌<◌, List, [], ◌∷◌, ◌++◌, length, Result, Ok, Err, IfOk, refl, sym, ap, ◌∙◌, subst, arith}
use Rattle.std.proofs.lemmas.List.{length-append}
use Rattle.dlms_axdr.specs.declared.fault.DataFault.{DataFault}
use Rattle.dlms_axdr.specs.declared.fault.DataFault.TheVariants.{Short, Tag as NoTag, Length, Depth, Memory}
use Rattle.dlms_data.specs.Value.{Value, Values, null, none, cons, count}
use Rattle.dlms_data.specs.Spelling.{Spells}
use Rattle.dlms_data.specs.Memory.{AreSome, HasSome}
use Rattle.dlms_axdr.specs.Reading.{◌>>=◌, Fault, IsFault, Fails, behind, length_at, taken_at}
use Rattle.dlms_data.specs.Reading.{values_at, data_at, bits_at}
use Rattle.dlms_data.proofs.Loop.{Reader}
use Rattle.dlms_data.proofs.Takes.{data_takes, ok_is}
use Rattle.dlms_data.proofs.Bitwise.{length-view}

-- a fault of the first step is the fault of both
pub told_then : {X Y : Type 0} (needs : Y → Type 0) (e : DataFault) (r : Result X Fault) (f : X → Result Y Fault) → IsFault e r → Fails needs e (r >>= f)
told_then needs Memory r f h = absurd h
told_then needs Short r f h = rw h refl
told_then needs NoTag r f h = rw h refl
told_then needs Length r f h = rw h refl
told_then needs Depth r f h = rw h refl

-- the first step's result needs memory if its input does
pub made_then : {X Y : Type 0} (few : X → Type 0) (needs : Y → Type 0) (e : DataFault) (r : Result X Fault) (f : X → Y) → ((x : X) → few x → needs (f x)) → Fails few e r → Fails needs e (r >>= λ x. Ok (f x))
made_then few needs Memory (Ok x) f implies h = implies x h
made_then few needs Memory (Err d) f implies h = tt
made_then few needs Short r f implies h = rw h refl
made_then few needs NoTag r f implies h = rw h refl
made_then few needs Length r f implies h = rw h refl
made_then few needs Depth r f implies h = rw h refl

pub ruleset wanting = (told_then, made_then)

-- as many values are read as the number says
counted : (item : Reader) (n : ℕ) (bytes : List ℕ) (x : Values × List ℕ) → values_at item n bytes ≡ Ok x → count x.0 ≡ n
unfolding values_at
counted item zero bytes x e = let same : (none, bytes) ≡ x = ok_is (none, bytes) x e in ap (λ (y : Values × List ℕ). count y.0) (sym same)
counted item (suc n) bytes x e = by_item (λ w y h. counted item n w y h) (item bytes) e
  where
    by_rest : (v : Value) (r : Result (Values × List ℕ) Fault) → ((y : Values × List ℕ) → r ≡ Ok y → count y.0 ≡ n) → (r >>= λ vs. Ok (cons v vs.0, vs.1)) ≡ Ok x → count x.0 ≡ suc n
    by_rest v (Ok y) rest e =
        let same : (cons v y.0, y.1) ≡ x = ok_is (cons v y.0, y.1) x e in
        ap (λ (z : Values × List ℕ). count z.0) (sym same) ∙ ap suc (rest y refl)
    by_rest v (Err d) rest e = absurd cc

    by_item : ((w : List ℕ) (y : Values × List ℕ) → values_at item n w ≡ Ok y → count y.0 ≡ n) → (r : Result (Value × List ℕ) Fault)
        → (r >>= λ v. values_at item n v.1 >>= λ vs. Ok (cons v.0 vs.0, vs.1)) ≡ Ok x → count x.0 ≡ suc n
    by_item again (Ok v) e = by_rest v.0 (values_at item n v.1) (λ y h. again v.1 y h) e
    by_item again (Err d) e = absurd cc

-- there are some if the number is above 0
pub some_more : (item : Reader) (n : ℕ) (bytes : List ℕ) → 0 < n → IfOk (values_at item n bytes) AreSome
some_more item n bytes lt = by_values (values_at item n bytes) refl
  where
    by_values : (r : Result (Values × List ℕ) Fault) → values_at item n bytes ≡ r → IfOk r AreSome
    by_values (Ok x) e = omega (arith, counted item n bytes x e)
    by_values (Err f) e = tt

pub some_wanting : (e : DataFault) (item : Reader) (n : ℕ) (bytes : List ℕ) → e ≡ Memory → 0 < n → Fails AreSome e (values_at item n bytes)
some_wanting e item n bytes is lt = subst (λ (f : DataFault). Fails AreSome f (values_at item n bytes)) (sym is) (some_more item n bytes lt)

-- ---- a count is at most the number of bytes

no_spelling : (v : Value) → Spells [] v → ⊥
no_spelling null h = cc
no_spelling _ h = let none_left = h.1 in cc

takes_some : (room : ℕ) (bytes : List ℕ) (x : Value × List ℕ) → data_at room bytes ≡ Ok x → length x.1 < length bytes
takes_some room bytes x e =
    let t = (data_takes room bytes x e).0 in
    by_text t.0 t.1 t.2
  where
    by_text : (text : List ℕ) → bytes ≡ text ++ x.1 → Spells text x.0 → length x.1 < length bytes
    by_text [] parts s = absurd (no_spelling x.0 s)
    by_text (b ∷ text) parts s = omega (arith, ap length parts, length-append text x.1)

takes_as_many : (room n : ℕ) (bytes : List ℕ) (x : Values × List ℕ) → values_at (data_at room) n bytes ≡ Ok x → n ≤ length bytes
unfolding values_at
takes_as_many room zero bytes x e = omega arith
takes_as_many room (suc n) bytes x e = by_item (λ w y h. takes_as_many room n w y h) (data_at room bytes) refl e
  where
    by_rest : (v : Value × List ℕ) → data_at room bytes ≡ Ok v → (r : Result (Values × List ℕ) Fault) → ((y : Values × List ℕ) → r ≡ Ok y → n ≤ length v.1) → (r >>= λ vs. Ok (cons v.0 vs.0, vs.1)) ≡ Ok x → suc n ≤ length bytes
    by_rest v first (Ok y) rest e = omega (arith, takes_some room bytes v first, rest y refl)
    by_rest v first (Err d) rest e = absurd cc

    by_item : ((w : List ℕ) (y : Values × List ℕ) → values_at (data_at room) n w ≡ Ok y → n ≤ length w) → (r : Result (Value × List ℕ) Fault) → data_at room bytes ≡ r
        → (r >>= λ v. values_at (data_at room) n v.1 >>= λ vs. Ok (cons v.0 vs.0, vs.1)) ≡ Ok x → suc n ≤ length bytes
    by_item again (Ok v) first e = by_rest v first (values_at (data_at room) n v.1) (λ y h. again v.1 y h) e
    by_item again (Err d) first e = absurd cc

pub as_many_bytes : (room n : ℕ) (bytes rest : List ℕ) → behind (values_at (data_at room) n bytes) ≡ Ok rest → n ≤ length bytes
as_many_bytes room n bytes rest e = by_values (values_at (data_at room) n bytes) refl e
  where
    by_values : (r : Result (Values × List ℕ) Fault) → values_at (data_at room) n bytes ≡ r → behind r ≡ Ok rest → n ≤ length bytes
    by_values (Ok x) is e = takes_as_many room n bytes x is
    by_values (Err f) is e = absurd cc

-- ---- bits

pub bits_wanting : (count : ℕ) (bytes rest front after : List ℕ) → length_at bytes ≡ Ok (count, rest) → taken_at ((count + 7) / 8) rest ≡ Ok (front, after) → length front ≡ (count + 7) / 8 → 0 < length front
    → Fails HasSome Memory (bits_at bytes)
unfolding bits_at
bits_wanting count bytes rest front after len took size some =
    let view = length-view count front size in
    rw (len, took) (omega (arith, view, size, some))
