-- The content of a field.
use Rattle.std.proofs.Common.{◌≡◌, ℕ, ◌≤◌, ◌==◌, if◌then◌else◌, Bool, true, false, ltb, eqb, eq-eqb, List, [], ◌∷◌, ◌++◌, length, Result, Ok, Err, Option, Some, None, refl, sym, ap, subst, ◌∙◌, arith}
use Rattle.std.proofs.lemmas.Bool.{ltb-false, le-ltb}
use Rattle.std.proofs.lemmas.Bool.Decides.{nat_tests}
use Rattle.std.proofs.lemmas.List.{append-nil}
use Rattle.dlms_acse.specs.declared.fault.AcseFault.{AcseFault}
use Rattle.dlms_acse.specs.Reading.{on_some, ok_of, alone, octets_at, inner_at, secret_at}
use Rattle.dlms_acse.specs.Spelling.{Counts, IsSecret}
use Rattle.dlms_acse.proofs.Takes.{octets_takes, octets_again}

pub some_is : {A : Type 0} {x y : A} → Some x ≡ Some y → x ≡ y
some_is e = cc

pub none_is : {A : Type 0} {x : A} → None ≡ Some x → ⊥
none_is e = cc

abbrev pub Stands : ℕ → List ℕ → List ℕ → Type 0
Stands tag value x = (text : List ℕ) × (value ≡ tag ∷ text) × Counts 2 text x

alone_is : (value rest x : List ℕ) → alone (value, rest) ≡ Some x → (rest ≡ []) × (value ≡ x)
alone_is value [] x e = (refl, some_is e)
alone_is value (b ∷ rest) x e = by_test (length (b ∷ rest) == 0) refl e
  where
    by_test : (c : Bool) → (length (b ∷ rest) == 0) ≡ c → (if c then Some value else None) ≡ Some x → (b ∷ rest ≡ []) × (value ≡ x)
    by_test true h e = absurd (grind (arith, nat_tests))
    by_test false h e = absurd (none_is e)

from_octets : (tag : ℕ) (rest x : List ℕ) (r : Result (List ℕ × List ℕ) AcseFault) → octets_at 2 rest ≡ r → on_some (ok_of r) alone ≡ Some x → Stands tag (tag ∷ rest) x
from_octets tag rest x (Ok y) h e =
    let end = alone_is y.0 y.1 x e in
    let took = octets_takes 2 rest y h in
    let text : rest ≡ took.0 = took.1 ∙ ap (λ (w : List ℕ). took.0 ++ w) end.0 ∙ append-nil took.0 in
    (took.0, ap (λ (w : List ℕ). tag ∷ w) text, subst (λ (w : List ℕ). Counts 2 took.0 w) end.1 took.2)
from_octets tag rest x (Err f) h e = absurd (none_is e)

pub inner_is : (tag : ℕ) (value x : List ℕ) → inner_at tag value ≡ Some x → Stands tag value x
unfolding inner_at
inner_is tag [] x e = absurd (none_is e)
inner_is tag (t ∷ rest) x e = by_test (t == tag) refl e
  where
    by_test : (b : Bool) → (t == tag) ≡ b → (if b then on_some (ok_of (octets_at 2 rest)) alone else None) ≡ Some x → Stands tag (t ∷ rest) x
    by_test true h e =
        let same : tag ≡ t = grind (arith, nat_tests) in
        subst (λ (k : ℕ). Stands tag (k ∷ rest) x) same (from_octets tag rest x (octets_at 2 rest) refl e)
    by_test false h e = absurd (none_is e)

pub inner_of : (tag : ℕ) (text x : List ℕ) → Counts 2 text x → inner_at tag (tag ∷ text) ≡ Some x
unfolding inner_at
inner_of tag text x h =
    let octets : octets_at 2 text ≡ Ok (x, []) = ap (octets_at 2) (sym (append-nil text)) ∙ octets_again 2 text x [] h in
    let here : eqb tag tag ≡ true = eq-eqb tag tag refl in
    rw (here, octets) refl

secret_found : (value secret : List ℕ) → secret_at value ≡ Some secret → IsSecret value secret
unfolding secret_at
secret_found value secret e = from_inner (inner_at 0x80 value) refl e
  where
    by_test : (s : List ℕ) (b : Bool) → inner_at 0x80 value ≡ Some s → ltb 16 (length s) ≡ b → (if b then None else Some s) ≡ Some secret → IsSecret value secret
    by_test s true h l e = absurd (none_is e)
    by_test s false h l e =
        let same : s ≡ secret = some_is e in
        let at = inner_is 0x80 value s h in
        let few : length s ≤ 16 = ltb-false 16 (length s) l in
        subst (λ (w : List ℕ). IsSecret value w) same (at.0, at.1, at.2, few)

    from_inner : (o : Option (List ℕ)) → inner_at 0x80 value ≡ o → on_some o (λ s. if ltb 16 (length s) then None else Some s) ≡ Some secret → IsSecret value secret
    from_inner None h e = absurd (none_is e)
    from_inner (Some s) h e = by_test s (ltb 16 (length s)) h refl e

secret_only : (value secret : List ℕ) → IsSecret value secret → secret_at value ≡ Some secret
unfolding secret_at
secret_only value secret h =
    let fits : ltb 16 (length secret) ≡ false = le-ltb 16 (length secret) h.3 in
    let at : inner_at 0x80 value ≡ Some secret = ap (inner_at 0x80) h.1 ∙ inner_of 0x80 h.0 secret h.2 in
    rw (at, fits) refl

pub secret_read : (value secret : List ℕ) → ((secret_at value ≡ Some secret) → IsSecret value secret) × (IsSecret value secret → (secret_at value ≡ Some secret))
secret_read value secret = (secret_found value secret, secret_only value secret)
