-- Selectors, parameters and blocks: everything that is read has that spelling, and everything spelled so is read.
use Rattle.std.proofs.Common.{◌≡◌, ℕ, Bool, List, [], ◌∷◌, ◌++◌, Option, Some, None, Result, Ok, refl, sym, ap, subst, ◌∙◌, inl, inr}
use Rattle.dlms_data.specs.Value.{Value}
use Rattle.dlms_apdu.specs.declared.fault.Refusal.{Refusal}
use Rattle.dlms_apdu.specs.Forms.{Selection, BlockForm}
use Rattle.dlms_apdu.specs.Reading.{and_then, byte_at, number_at, flag_at, value_at, raw_at, no_option_at, some_selector_at, selector_at, some_parameter_at, parameter_at, block_at}
use Rattle.dlms_apdu.specs.Spelling.{◌▷◌, IsByte, IsNumber, IsFlag, IsValue, IsSelector, IsParameter, IsRaw}
use Rattle.dlms_apdu.proofs.Takes.{step, done, ok_is, goes_on, Takes, both, regrouped, choice_found, byte_takes, byte_again, number_takes, number_again, flag_takes, flag_again, value_takes, value_again, raw_takes, raw_again}

-- a byte in front, which the bytes show
behind_byte : {A : Type 0} (read : List ℕ → A) (b : ℕ) (front head more rest : List ℕ) → front ≡ head ++ more → IsByte b head → read (front ++ rest) ≡ read (b ∷ (more ++ rest))
behind_byte read b front head more rest e h =
    let whole : front ≡ b ∷ more = e ∙ ap (λ (w : List ℕ). w ++ more) h in
    ap (λ (w : List ℕ). read (w ++ rest)) whole

some_selector_takes : (bytes : List ℕ) (x : Option Selection × List ℕ) → some_selector_at bytes ≡ Ok x → Takes IsSelector (1 ∷ bytes) x
unfolding some_selector_at
some_selector_takes bytes x e =
    let n = step _ _ x e in
    let tn = byte_takes bytes n.value n.is in
    let v = step _ _ x n.further in
    let tv = value_takes n.value.1 v.value v.is in
    let inner = both (IsByte n.value.0) (IsValue v.value.0) bytes n.value.1 v.value.1 tn.0 tv.0 tn.1 tv.1 tn.2 tv.2 in
    let s : Selection = record { number = n.value.0; value = v.value.0 } in
    subst (λ (y : Option Selection × List ℕ). Takes IsSelector (1 ∷ bytes) y) (ok_is (Some s, v.value.1) x v.further)
    (1 ∷ inner.0, ap (λ (w : List ℕ). 1 ∷ w) inner.1, (1 ∷ [], inner.0, refl, refl, inner.2))

pub selector_takes : (bytes : List ℕ) (x : Option Selection × List ℕ) → selector_at bytes ≡ Ok x → Takes IsSelector bytes x
unfolding selector_at
selector_takes bytes x e =
    elim (choice_found ((0, no_option_at) ∷ (1, some_selector_at) ∷ []) bytes x e) [
      | inl h ↦ subst (λ (y : Option Selection × List ℕ). Takes IsSelector bytes y) (ok_is (None, h.0) x h.2) (0 ∷ [], h.1, refl)
      | inr g ↦ elim g [
        | inl h ↦ subst (λ (w : List ℕ). Takes IsSelector w x) (sym h.1) (some_selector_takes h.0 x h.2)
        | inr h ↦ absurd h
      ]
    ]

pub selector_again : (s : Option Selection) (front rest : List ℕ) → IsSelector s front → selector_at (front ++ rest) ≡ Ok (s, rest)
unfolding selector_at some_selector_at
selector_again None front rest h = rw h refl
selector_again (Some s) front rest h =
    behind_byte selector_at 1 front h.0 h.1 rest h.2 h.3
    ∙ goes_on byte_at _ (h.1 ++ rest) h.4.0 (h.4.1 ++ rest) s.number (regrouped h.1 h.4.0 h.4.1 rest h.4.2) (byte_again s.number h.4.0 (h.4.1 ++ rest) h.4.3)
    ∙ goes_on value_at _ (h.4.1 ++ rest) h.4.1 rest s.value refl (value_again s.value h.4.1 rest h.4.4)

some_parameter_takes : (bytes : List ℕ) (x : Option Value × List ℕ) → some_parameter_at bytes ≡ Ok x → Takes IsParameter (1 ∷ bytes) x
unfolding some_parameter_at
some_parameter_takes bytes x e =
    let v = step _ _ x e in
    let tv = value_takes bytes v.value v.is in
    subst (λ (y : Option Value × List ℕ). Takes IsParameter (1 ∷ bytes) y) (ok_is (Some v.value.0, v.value.1) x v.further)
    (1 ∷ tv.0, ap (λ (w : List ℕ). 1 ∷ w) tv.1, (1 ∷ [], tv.0, refl, refl, tv.2))

pub parameter_takes : (bytes : List ℕ) (x : Option Value × List ℕ) → parameter_at bytes ≡ Ok x → Takes IsParameter bytes x
unfolding parameter_at
parameter_takes bytes x e =
    elim (choice_found ((0, no_option_at) ∷ (1, some_parameter_at) ∷ []) bytes x e) [
      | inl h ↦ subst (λ (y : Option Value × List ℕ). Takes IsParameter bytes y) (ok_is (None, h.0) x h.2) (0 ∷ [], h.1, refl)
      | inr g ↦ elim g [
        | inl h ↦ subst (λ (w : List ℕ). Takes IsParameter w x) (sym h.1) (some_parameter_takes h.0 x h.2)
        | inr h ↦ absurd h
      ]
    ]

pub parameter_again : (p : Option Value) (front rest : List ℕ) → IsParameter p front → parameter_at (front ++ rest) ≡ Ok (p, rest)
unfolding parameter_at some_parameter_at
parameter_again None front rest h = rw h refl
parameter_again (Some v) front rest h =
    behind_byte parameter_at 1 front h.0 h.1 rest h.2 h.3
    ∙ goes_on value_at _ (h.1 ++ rest) h.1 rest v refl (value_again v h.1 rest h.4)

-- ---- blocks

abbrev pub IsBlock : BlockForm → List ℕ → Type 0
IsBlock b = IsFlag b.last ▷ IsNumber 4 b.number ▷ IsRaw b.raw

pub block_takes : (bytes : List ℕ) (x : BlockForm × List ℕ) → block_at bytes ≡ Ok x → Takes IsBlock bytes x
unfolding block_at
block_takes bytes x e =
    let f = step _ _ x e in
    let tf = flag_takes bytes f.value f.is in
    let n = step _ _ x f.further in
    let tn = number_takes 4 f.value.1 n.value n.is in
    let r = step _ _ x n.further in
    let tr = raw_takes n.value.1 r.value r.is in
    let inner = both (IsNumber 4 n.value.0) (IsRaw r.value.0) f.value.1 n.value.1 r.value.1 tn.0 tr.0 tn.1 tr.1 tn.2 tr.2 in
    let b : BlockForm = record { last = f.value.0; number = n.value.0; raw = r.value.0 } in
    subst (λ (y : BlockForm × List ℕ). Takes IsBlock bytes y) (ok_is (b, r.value.1) x r.further)
    (both (IsFlag f.value.0) (IsNumber 4 n.value.0 ▷ IsRaw r.value.0) bytes f.value.1 r.value.1 tf.0 inner.0 tf.1 inner.1 tf.2 inner.2)

pub block_again : (b : BlockForm) (front rest : List ℕ) → IsBlock b front → block_at (front ++ rest) ≡ Ok (b, rest)
unfolding block_at
block_again b front rest h =
    goes_on flag_at _ (front ++ rest) h.0 (h.1 ++ rest) b.last (regrouped front h.0 h.1 rest h.2) (flag_again b.last h.0 (h.1 ++ rest) h.3)
    ∙ goes_on (number_at 4) _ (h.1 ++ rest) h.4.0 (h.4.1 ++ rest) b.number (regrouped h.1 h.4.0 h.4.1 rest h.4.2) (number_again 4 b.number h.4.0 (h.4.1 ++ rest) h.4.3)
    ∙ goes_on raw_at _ (h.4.1 ++ rest) h.4.1 rest b.raw refl (raw_again b.raw h.4.1 rest h.4.4)
