-- Elements of an object list.
use Rattle.std.proofs.Common.{◌≡◌, ℕ, suc, ◌+◌, ◌<◌, ◌≤◌, List, [], ◌∷◌, ◌++◌, length, take, drop, get_or, refl, sym, ap, subst, ◌∙◌, add-one, arith, drop-cons}
use Rattle.std.specs.Prelude.{◌==◌, All, Bool, false, map}
use Rattle.std.proofs.lemmas.List.{map-append, take-append-drop, take_all, take_more}
use Rattle.std.proofs.lemmas.List.Elements.{All-append, All-cons, All-nil}
use Rattle.dlms_data.specs.declared.data.Data.{Data}
use Rattle.dlms_data.specs.Value.{Value, Values, cons, none, count}
use Rattle.dlms_data.specs.View.{value_of, values_of}
use Rattle.dlms_data.proofs.Loop.{count-length}
use Rattle.dlms_text.specs.Entries.{HasName, IsFirstNamed, IsNamed}

pub at_least_two : {A : Type 0} (ds : List (Data A)) (a b : Value) (more : Values) → values_of ds ≡ cons a (cons b more) → 2 ≤ length ds
at_least_two ds a b more is = omega (arith, count-length ds, ap count is)

-- of two values and more there are just two if there are no more
pub no_more : {A : Type 0} (all : Values) (more : List (Data A)) (a b x y : Value) → false ≡ (length more == 0) → all ≡ cons x (cons y (values_of more)) → all ≡ cons a (cons b none) → ⊥
no_more all [] a b x y some these those = cc
no_more all (d ∷ more) a b x y some these those = cc

-- the element at this place, between those before it and those after it
parted : {A : Type 0} (ds : List (Data A)) (i : ℕ) (d : Data A) → i < length ds → map value_of ds ≡ map value_of (take i ds) ++ value_of (get_or ds i d) ∷ map value_of (drop (i + 1) ds)
parted {A} ds i d lt =
    let split : map value_of ds ≡ map value_of (take i ds ++ drop i ds) = ap (λ (s : List (Data A)). map value_of s) (sym (take-append-drop i ds)) in
    let here : drop i ds ≡ get_or ds i d ∷ drop (i + 1) ds = rw add-one (drop-cons ds i d lt) in
    split ∙ map-append value_of (take i ds) (drop i ds) ∙ ap (λ (s : List (Data A)). map value_of (take i ds) ++ map value_of s) here

pub one_more : {A : Type 0} (P : Value → Type 0) (ds : List (Data A)) (i : ℕ) (x : Data A) → i < length ds → x ≡ get_or ds i x → All P (map value_of (take i ds)) → P (value_of x) → All P (map value_of (take (i + 1) ds))
one_more {A} P ds i x lt at before here =
    let grown : take (i + 1) ds ≡ take i ds ++ get_or ds i x ∷ [] = take_more ds i x lt in
    let there : P (value_of (get_or ds i x)) = subst (λ (y : Data A). P (value_of y)) at here in
    rw (grown, map-append value_of (take i ds) (get_or ds i x ∷ [])) (All-append P (map value_of (take i ds)) (value_of (get_or ds i x) ∷ []) before (All-cons P (value_of (get_or ds i x)) [] there (All-nil P)))

pub all_of_them : {A : Type 0} (P : Value → Type 0) (ds : List (Data A)) (i : ℕ) → length ds ≤ i → All P (map value_of (take i ds)) → All P (map value_of ds)
all_of_them {A} P ds i le before = let whole : take i ds ≡ ds = take_all i ds le in rw whole at before

pub first_at : {A : Type 0} (ds : List (Data A)) (i : ℕ) (x : Data A) (name : List ℕ) (of_class : ℕ) → i < length ds → x ≡ get_or ds i x → All (λ v. HasName name v → ⊥) (map value_of (take i ds))
    → IsNamed (value_of x) name of_class → IsFirstNamed (map value_of ds) name of_class
first_at {A} ds i x name of_class lt at none_before is = record {
  before = map value_of (take i ds);
  entry = value_of x;
  after = map value_of (drop (i + 1) ds);
  parted = subst (λ (y : Data A). map value_of ds ≡ map value_of (take i ds) ++ value_of y ∷ map value_of (drop (i + 1) ds)) (sym at) (parted ds i x lt);
  none_before = none_before;
  named = is;
}
