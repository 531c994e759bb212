-- What was asked of the world, one thing after another; and what a Bool decides.
use Rattle.std.proofs.Common.{ap, sym, ◌∙◌, ◌≡◌, ◌↔◌, Bool, true, false, List, [], ◌++◌, append_assoc, append-nil, Option, Some, None}
use Rattle.std.specs.Prelude.{IsTrue}
use Rattle.std.proofs.lemmas.Bool.{false≢true}
use Rattle.dlms_lines.specs.Watching.{Sight, Sees}

pub sees_nothing : (a : Option (List Sight)) → Sees a a []
sees_nothing None = tt
sees_nothing (Some x) = sym (append-nil x)

pub sees_more : (a b c : Option (List Sight)) (xs ys : List Sight) → Sees a b xs → Sees b c ys → Sees a c (xs ++ ys)
sees_more None b c xs ys p q = tt
sees_more (Some x) None c xs ys p q = absurd p
sees_more (Some x) (Some y) None xs ys p q = absurd q
sees_more (Some x) (Some y) (Some z) xs ys p q = q ∙ ap (λ (l : List Sight). l ++ ys) p ∙ append_assoc x xs ys

pub is_false : {X : Type 0} (b : Bool) → b ≡ false → (IsTrue b ↔ X) → X → ⊥
is_false b is iff x = absurd (false≢true (sym is ∙ iff.1 x))

pub is_true : {X : Type 0} (b : Bool) → b ≡ true → (IsTrue b ↔ X) → X
is_true b is iff = iff.0 is
