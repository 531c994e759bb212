-- The values of a structure of four.
use Rattle.std.proofs.Common.{◌≡◌, List, [], ◌∷◌, length, get_or, Ok, Err, refl}
use Rattle.dlms_data.specs.declared.data.Data.{Data}
use Rattle.dlms_data.specs.Value.{structure}
use Rattle.dlms_data.specs.View.{value_of, values_of}
use Rattle.dlms_classes.specs.declared.access.AccessResult.TheVariants.{TypeUnmatched}
use Rattle.dlms_classes.specs.Column.{four_of}

pub four_of_others : {A : Type 0} (ds : List (Data A)) → (length ds ≡ 4 → ⊥) → four_of (structure (values_of ds)) ≡ Err TypeUnmatched
four_of_others [] n = refl
four_of_others (a ∷ []) n = refl
four_of_others (a ∷ b ∷ []) n = refl
four_of_others (a ∷ b ∷ c ∷ []) n = refl
four_of_others (a ∷ b ∷ c ∷ d ∷ []) n = absurd (n refl)
four_of_others (a ∷ b ∷ c ∷ d ∷ e ∷ ds) n = refl

pub four_of_parts : {A : Type 0} (ds : List (Data A)) (p q r s : Data A) → length ds ≡ 4 → p ≡ get_or ds 0 p → q ≡ get_or ds 1 q → r ≡ get_or ds 2 r → s ≡ get_or ds 3 s
    → four_of (structure (values_of ds)) ≡ Ok (value_of p, value_of q, value_of r, value_of s)
four_of_parts [] p q r s n e f g h = cc
four_of_parts (a ∷ []) p q r s n e f g h = cc
four_of_parts (a ∷ b ∷ []) p q r s n e f g h = cc
four_of_parts (a ∷ b ∷ c ∷ []) p q r s n e f g h = cc
four_of_parts (a ∷ b ∷ c ∷ d ∷ []) p q r s n e f g h = cc
four_of_parts (a ∷ b ∷ c ∷ d ∷ x ∷ ds) p q r s n e f g h = cc
