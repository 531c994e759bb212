-- Codes as the trade writes them (IEC 62056-6-1, with the value groups A and B left out, and F if there is no billing period).
use Rattle.std.specs.Prelude.{◌≡◌, ◌⊎◌, ℕ, List, [], ◌∷◌, true, false}
use Rattle.dlms_text.specs.Texts.{IsBelow, before, behind, has}

-- the value groups E and F: `E*F`, `E.F`, or `E` alone, for which F is 255
abbrev pub EndsCode : List ℕ → (e f : ℕ) → Type 0
EndsCode text e f =
    ((has 42 text ≡ true) × IsBelow 256 (before 42 text) e × IsBelow 256 (behind 42 text) f)
    ⊎ ((has 42 text ≡ false) × (has 46 text ≡ true) × IsBelow 256 (before 46 text) e
    × IsBelow 256 (behind 46 text) f)
    ⊎ ((has 42 text ≡ false) × (has 46 text ≡ false) × IsBelow 256 text e × (f ≡ 255))

-- the value groups C to F
abbrev pub IsShort : List ℕ → List ℕ → Type 0
IsShort text (c ∷ d ∷ e ∷ f ∷ []) = (has 46 text ≡ true) × IsBelow 256 (before 46 text) c
    × (has 46 (behind 46 text) ≡ true) × IsBelow 256 (before 46 (behind 46 text)) d
    × EndsCode (behind 46 (behind 46 text)) e f
IsShort text _ = ⊥
