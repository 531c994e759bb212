-- Parts of a text, and numbers in decimal digits.
use Rattle.std.specs.Prelude.{◌≡◌, ◌<◌, ◌+◌, ◌⊎◌, ◌==◌, ℕ, ℤ, pos, neg_ℤ, List, ◌∷◌, length, Bool, nat_lt}
use Rattle.std.specs.List.{after_first, before_first, position_or_len}
use Rattle.std.specs.Str.Parse.{IsNumeral, digits_value}

-- whether this octet occurs in a text; the text before its first occurrence, and after it
abbrev pub has : ℕ → List ℕ → Bool
has octet text = nat_lt (position_or_len (λ x. x == octet) text) (length text)

abbrev pub before : ℕ → List ℕ → List ℕ
before octet text = before_first (λ x. x == octet) text

abbrev pub behind : ℕ → List ℕ → List ℕ
behind octet text = after_first (λ x. x == octet) text

-- one or more decimal digits, leading zeros among them, that write a number below this one
pub record IsBelow (bound : ℕ) (digits : List ℕ) (number : ℕ) : Type 0 where
  pub numeral : IsNumeral 10 digits
  pub value : digits_value 10 digits ≡ number
  pub fits : number < bound

-- the same of a number that may have a minus before its digits
abbrev pub IsSigned : (bound : ℕ) → List ℕ → ℤ → Type 0
IsSigned bound text z =
    ((n : ℕ) × IsBelow bound text n × (z ≡ pos n))
    ⊎ ((digits : List ℕ) × (n : ℕ) × (text ≡ 45 ∷ digits) × IsBelow (bound + 1) digits n
    × (z ≡ neg_ℤ (pos n)))
