-- Texts appended one after the other.
use Rattle.std.proofs.Common.{◌≡◌, ℕ, List, ◌++◌, ap, ◌∙◌, append_assoc}

pub appended : (old front later new last : List ℕ) → later ≡ old ++ front → new ≡ later ++ last → new ≡ old ++ (front ++ last)
appended old front later new last first then = then ∙ ap (λ (t : List ℕ). t ++ last) first ∙ append_assoc old front last

-- the same, if the last text is written by a number
pub appended_by : (write : ℕ → List ℕ) (n m : ℕ) (old front later new : List ℕ) → later ≡ old ++ front → new ≡ later ++ write n → n ≡ m → new ≡ old ++ (front ++ write m)
appended_by write n m old front later new first then same = appended old front later new (write m) first (then ∙ ap (λ (k : ℕ). later ++ write k) same)
