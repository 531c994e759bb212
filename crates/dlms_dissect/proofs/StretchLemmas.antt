-- Which of the kept bytes are reported.
use Rattle.std.proofs.Common.{◌≡◌, ℕ, ◌-◌, min, List, length, take, drop, arith, rules}
use Rattle.std.proofs.lemmas.List.{places, same_lists}

pub untold : (kept : List ℕ) (told before last first : ℕ) → last ≡ min before (length kept) → first ≡ min told last
    → take (last - first) (drop first kept) ≡ drop told (take before kept)
untold kept told before last first ends begins = same_lists _ _ (search (rules, places)) (λ k d h. grind (arith, places))
