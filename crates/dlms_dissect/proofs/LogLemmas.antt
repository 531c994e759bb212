-- The ends of a line, one after another.
use Rattle.std.proofs.Common.{◌≡◌, ℕ, ◌-◌, ◌<◌, ◌||◌, false, List, [], ◌∷◌, length, drop, take, zero, suc, sym, ap, ◌∙◌, arith}
use Rattle.std.proofs.lemmas.List.{length-drop, take_all}
use Rattle.dlms_dissect.specs.Lines.{is_logged, is_marked}

steps : (n : ℕ) (xs : List ℕ) → n < length xs → is_marked (drop n xs) ≡ false → is_logged (drop n xs) ≡ is_logged (drop (suc n) xs)
steps n [] h m = absurd (omega arith)
steps zero (x ∷ xs) h m = ap (λ b. b || is_logged xs) m
steps (suc n) (x ∷ xs) h m = steps n xs (omega arith) m

end-all : (n : ℕ) (xs : List ℕ) → take (length xs - n) (drop n xs) ≡ drop n xs
end-all n xs = take_all (length xs - n) (drop n xs) (let e : length (drop n xs) ≡ length xs - n = length-drop n xs in omega arith)

-- if no mark with pairs begins a tail, it begins a shorter one or none
pub ends-step : (n : ℕ) (xs : List ℕ) → n < length xs → is_marked (take (length xs - n) (drop n xs)) ≡ false
    → is_logged (drop n xs) ≡ is_logged (drop (suc n) xs)
ends-step n xs h m = steps n xs h (ap is_marked (sym (end-all n xs)) ∙ m)
