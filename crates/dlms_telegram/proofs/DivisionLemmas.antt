-- What long division leaves is the remainder, and there is no other.
use Rattle.std.proofs.Common.{◌≡◌, ℕ, zero, suc, ◌+◌, ◌≤◌, Bool, true, false, List, [], ◌∷◌, ◌++◌, length, replicate, refl, sym, ap, ◌∙◌, arith, length-append}
use Rattle.std.proofs.lemmas.List.{length-replicate}
use Rattle.dlms_frame.specs.Check.{line_bits, differ, added, from_bits}
use Rattle.dlms_frame.proofs.CheckLemmas.{length-added, added-added}
use Rattle.dlms_telegram.specs.Check.{generator, remainder, dividend_of, check_of, times_divisor, IsRemainder}
use Rattle.dlms_telegram.proofs.CheckLemmas.{zeros-added}

differ_twice : (x y : Bool) → differ x (differ x y) ≡ y
differ_twice false y = refl
differ_twice true false = refl
differ_twice true true = refl

added_twice : (xs ys : List Bool) → length xs ≤ length ys → added xs (added xs ys) ≡ ys
added_twice [] ys short = refl
added_twice (x ∷ xs) [] short = absurd (omega arith)
added_twice (x ∷ xs) (y ∷ ys) short =
    ap (λ b. b ∷ added xs (added xs ys)) (differ_twice x y) ∙ ap (λ t. y ∷ t) (added_twice xs ys (omega arith))

length-times : (q : List Bool) → length (times_divisor q) ≡ length q + 16
length-times [] = refl
length-times (false ∷ q) = omega (arith, length-times q)
length-times (true ∷ q) = omega (arith, length-times q, length-added generator (times_divisor q) (omega (arith, length-times q)))

length-low : (q left : List Bool) → length left ≡ 16 → length (replicate (length q) false ++ left) ≡ length q + 16
length-low q left len = omega (arith, length-append (replicate (length q) false) left, length-replicate (length q) false)

-- the quotient's leading coefficient, taken back
taken_back : (q left : List Bool) → length left ≡ 16
    → added (added generator (times_divisor q)) (replicate (length q) false ++ left) ≡ added generator (added (times_divisor q) (replicate (length q) false ++ left))
taken_back q left len =
    sym (added-added generator (times_divisor q) (replicate (length q) false ++ left) (omega (arith, length-times q)) (omega (arith, length-times q, length-low q left len)))

pub divides : (n : ℕ) (dividend : List Bool) → length dividend ≡ n + 16 → IsRemainder dividend (remainder n dividend)
divides zero dividend len = record { quotient = []; degree = omega arith; equation = sym (zeros-added 16 dividend (omega arith)) }
divides (suc n) [] len = absurd (omega arith)
divides (suc n) (false ∷ rest) len =
    let h = divides n rest (omega arith) in
    record { quotient = false ∷ h.quotient; degree = h.degree; equation = ap (λ t. false ∷ t) h.equation }
divides (suc n) (true ∷ rest) len =
    let long : 16 ≤ length rest = omega arith in
    let h = divides n (added generator rest) (length-added generator rest long ∙ omega arith) in
    record {
      quotient = true ∷ h.quotient;
      degree = h.degree;
      equation = ap (λ t. true ∷ t) (sym (added_twice generator rest long) ∙ ap (λ t. added generator t) h.equation ∙ sym (taken_back h.quotient (remainder n (added generator rest)) h.degree));
    }

-- a product of the divisor and a part of lower degree leave that part
left_of : (q left : List Bool) → length left ≡ 16 → remainder (length q) (added (times_divisor q) (replicate (length q) false ++ left)) ≡ left
left_of [] left len = zeros-added 16 left (omega arith)
left_of (false ∷ q) left len = left_of q left len
left_of (true ∷ q) left len =
    ap (λ t. remainder (length q) (added generator t)) (taken_back q left len)
    ∙ ap (λ t. remainder (length q) t) (added_twice generator (added (times_divisor q) (replicate (length q) false ++ left))
    (omega (arith, length-added (times_divisor q) (replicate (length q) false ++ left) (omega (arith, length-times q, length-low q left len)), length-low q left len)))
    ∙ left_of q left len

pub only_left : (n : ℕ) (dividend left : List Bool) → length dividend ≡ n + 16 → IsRemainder dividend left → remainder n dividend ≡ left
only_left n dividend left len h =
    let size : length dividend ≡ length h.quotient + 16 =
    ap length h.equation ∙ length-added (times_divisor h.quotient) _ (omega (arith, length-times h.quotient, length-low h.quotient left h.degree)) ∙ length-low h.quotient left h.degree in
    let same : n ≡ length h.quotient = omega arith in
    ap (λ k. remainder k dividend) same ∙ ap (λ t. remainder (length h.quotient) t) h.equation ∙ left_of h.quotient left h.degree

length-dividend : (octets : List ℕ) → length (dividend_of octets) ≡ length (line_bits octets) + 16
length-dividend octets = length-append (line_bits octets) (replicate 16 false)

pub some_left : (octets : List ℕ) → (left : List Bool) × IsRemainder (dividend_of octets) left
some_left octets = (remainder (length (line_bits octets)) (dividend_of octets), divides (length (line_bits octets)) (dividend_of octets) (length-dividend octets))

pub check_is_left : (octets : List ℕ) (left : List Bool) → IsRemainder (dividend_of octets) left → check_of octets ≡ from_bits left
unfolding check_of
check_is_left octets left h = ap from_bits (only_left (length (line_bits octets)) (dividend_of octets) left (length-dividend octets) h)
