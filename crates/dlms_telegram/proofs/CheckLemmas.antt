-- The register of the code is the remainder of the division so far.
use Rattle.std.proofs.Common.{◌≡◌, ℕ, zero, suc, ◌+◌, ◌*◌, ◌/◌, ◌%◌, ◌^◌, ◌<◌, ◌≤◌, Bool, true, false, eqb, List, [], ◌∷◌, ◌++◌, length, get_or, replicate, refl, sym, ap, subst, ◌∙◌, inl, inr, arith, length-append, ◌⊎◌, add-one}
use Rattle.std.proofs.lemmas.Nat.{xor_shr, xor_mod, xor_comm, xor_block, shr_below}
use lib.Bits.{bit_xor, xor_zero_r, xor_assoc, xor_shifted}
use Rattle.std.proofs.lemmas.Bool.{cases_eq, eq-eqb, ne_eqb}
use Rattle.dlms_frame.specs.Check.{bits, from_bits, line_bits, differ, added}
use Rattle.dlms_frame.proofs.CheckLemmas.{length-added, added-added}
use Rattle.dlms_telegram.specs.Check.{generator, remainder, dividend_of, check_of}
use Rattle.dlms_telegram.specs.Register.{step, after_octets}

-- ---- the register as a number

-- the number of a bit
abbrev digit : Bool → ℕ
digit false = 0
digit true = 1

abbrev pub steps : ℕ → ℕ → ℕ
steps zero c = c
steps (suc n) c = steps n (step c)

shuffle : (p q r s : ℕ) → bit_xor (bit_xor p q) (bit_xor r s) ≡ bit_xor (bit_xor p r) (bit_xor q s)
shuffle p q r s =
    xor_assoc p q (bit_xor r s)
    ∙ ap (λ (x : ℕ). bit_xor p x) (sym (xor_assoc q r s) ∙ ap (λ (x : ℕ). bit_xor x s) (xor_comm q r) ∙ xor_assoc r q s)
    ∙ sym (xor_assoc p r (bit_xor q s))

low_bit : (n : ℕ) → (n % 2 ≡ 0) ⊎ (n % 2 ≡ 1)
low_bit n = elim (cases_eq (n % 2) 0) [ inl e ↦ inl e | inr ne ↦ inr (omega arith) ]

scaled : (x y : ℕ) → (x ≡ 0) ⊎ (x ≡ 1) → (y ≡ 0) ⊎ (y ≡ 1) → bit_xor x y * 0xA001 ≡ bit_xor (x * 0xA001) (y * 0xA001)
scaled x y (inl d) (inl e) = rw (d, e) refl
scaled x y (inl d) (inr e) = rw (d, e) refl
scaled x y (inr d) (inl e) = rw (d, e) refl
scaled x y (inr d) (inr e) = rw (d, e) refl

pub step-xor : (a b : ℕ) → step (bit_xor a b) ≡ bit_xor (step a) (step b)
unfolding step
step-xor a b =
    let high : bit_xor a b / 2 ≡ bit_xor (a / 2) (b / 2) = xor_shr a b 1 in
    let low : bit_xor a b % 2 ≡ bit_xor (a % 2) (b % 2) = xor_mod a b 1 in
    ap (λ (x : ℕ). bit_xor x (bit_xor a b % 2 * 0xA001)) high
    ∙ ap (λ (x : ℕ). bit_xor (bit_xor (a / 2) (b / 2)) (x * 0xA001)) low
    ∙ ap (λ (x : ℕ). bit_xor (bit_xor (a / 2) (b / 2)) x) (scaled (a % 2) (b % 2) (low_bit a) (low_bit b))
    ∙ shuffle (a / 2) (b / 2) (a % 2 * 0xA001) (b % 2 * 0xA001)

pub steps-xor : (n a b : ℕ) → steps n (bit_xor a b) ≡ bit_xor (steps n a) (steps n b)
steps-xor zero a b = refl
steps-xor (suc n) a b = ap (λ (x : ℕ). steps n x) (step-xor a b) ∙ steps-xor n (step a) (step b)

step_double : (h : ℕ) → step (h * 2) ≡ h
unfolding step
step_double h =
    let high : h * 2 / 2 ≡ h = omega arith in
    let low : h * 2 % 2 ≡ 0 = omega arith in
    ap (λ (x : ℕ). bit_xor x (h * 2 % 2 * 0xA001)) high ∙ ap (λ (x : ℕ). bit_xor h (x * 0xA001)) low ∙ xor_zero_r h

-- ---- the register over bits

-- the register after these bits
abbrev pub run : ℕ → List Bool → ℕ
run c [] = c
run c (bit ∷ rest) = run (step (bit_xor c (digit bit))) rest

digit_low : (v : ℕ) → digit (eqb (v % 2) 1) ≡ v % 2
digit_low v =
    elim (low_bit v) [
      | inl e ↦ ap digit (ne_eqb (v % 2) 1 (λ d. absurd (omega arith))) ∙ sym e
      | inr e ↦ ap digit (eq-eqb (v % 2) 1 e) ∙ sym e
    ]

-- the bits of a number, one after another, or all at once
run_bits : (n v c : ℕ) (rest : List Bool) → v < 2 ^ n → run c (bits n v ++ rest) ≡ run (steps n (bit_xor c v)) rest
run_bits zero v c rest below =
    let none : v ≡ 0 = omega arith in
    ap (λ (x : ℕ). run x rest) (sym (ap (λ (x : ℕ). bit_xor c x) none ∙ xor_zero_r c))
run_bits (suc n) v c rest below =
    let half : v / 2 < 2 ^ n = shr_below v n 1 (let P : ℕ → Type 0 = λ m. v < 2 ^ m in subst P (sym (add-one n)) below) in
    let parts : bit_xor (v / 2 * 2) (v % 2) ≡ v / 2 * 2 + v % 2 = xor_shifted (v / 2) 1 (v % 2) (omega arith) in
    let whole : v / 2 * 2 + v % 2 ≡ v = omega arith in
    let apart : bit_xor c v ≡ bit_xor (bit_xor c (v % 2)) (v / 2 * 2) =
    ap (λ (x : ℕ). bit_xor c x) (sym (parts ∙ whole) ∙ xor_comm (v / 2 * 2) (v % 2)) ∙ sym (xor_assoc c (v % 2) (v / 2 * 2)) in
    let stepped : step (bit_xor c v) ≡ bit_xor (step (bit_xor c (v % 2))) (v / 2) =
    ap step apart ∙ step-xor (bit_xor c (v % 2)) (v / 2 * 2) ∙ ap (λ (x : ℕ). bit_xor (step (bit_xor c (v % 2))) x) (step_double (v / 2)) in
    ap (λ (x : ℕ). run (step (bit_xor c x)) (bits n (v / 2) ++ rest)) (digit_low v)
    ∙ run_bits n (v / 2) (step (bit_xor c (v % 2))) rest half
    ∙ ap (λ (x : ℕ). run (steps n x) rest) (sym stepped)

walk_is : (c : ℕ) (bytes : List ℕ) → ((i : ℕ) → get_or bytes i 0 < 256) → run c (line_bits bytes) ≡ after_octets c bytes
walk_is c [] small = refl
walk_is c (byte ∷ rest) small = run_bits 8 byte c (line_bits rest) (small 0) ∙ walk_is (steps 8 (bit_xor c byte)) rest (λ i. small (suc i))

-- ---- the register as a list

-- the register after one step
abbrev shifted : Bool → List Bool → List Bool
shifted false rest = rest ++ false ∷ []
shifted true rest = added generator (rest ++ false ∷ [])

-- the register after these bits
abbrev run_list : List Bool → List Bool → List Bool
run_list [] message = []
run_list (r ∷ rest) [] = r ∷ rest
run_list (r ∷ rest) (bit ∷ message) = run_list (shifted (differ r bit) rest) message

length-shifted : (d : Bool) (rest : List Bool) → length rest ≡ 15 → length (shifted d rest) ≡ 16
length-shifted false rest len = omega (arith, length-append rest (false ∷ []))
length-shifted true rest len = length-added generator (rest ++ false ∷ []) (omega (arith, length-append rest (false ∷ []))) ∙ omega (arith, length-append rest (false ∷ []))

from_bits-cons : (b : Bool) (rest : List Bool) → from_bits (b ∷ rest) ≡ from_bits rest * 2 + digit b
from_bits-cons false rest = omega arith
from_bits-cons true rest = omega arith

from_bits-push : (xs : List Bool) → from_bits (xs ++ false ∷ []) ≡ from_bits xs
from_bits-push [] = refl
from_bits-push (false ∷ xs) = ap (λ n. 2 * n) (from_bits-push xs)
from_bits-push (true ∷ xs) = ap (λ n. 2 * n + 1) (from_bits-push xs)

differ_digits : (x y : Bool) → digit (differ x y) ≡ bit_xor (digit x) (digit y)
differ_digits false false = refl
differ_digits false true = refl
differ_digits true false = refl
differ_digits true true = refl

digit_small : (b : Bool) → digit b < 2
digit_small false = omega arith
digit_small true = omega arith

-- the bits of a sum of two numbers, the last apart
xor_cons : (a b : ℕ) (x y : Bool) → bit_xor (a * 2 + digit x) (b * 2 + digit y) ≡ bit_xor a b * 2 + digit (differ x y)
xor_cons a b x y = xor_block 1 a b (digit x) (digit y) (digit_small x) (digit_small y) ∙ ap (λ n. bit_xor a b * 2 + n) (sym (differ_digits x y))

from_bits-added : (xs ys : List Bool) → length xs ≤ length ys → from_bits (added xs ys) ≡ bit_xor (from_bits xs) (from_bits ys)
from_bits-added [] ys short = refl
from_bits-added (x ∷ xs) [] short = absurd (omega arith)
from_bits-added (x ∷ xs) (y ∷ ys) short =
    from_bits-cons (differ x y) (added xs ys)
    ∙ ap (λ n. n * 2 + digit (differ x y)) (from_bits-added xs ys (omega arith))
    ∙ sym (xor_cons (from_bits xs) (from_bits ys) x y)
    ∙ ap (λ n. bit_xor n (from_bits ys * 2 + digit y)) (sym (from_bits-cons x xs))
    ∙ ap (λ n. bit_xor (from_bits (x ∷ xs)) n) (sym (from_bits-cons y ys))

-- one step of the list is one step of the number
step_cons : (n : ℕ) (d : Bool) → step (n * 2 + digit d) ≡ bit_xor n (digit d * 0xA001)
unfolding step
step_cons n d =
    let small : digit d < 2 = digit_small d in
    let high : (n * 2 + digit d) / 2 ≡ n = omega arith in
    let low : (n * 2 + digit d) % 2 ≡ digit d = omega arith in
    ap (λ (x : ℕ). bit_xor x ((n * 2 + digit d) % 2 * 0xA001)) high ∙ ap (λ (x : ℕ). bit_xor n (x * 0xA001)) low

from_bits-shifted : (d : Bool) (rest : List Bool) → length rest ≡ 15 → from_bits (shifted d rest) ≡ bit_xor (from_bits rest) (digit d * 0xA001)
from_bits-shifted false rest len = from_bits-push rest ∙ sym (xor_zero_r (from_bits rest))
from_bits-shifted true rest len =
    from_bits-added generator (rest ++ false ∷ []) (omega (arith, length-append rest (false ∷ [])))
    ∙ ap (λ n. bit_xor 0xA001 n) (from_bits-push rest)
    ∙ xor_comm 0xA001 (from_bits rest)

run_list_is : (register message : List Bool) → length register ≡ 16 → from_bits (run_list register message) ≡ run (from_bits register) message
run_list_is [] message len = absurd (omega arith)
run_list_is (r ∷ rest) [] len = refl
run_list_is (r ∷ rest) (bit ∷ message) len =
    let short : length rest ≡ 15 = omega arith in
    let zero_digit : 0 * 2 + digit bit ≡ digit bit = omega arith in
    let stepped : from_bits (shifted (differ r bit) rest) ≡ step (bit_xor (from_bits (r ∷ rest)) (digit bit)) =
    from_bits-shifted (differ r bit) rest short
    ∙ sym (step_cons (from_bits rest) (differ r bit))
    ∙ ap (λ n. step (n * 2 + digit (differ r bit))) (sym (xor_zero_r (from_bits rest)))
    ∙ ap step (sym (xor_cons (from_bits rest) 0 r bit))
    ∙ ap (λ n. step (bit_xor (from_bits rest * 2 + digit r) n)) zero_digit
    ∙ ap (λ n. step (bit_xor n (digit bit))) (sym (from_bits-cons r rest)) in
    run_list_is (shifted (differ r bit) rest) message (length-shifted (differ r bit) rest short)
    ∙ ap (λ n. run n message) stepped

-- ---- the register is what the division leaves

added-zeros : (xs : List Bool) (n : ℕ) → length xs ≡ n → added xs (replicate n false) ≡ xs
added-zeros [] zero len = refl
added-zeros [] (suc n) len = absurd (omega arith)
added-zeros (x ∷ xs) zero len = absurd (omega arith)
added-zeros (false ∷ xs) (suc n) len = ap (λ l. false ∷ l) (added-zeros xs n (omega arith))
added-zeros (true ∷ xs) (suc n) len = ap (λ l. true ∷ l) (added-zeros xs n (omega arith))

added-push : (xs ys : List Bool) → length xs < length ys → added (xs ++ false ∷ []) ys ≡ added xs ys
added-push [] [] short = absurd (omega arith)
added-push [] (y ∷ ys) short = refl
added-push (x ∷ xs) [] short = absurd (omega arith)
added-push (x ∷ xs) (y ∷ ys) short = ap (λ l. differ x y ∷ l) (added-push xs ys (omega arith))

-- one step of the division
divide_step : (d : Bool) (n : ℕ) (rest tail : List Bool) → length rest ≡ 15 → 16 ≤ length tail
    → remainder (suc n) (d ∷ added rest tail) ≡ remainder n (added (shifted d rest) tail)
divide_step false n rest tail len room = ap (λ l. remainder n l) (sym (added-push rest tail (omega arith)))
divide_step true n rest tail len room =
    ap (λ l. remainder n (added generator l)) (sym (added-push rest tail (omega arith)))
    ∙ ap (λ l. remainder n l) (added-added generator (rest ++ false ∷ []) tail
    (omega (arith, length-append rest (false ∷ []))) (omega (arith, length-append rest (false ∷ []))))

divided_is : (register message : List Bool) → length register ≡ 16
    → remainder (length message) (added register (message ++ replicate 16 false)) ≡ run_list register message
divided_is [] message len = absurd (omega arith)
divided_is (r ∷ rest) [] len = added-zeros (r ∷ rest) 16 len
divided_is (r ∷ rest) (bit ∷ message) len =
    let short : length rest ≡ 15 = omega arith in
    divide_step (differ r bit) (length message) rest (message ++ replicate 16 false) short
    (omega (arith, length-append message (replicate 16 false)))
    ∙ divided_is (shifted (differ r bit) rest) message (length-shifted (differ r bit) rest short)

pub zeros-added : (n : ℕ) (xs : List Bool) → n ≤ length xs → added (replicate n false) xs ≡ xs
zeros-added zero xs short = refl
zeros-added (suc n) [] short = absurd (omega arith)
zeros-added (suc n) (x ∷ xs) short = ap (λ t. x ∷ t) (zeros-added n xs (omega arith))

zeros : List Bool
zeros = replicate 16 false

pub check_is_walk : (bytes : List ℕ) → ((i : ℕ) → get_or bytes i 0 < 256) → check_of bytes ≡ after_octets 0 bytes
unfolding check_of zeros
check_is_walk bytes small =
    ap (λ (t : List Bool). from_bits (remainder (length (line_bits bytes)) t)) (sym (zeros-added 16 (dividend_of bytes) (omega (arith, length-append (line_bits bytes) zeros))))
    ∙ ap from_bits (divided_is zeros (line_bits bytes) refl)
    ∙ run_list_is zeros (line_bits bytes) refl ∙ walk_is 0 bytes small
