-- Numbers as text.
use Rattle.std.proofs.Common.{◌≡◌, ℕ, zero, suc, ◌+◌, ◌-◌, ◌*◌, ◌<◌, ◌≤◌, true, List, [], ◌∷◌, ◌++◌, length, get_or, take, drop, refl, sym, ap, subst, ◌∙◌, arith, take-append-drop}
use Rattle.std.specs.Char.{digit_value, is_ascii_digit}
use Rattle.std.specs.Str.Parse.{AllDigits, digits_value, digits_value_after}
use Rattle.std.proofs.lemmas.Bool.Decides.{nat_tests}
use Rattle.std.proofs.lemmas.Int.Digits.{digits_value_more}

more : (digits : List ℕ) (i : ℕ) → i < length digits → AllDigits 10 (take i digits) → is_ascii_digit (get_or digits i 0) ≡ true → AllDigits 10 (take (suc i) digits)
more [] i inside all digit = absurd (omega arith)
more (d ∷ digits) zero inside all digit = (grind (arith, nat_tests), tt)
more (d ∷ digits) (suc i) inside all digit = (all.0, more digits i (omega arith) all.1 digit)

-- a digit more
pub all_digits_more : (digits : List ℕ) (i : ℕ) → i < length digits → AllDigits 10 (take i digits) → is_ascii_digit (get_or digits i 0) ≡ true → AllDigits 10 (take (i + 1) digits)
all_digits_more digits i inside all digit =
    let same : suc i ≡ i + 1 = omega arith in
    subst (λ n. AllDigits 10 (take n digits)) same (more digits i inside all digit)

-- each of them is one
pub digit_among : (digits : List ℕ) (i : ℕ) → i < length digits → AllDigits 10 digits → is_ascii_digit (get_or digits i 0) ≡ true
digit_among [] i inside all = absurd (omega arith)
digit_among (d ∷ digits) zero inside all = grind (arith, nat_tests)
digit_among (d ∷ digits) (suc i) inside all = digit_among digits i (omega arith) all.1

pub next_value : (digits : List ℕ) (i number : ℕ) → i < length digits → is_ascii_digit (get_or digits i 0) ≡ true → number ≡ digits_value 10 (take i digits) → digits_value 10 (take (i + 1) digits) ≡ number * 10 + (get_or digits i 0 - 48)
next_value digits i number inside digit value =
    let worth : digit_value (get_or digits i 0) ≡ get_or digits i 0 - 48 = grind (arith, nat_tests) in
    rw (digits_value_more 10 digits i inside, worth, value)

grows : (n : ℕ) (digits : List ℕ) → n ≤ digits_value_after 10 n digits
grows n [] = omega arith
grows n (d ∷ digits) = omega (arith, grows (n * 10 + digit_value d) digits)

after_append : (n : ℕ) (front back : List ℕ) → digits_value_after 10 n (front ++ back) ≡ digits_value_after 10 (digits_value_after 10 n front) back
after_append n [] back = refl
after_append n (d ∷ front) back = after_append (n * 10 + digit_value d) front back

-- the digits at the front are worth no more than all of them
pub front_is_no_more : (digits : List ℕ) (i : ℕ) → digits_value 10 (take i digits) ≤ digits_value 10 digits
front_is_no_more digits i =
    let whole = ap (digits_value 10) (sym (take-append-drop i digits)) ∙ after_append 0 (take i digits) (drop i digits) in
    rw whole (grows _ (drop i digits))
