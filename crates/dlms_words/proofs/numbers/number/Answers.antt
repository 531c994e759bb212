use Rattle.std.proofs.Common.{◌≡◌, ◌+◌, ◌^◌, ◌<◌, ◌≤◌, ℕ, get_or, true, arith, rules}
use Rattle.std.specs.Char.{is_ascii_digit}
use Rattle.std.specs.Str.Parse.{digits_value}
use Rattle.dlms_words.specs.Numbers.{IsNumberOf}
use Rattle.dlms_words.proofs.NumberLemmas.{all_digits_more, digit_among, next_value, front_is_no_more}
use Rattle.dlms_words.proofs.numbers.number.Goals as goal

pub loop-digit-preserved : goal.loop-digit-preserved
loop-digit-preserved c =
    let digits = c.args.digits.now in
    let digit : is_ascii_digit (get_or digits c.loop-digit.digit-index 0) ≡ true = search rules in
    let next = next_value digits _ _ c.loop-digit-test.true digit c.loop-digit.invariant.1 in
    (all_digits_more digits _ c.loop-digit-test.true c.loop-digit.invariant.0 digit, grind arith, search rules)

pub returns-then-not-is_ascii_digit-clause-none : goal.returns-then-not-is_ascii_digit-clause-none
returns-then-not-is_ascii_digit-clause-none c = λ n small h.
    let digit = digit_among c.args.digits.now c.loop-digit.digit-index c.loop-digit-test.true h.numeral.1 in
    absurd (search rules)

pub returns-in_err-number-clause-none : goal.returns-in_err-number-clause-none
returns-in_err-number-clause-none c =
    let digits = c.args.digits.now in
    let digit : is_ascii_digit (get_or digits c.loop-digit.digit-index 0) ≡ true = search rules in
    let next = next_value digits _ _ c.loop-digit-test.true digit c.loop-digit.invariant.1 in
    let front = front_is_no_more digits (c.loop-digit.digit-index + 1) in
    let large : 2 ^ 32 ≤ digits_value 10 digits = grind arith in
    let none : (n : ℕ) → n < 2 ^ 32 → IsNumberOf digits n → ⊥ = λ n small h. omega (arith, h.value, large, small) in
    search rules
