-- Numbers in plain decimal, and the separators after them.
use Rattle.std.proofs.Common.{arith, refl, sym, subst, ap, ◌∙◌, ◌≡◌, ◌≢◌, ◌<◌, ◌+◌, ◌^◌, ℕ, List, [], ◌∷◌, ◌++◌, length, get_or, take, zero, suc, length-append, true, Result, Ok, Err, Option, IfSome, IfNone, false}
use Rattle.std.specs.Result.{result_ok}
use Rattle.std.proofs.lemmas.Bool.Decides.{nat_tests}
use Rattle.std.specs.Str.{IsUtf8}
use Rattle.std.specs.Str.Parse.{AllDigits, IsNumeral, digits_value, ParsesUnsigned}
use Rattle.std.specs.Fmt.{decimal}
use Rattle.std.proofs.lemmas.Str.{IsUtf8-from_ascii}
use Rattle.std.proofs.lemmas.Str.Parse.{IsNumeralModel, numerals_by_value, tells_digits, digit_from_value, parse_plain}
use Rattle.std.proofs.lemmas.Fmt.{IsAscii-decimal, decimal_is_IsNumeral, decimal-digits_value, decimal_injective, first_decimal, decimal_digit}
use Rattle.std.proofs.lemmas.List.{take_more}
use Rattle.dlms_headend.specs.Lines.{is_plain, Lacks, field}

own : IsNumeralModel (AllDigits 10) (digits_value 10)
own = numerals_by_value (AllDigits 10) tells_digits

-- a plain text has no leading zero
plain_zero : (digits : List ℕ) → is_plain digits ≡ true → get_or digits 0 0 ≡ 48 → length digits ≡ 1
plain_zero [] h e = absurd (cc)
plain_zero (first ∷ []) h e = refl
plain_zero (first ∷ next ∷ rest) h e = absurd (grind (arith, nat_tests))

-- plain digits are what is written of their value
pub digits_are_decimal : (digits : List ℕ) (n : ℕ) → is_plain digits ≡ true → IsNumeral 10 digits → digits_value 10 digits ≡ n → n < 2 ^ 32 → digits ≡ decimal n
digits_are_decimal digits n plain numeral value fits =
    let small : digits_value 10 digits < 2 ^ 64 = omega (arith, value) in
    sym (decimal-digits_value own digits numeral.1 numeral.0 (plain_zero digits plain) small) ∙ ap decimal value

-- what is written of a number is one digit or more
pub decimal_is_text : (digits : List ℕ) (n : ℕ) → n < 2 ^ 32 → digits ≡ decimal n → IsUtf8 digits
decimal_is_text digits n fits e = rw e (IsUtf8-from_ascii (decimal n) (IsAscii-decimal n (omega arith)))

pub decimal_is_numeral : (digits : List ℕ) (n : ℕ) → n < 2 ^ 32 → digits ≡ decimal n → IsNumeral 10 digits × (digits_value 10 digits ≡ n)
decimal_is_numeral digits n fits e = rw e (decimal_is_IsNumeral n (omega arith))

pub decimal_is_some : (digits : List ℕ) (n : ℕ) → n < 2 ^ 32 → digits ≡ decimal n → 0 < length digits
decimal_is_some digits n fits e = (decimal_is_numeral digits n fits e).0.0

digits_lack : (separator : ℕ) (digits : List ℕ) → separator < 48 → AllDigits 10 digits → Lacks separator digits
digits_lack separator [] low h = tt
digits_lack separator (c ∷ cs) low h = ((λ e. let inside = digit_from_value c h.0 in absurd (omega (arith, inside, e))), digits_lack separator cs low h.1)

pub decimal_lacks : (digits : List ℕ) (n separator : ℕ) → n < 2 ^ 32 → separator < 48 → digits ≡ decimal n → Lacks separator digits
decimal_lacks digits n separator fits low e = digits_lack separator digits low (decimal_is_numeral digits n fits e).0.1

-- it has no leading zero
no_zero : (first next : ℕ) (rest : List ℕ) (n : ℕ) → n < 2 ^ 32 → first ∷ next ∷ rest ≡ decimal n → first ≢ 48
no_zero first next rest zero fits e f =
    let one : decimal 0 ≡ 48 ∷ [] = decimal_digit 0 (omega arith) in
    let short : first ∷ next ∷ rest ≡ 48 ∷ [] = e ∙ one in
    cc
no_zero first next rest (suc n) fits e f =
    let big : 48 < get_or (decimal (suc n)) 0 0 = first_decimal (suc n) (omega arith) (omega arith) in
    let same : first ≡ get_or (decimal (suc n)) 0 0 = ap (λ (ds : List ℕ). get_or ds 0 0) e in
    absurd (omega arith)

-- it is plain
pub decimal_is_plain : (digits : List ℕ) (n : ℕ) → n < 2 ^ 32 → digits ≡ decimal n → is_plain digits ≡ true
decimal_is_plain [] n fits e = absurd (omega (arith, decimal_is_some [] n fits e))
decimal_is_plain (first ∷ []) n fits e = let no_sign : first ≢ 43 = (decimal_lacks (first ∷ []) n 43 fits (omega arith) e).0 in grind (arith, nat_tests)
decimal_is_plain (first ∷ next ∷ rest) n fits e =
    let no_sign : first ≢ 43 = (decimal_lacks (first ∷ next ∷ rest) n 43 fits (omega arith) e).0 in
    let no_zeros : first ≢ 48 = no_zero first next rest n fits e in
    grind (arith, nat_tests)

-- ---- separators

pub lacks-append : (separator : ℕ) (bytes : List ℕ) (byte : ℕ) → Lacks separator bytes → byte ≢ separator → Lacks separator (bytes ++ byte ∷ [])
lacks-append separator [] byte h k = (k, tt)
lacks-append separator (b ∷ bytes) byte h k = (h.0, lacks-append separator bytes byte h.1 k)

pub lacks-more : (separator : ℕ) (bytes : List ℕ) (at : ℕ) → at < length bytes → Lacks separator (take at bytes) → get_or bytes at 0 ≢ separator → Lacks separator (take (at + 1) bytes)
lacks-more separator bytes at within h k = subst (Lacks separator) (sym (take_more bytes at 0 within)) (lacks-append separator (take at bytes) (get_or bytes at 0) h k)

-- the parts before and after the first separator
pub same_parts : (separator : ℕ) (a b c d : List ℕ) → Lacks separator a → Lacks separator c → a ++ separator ∷ b ≡ c ++ separator ∷ d → (a ≡ c) × (b ≡ d)
same_parts separator [] b [] d h k e = (refl, cc)
same_parts separator [] b (x ∷ c) d h k e = absurd (k.0 (cc))
same_parts separator (x ∷ a) b [] d h k e = absurd (h.0 (cc))
same_parts separator (x ∷ a) b (y ∷ c) d h k e =
    let first : x ≡ y = cc in
    let rest : a ++ separator ∷ b ≡ c ++ separator ∷ d = cc in
    let parts : (a ≡ c) × (b ≡ d) = same_parts separator a b c d h.1 k.1 rest in
    (cc, parts.1)

no_parts : (separator : ℕ) (a c d : List ℕ) → Lacks separator a → a ≡ c ++ separator ∷ d → ⊥
no_parts separator [] [] d h e = cc
no_parts separator [] (y ∷ c) d h e = cc
no_parts separator (x ∷ a) [] d h e = h.0 (cc)
no_parts separator (x ∷ a) (y ∷ c) d h e = let rest : a ≡ c ++ separator ∷ d = cc in no_parts separator a c d h.1 rest

-- a field's number ends at the first separator
pub field_parts : (bytes a b : List ℕ) (n separator : ℕ) (rest : List ℕ) → separator < 48 → n < 2 ^ 32 → bytes ≡ a ++ separator ∷ b → Lacks separator a → bytes ≡ field n separator rest
    → (a ≡ decimal n) × (b ≡ rest)
field_parts bytes a b n separator rest low fits e lacks f = same_parts separator a b (decimal n) rest lacks (decimal_lacks (decimal n) n separator fits low refl) (sym e ∙ f)

pub no_field : (bytes : List ℕ) (n separator : ℕ) (rest : List ℕ) → Lacks separator bytes → bytes ≡ field n separator rest → ⊥
no_field bytes n separator rest lacks f = no_parts separator bytes (decimal n) rest lacks f

-- a field is that of one number
pub same_field : (n m separator : ℕ) (rest more : List ℕ) → separator < 48 → n < 2 ^ 32 → m < 2 ^ 32 → field n separator rest ≡ field m separator more → (n ≡ m) × (rest ≡ more)
same_field n m separator rest more low small fits e =
    let parts = field_parts (field m separator more) (decimal n) rest m separator more low fits (sym e) (decimal_lacks (decimal n) n separator small low refl) refl in
    (decimal_injective n m (omega arith) (omega arith) parts.0, parts.1)

pub field_is_longer : (n separator : ℕ) (rest : List ℕ) → length rest < length (field n separator rest)
field_is_longer n separator rest = omega (arith, length-append (decimal n) (separator ∷ rest))

-- ---- what is parsed of plain digits

plain_unsigned : (digits : List ℕ) → is_plain digits ≡ true → get_or digits 0 0 ≢ 43
plain_unsigned [] h e = absurd (cc)
plain_unsigned (first ∷ []) h e = grind (arith, nat_tests)
plain_unsigned (first ∷ next ∷ rest) h e = grind (arith, nat_tests)

number_some-at : {E : Type 0} (text digits : List ℕ) (r : Result ℕ E) → text ≡ digits → is_plain digits ≡ true → ParsesUnsigned 32 10 text r → IfSome (result_ok r) (λ n. digits ≡ decimal n)
number_some-at text digits (Err e) same plain h = tt
number_some-at {E} text digits (Ok n) same plain h =
    let here : ParsesUnsigned {E = E} 32 10 digits (Ok n) = rw same at h in
    let parts = parse_plain own {E = E} 32 digits (Ok n) here (plain_unsigned digits plain) in
    digits_are_decimal digits n plain (parts.0.1, parts.0.0) (sym parts.1) (omega (arith, parts.0.2, parts.1))

pub number_some : {E : Type 0} (text digits : List ℕ) (r : Result ℕ E) (o : Option ℕ) → text ≡ digits → is_plain digits ≡ true → ParsesUnsigned 32 10 text r → o ≡ result_ok r → IfSome o (λ n. digits ≡ decimal n)
number_some text digits r o same plain h e = rw e (number_some-at text digits r same plain h)

number_none-at : {E : Type 0} (text digits : List ℕ) (r : Result ℕ E) → text ≡ digits → is_plain digits ≡ true → ParsesUnsigned 32 10 text r → IfNone (result_ok r) ((n : ℕ) → n < 2 ^ 32 → digits ≡ decimal n → ⊥)
number_none-at text digits (Ok n) same plain h = tt
number_none-at {E} text digits (Err e) same plain h = λ n fits f.
    let here : ParsesUnsigned {E = E} 32 10 digits (Err e) = rw same at h in
    let numeral = decimal_is_numeral digits n fits f in
    parse_plain own {E = E} 32 digits (Err e) here (plain_unsigned digits plain) (numeral.0.1, numeral.0.0, omega (arith, fits, numeral.1))

pub number_none : {E : Type 0} (text digits : List ℕ) (r : Result ℕ E) (o : Option ℕ) → text ≡ digits → is_plain digits ≡ true → ParsesUnsigned 32 10 text r → o ≡ result_ok r → IfNone o ((n : ℕ) → n < 2 ^ 32 → digits ≡ decimal n → ⊥)
number_none text digits r o same plain h e = rw e (number_none-at text digits r same plain h)

pub not_plain : (digits : List ℕ) → is_plain digits ≡ false → (n : ℕ) → n < 2 ^ 32 → digits ≡ decimal n → ⊥
not_plain digits h n fits e = let yes = decimal_is_plain digits n fits e in cc
