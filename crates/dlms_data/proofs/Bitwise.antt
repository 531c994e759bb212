-- Bits and the bytes that hold them.
use Rattle.std.proofs.Common.{◌≡◌, ℕ, zero, suc, ◌+◌, ◌-◌, ◌*◌, ◌/◌, ◌%◌, ◌^◌, ◌≤◌, ◌<◌, Bool, true, false, nat_le, List, [], ◌∷◌, ◌++◌, length, take, drop, get_or, refl, ap, ap₂, ◌∙◌, sym, inl, inr, arith}
use Rattle.std.proofs.lemmas.List.{length-take, length-drop, take_all, take-append-drop, append-nil, take-append-le}
use Rattle.std.proofs.lemmas.Bool.{cases_lt}
use Rattle.std.proofs.lemmas.Bool.Decides.{nat_tests}
use Rattle.std.proofs.Math.Nat.{mul-add-mod_self_right, mod-eq_of_lt, mod-lt, one-le-pow, pow-suc, mod-le}
use Rattle.std.proofs.Math.Pow.{mod-mod-pow}
use Rattle.dlms_data.specs.Bits.{binary_digits, bits_of, bytes_for, digit, number_of_bits, packed, HoldsBits}

pub length-bits_of : (bytes : List ℕ) → length (bits_of bytes) ≡ 8 * length bytes
length-bits_of [] = refl
length-bits_of (b ∷ bytes) = omega (arith, length-bits_of bytes)

pub length-view : (count : ℕ) (bytes : List ℕ) → length bytes ≡ bytes_for count → length (take count (bits_of bytes)) ≡ count
length-view count bytes h = omega (arith, length-take count (bits_of bytes), length-bits_of bytes, h)

pub holds : (count : ℕ) (bytes : List ℕ) → length bytes ≡ bytes_for count → HoldsBits bytes (take count (bits_of bytes))
holds count bytes h =
    let n = length-view count bytes h in
    (h ∙ ap bytes_for (sym n), ap (λ (k : ℕ). take k (bits_of bytes)) n)

-- ---- the digits of a number

pow_above : (k : ℕ) → 0 < 2 ^ k
pow_above k = let h = one-le-pow k 2 (omega arith) in omega arith

twice : (k : ℕ) → 2 ^ suc k ≡ 2 * 2 ^ k
twice k = omega (arith, pow-suc 2 k)

pub number_below : (k : ℕ) (bits : List Bool) → number_of_bits k bits < 2 ^ k
number_below zero bits = omega arith
number_below (suc k) [] = pow_above (suc k)
number_below (suc k) (true ∷ bits) = omega (arith, twice k, number_below k bits)
number_below (suc k) (false ∷ bits) = omega (arith, twice k, number_below k bits)

-- the highest digit, and the number below it
top_set : (p m : ℕ) → m < p → nat_le p (1 * p + m) ≡ true
top_set p m h = grind (arith, nat_tests)

top_clear : (p m : ℕ) → m < p → nat_le p (0 * p + m) ≡ false
top_clear p m h = grind (arith, nat_tests)

below_top : (d p m : ℕ) → m < p → (d * p + m) % p ≡ m
below_top d p m h = mul-add-mod_self_right d p m ∙ mod-eq_of_lt h

-- the digits of a number that was made of them
pub digits_again : (k : ℕ) (bits : List Bool) → take (length bits) (binary_digits k (number_of_bits k bits)) ≡ take k bits
digits_again zero [] = refl
digits_again zero (b ∷ bits) = refl
digits_again (suc k) [] = refl
digits_again (suc k) (true ∷ bits) =
    let m = number_below k bits in
    rw (top_set (2 ^ k) (number_of_bits k bits) m, below_top 1 (2 ^ k) (number_of_bits k bits) m) (ap (λ (w : List Bool). true ∷ w) (digits_again k bits))
digits_again (suc k) (false ∷ bits) =
    let m = number_below k bits in
    rw (top_clear (2 ^ k) (number_of_bits k bits) m, below_top 0 (2 ^ k) (number_of_bits k bits) m) (ap (λ (w : List Bool). false ∷ w) (digits_again k bits))

split_top : (p n : ℕ) → 0 < p → n < 2 * p → digit (nat_le p n) * p + n % p ≡ n
split_top p n above h =
    elim (cases_lt n p) [
      | inl lt ↦
          let test : nat_le p n ≡ false = grind (arith, nat_tests) in
          rw (test, mod-eq_of_lt lt) (omega arith)
      | inr le ↦
          let test : nat_le p n ≡ true = grind (arith, nat_tests) in
          let parts : n ≡ 1 * p + (n - p) = omega arith in
          let low : n % p ≡ n - p = ap (λ (k : ℕ). k % p) parts ∙ below_top 1 p (n - p) (omega arith) in
          rw (test, low) (omega arith)
    ]

-- the number that was made of a number's digits
pub number_again : (k n : ℕ) (rest : List Bool) → n < 2 ^ k → number_of_bits k (binary_digits k n ++ rest) ≡ n
number_again zero n rest h = omega arith
number_again (suc k) n rest h =
    let low = mod-lt n (pow_above k) in
    rw (number_again k (n % 2 ^ k) rest low) (split_top (2 ^ k) n (pow_above k) (omega (arith, twice k)))

-- the first digits alone
pub number-take : (k u n : ℕ) → u ≤ k → n < 2 ^ k → number_of_bits k (take u (binary_digits k n)) ≡ n - n % 2 ^ (k - u)
number-take zero u n le h = omega arith
number-take (suc k) zero n le h =
    let whole : suc k - 0 ≡ suc k = omega arith in
    let all : n % 2 ^ suc k ≡ n = mod-eq_of_lt h in
    rw (whole, all) (omega arith)
number-take (suc k) (suc u) n le h =
    let low = mod-lt n (pow_above k) in
    let fewer : suc k - suc u ≡ k - u = omega arith in
    let whole : u + (k - u) ≡ k = omega arith in
    let lower : n % 2 ^ k % 2 ^ (k - u) ≡ n % 2 ^ (k - u) = ap (λ (j : ℕ). n % 2 ^ j % 2 ^ (k - u)) (sym whole) ∙ mod-mod-pow n u (k - u) in
    let rest : number_of_bits k (take u (binary_digits k (n % 2 ^ k))) ≡ n % 2 ^ k - n % 2 ^ (k - u) = number-take k u (n % 2 ^ k) (omega arith) low ∙ ap (λ (j : ℕ). n % 2 ^ k - j) lower in
    let within : n % 2 ^ k % 2 ^ (k - u) ≤ n % 2 ^ k = mod-le (n % 2 ^ k) (2 ^ (k - u)) in
    let split = split_top (2 ^ k) n (pow_above k) (omega (arith, twice k)) in
    rw (fewer, rest) (omega (arith, split, within, lower))

-- ---- bytes

take-append : {A : Type 0} (n : ℕ) (xs ys : List A) → take n (xs ++ ys) ≡ take n xs ++ take (n - length xs) ys
take-append {A = A} n [] ys = let e : n - 0 ≡ n = omega arith in rw e (nothing n)
  where
    nothing : (k : ℕ) → take k ys ≡ take k [] ++ take k ys
    nothing zero = refl
    nothing (suc k) = refl
take-append {A = A} zero (x ∷ xs) ys = let e : 0 - suc (length xs) ≡ 0 = omega arith in rw e refl
take-append {A = A} (suc n) (x ∷ xs) ys =
    let e : suc n - suc (length xs) ≡ n - length xs = omega arith in
    rw e (ap (λ (w : List A). x ∷ w) (take-append n xs ys))

pub length-packed : (k : ℕ) (bits : List Bool) → length (packed k bits) ≡ k
length-packed zero bits = refl
length-packed (suc k) bits = ap suc (length-packed k (drop 8 bits))

-- the bits of bytes that were made of them
pub bits_again : (k : ℕ) (bits : List Bool) → length bits ≤ 8 * k → take (length bits) (bits_of (packed k bits)) ≡ bits
bits_again zero [] h = refl
bits_again zero (b ∷ bits) h = absurd (omega arith)
bits_again (suc k) bits h =
    let ds = binary_digits 8 (number_of_bits 8 bits) in
    let fewer : length bits - length ds ≡ length (drop 8 bits) = omega (arith, length-drop 8 bits) in
    let rest = bits_again k (drop 8 bits) (omega (arith, length-drop 8 bits)) in
    take-append (length bits) ds (bits_of (packed k (drop 8 bits)))
    ∙ ap₂ (λ (a b : List Bool). a ++ b) (digits_again 8 bits) (ap (λ (n : ℕ). take n (bits_of (packed k (drop 8 bits)))) fewer ∙ rest)
    ∙ take-append-drop 8 bits

pub packed_holds : (bits : List Bool) → HoldsBits (packed (bytes_for (length bits)) bits) bits
packed_holds bits =
    (length-packed (bytes_for (length bits)) bits, bits_again (bytes_for (length bits)) bits (omega arith))

-- whole bytes at the front, and the rest
packed_front : (full total m n used : ℕ) (bytes : List ℕ) → ((i : ℕ) → get_or bytes i 0 < 256) → total ≡ full + m → n ≡ 8 * full + used → full ≤ length bytes
    → packed total (take n (bits_of bytes)) ≡ take full bytes ++ packed m (take used (bits_of (drop full bytes)))
packed_front zero total m n used bytes are is_total is_n le =
    let a : total ≡ m = omega arith in
    let b : n ≡ used = omega arith in
    rw (a, b) refl
packed_front (suc full) zero m n used bytes are is_total is_n le = absurd (omega arith)
packed_front (suc full) (suc total) m n used [] are is_total is_n le = absurd (omega arith)
packed_front (suc full) (suc total) m n used (b ∷ bytes) are is_total is_n le =
    let ds = binary_digits 8 b in
    let long : take n ds ≡ ds = take_all n ds (omega arith) in
    let fewer : n - length ds ≡ n - 8 = refl in
    let parts : take n (ds ++ bits_of bytes) ≡ ds ++ take (n - 8) (bits_of bytes) = take-append n ds (bits_of bytes) ∙ ap (λ (w : List Bool). w ++ take (n - 8) (bits_of bytes)) long in
    let first : number_of_bits 8 (ds ++ take (n - 8) (bits_of bytes)) ≡ b = number_again 8 b (take (n - 8) (bits_of bytes)) (are 0) in
    let rest = packed_front full total m (n - 8) used bytes (λ i. are (suc i)) (omega arith) (omega arith) (omega arith) in
    ap (packed (suc total)) parts ∙ ap₂ (λ (x : ℕ) (w : List ℕ). x ∷ w) first rest

-- if the last byte is full
pub packed_full : (n : ℕ) (bytes : List ℕ) → ((i : ℕ) → get_or bytes i 0 < 256) → length bytes ≡ bytes_for n → n % 8 ≡ 0 → packed (bytes_for n) (take n (bits_of bytes)) ≡ take (n / 8) bytes
packed_full n bytes are len none_left =
    packed_front (n / 8) (bytes_for n) 0 n 0 bytes are (omega arith) (omega arith) (omega arith) ∙ append-nil (take (n / 8) bytes)

-- if it has bits to spare
pub packed_part : (n : ℕ) (bytes : List ℕ) → ((i : ℕ) → get_or bytes i 0 < 256) → length bytes ≡ bytes_for n → 0 < n % 8
    → packed (bytes_for n) (take n (bits_of bytes)) ≡ take (n / 8) bytes ++ (get_or bytes (n / 8) 0 - get_or bytes (n / 8) 0 % 2 ^ (8 - n % 8)) ∷ []
packed_part n bytes are len some_left =
    let b = get_or bytes (n / 8) 0 in
    let one_left : drop (n / 8) bytes ≡ b ∷ [] = last_one (n / 8) bytes (omega arith) in
    let few : take (n % 8) (binary_digits 8 b ++ []) ≡ take (n % 8) (binary_digits 8 b) = take-append-le (n % 8) (binary_digits 8 b) [] (omega arith) in
    let last : number_of_bits 8 (take (n % 8) (binary_digits 8 b ++ [])) ≡ b - b % 2 ^ (8 - n % 8) = ap (number_of_bits 8) few ∙ number-take 8 (n % 8) b (omega arith) (are (n / 8)) in
    packed_front (n / 8) (bytes_for n) 1 n (n % 8) bytes are (omega arith) (omega arith) (omega arith)
    ∙ ap (λ (w : List ℕ). take (n / 8) bytes ++ packed 1 (take (n % 8) (bits_of w))) one_left
    ∙ ap (λ (x : ℕ). take (n / 8) bytes ++ x ∷ []) last
  where
    last_one : (k : ℕ) (w : List ℕ) → length w ≡ suc k → drop k w ≡ get_or w k 0 ∷ []
    last_one k [] h = absurd (omega arith)
    last_one zero (x ∷ []) h = refl
    last_one zero (x ∷ y ∷ w) h = absurd (omega arith)
    last_one (suc k) (x ∷ w) h = last_one k w (omega arith)
