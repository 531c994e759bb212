-- The field of blocks: its product is commutative and associative, and GHASH is a sum of products with powers.
use Rattle.std.proofs.Common.{◌≡◌, ℕ, zero, suc, ◌+◌, ◌*◌, ◌/◌, ◌%◌, ◌^◌, ◌<◌, ◌≤◌, ◌⊎◌, List, [], ◌∷◌, ◌++◌, length, take, drop, get_or, refl, sym, ap, subst, ◌∙◌, inl, inr, arith}
use Rattle.std.proofs.lemmas.Nat.{xor_comm, xor_lt}
use Rattle.std.proofs.lemmas.List.{length-take}
use Rattle.std.proofs.lemmas.Bool.{cases_eq}
use Rattle.std.proofs.Math.Nat.{pow-suc}
use Rattle.std.specs.Int.{reverse_bits_onto}
use lib.Bits.{bit_xor, xor_zero_r, xor_assoc, xor_shifted}
use Rattle.dlms_cipher.specs.Field.{double_of, part_product, block_product}
use Rattle.dlms_cipher.specs.Gcm.{mirror_of, poly_of, polys, power, ghash, ghash_from}
use Rattle.dlms_cipher.proofs.FieldLemmas.{double_of-xor, doubled_zero, doubled_small, doubled_high, doubled_low, part_none, part_more, product-xor, product_zero, shuffle, low_bit}

-- ---- products stay below 2^128

pub doubled_lt : (p : ℕ) → p < 2 ^ 128 → double_of p < 2 ^ 128
doubled_lt p fits =
    elim (cases_eq (p / 2 ^ 127) 1) [
      | inl e ↦ let P : ℕ → Type 0 = λ n. n < 2 ^ 128 in subst P (doubled_high p fits e) (xor_lt 128 (p * 2 % 2 ^ 128) 135 (omega arith) (omega arith))
      | inr ne ↦ let P : ℕ → Type 0 = λ n. n < 2 ^ 128 in subst P (doubled_low p fits ne) (omega arith)
    ]

bit_lt : (x h : ℕ) → (x ≡ 0) ⊎ (x ≡ 1) → h < 2 ^ 128 → x * h < 2 ^ 128
bit_lt x h (inl e) small = let z : 0 * h ≡ 0 = omega arith in let P : ℕ → Type 0 = λ n. n < 2 ^ 128 in subst P (sym (ap (λ (n : ℕ). n * h) e ∙ z)) (omega arith)
bit_lt x h (inr e) small = let z : 1 * h ≡ h = omega arith in let P : ℕ → Type 0 = λ n. n < 2 ^ 128 in subst P (sym (ap (λ (n : ℕ). n * h) e ∙ z)) small

pub part_lt : (n a h : ℕ) → h < 2 ^ 128 → part_product n a h < 2 ^ 128
part_lt zero a h small = let P : ℕ → Type 0 = λ n. n < 2 ^ 128 in subst P (sym (part_none a h)) (omega arith)
part_lt (suc n) a h small =
    let P : ℕ → Type 0 = λ n. n < 2 ^ 128 in
    subst P (sym (part_more n a h)) (xor_lt 128 (a % 2 * h) (double_of (part_product n (a / 2) h)) (bit_lt (a % 2) h (low_bit a) small) (doubled_lt (part_product n (a / 2) h) (part_lt n (a / 2) h small)))

pub product_lt : (a h : ℕ) → h < 2 ^ 128 → block_product a h < 2 ^ 128
unfolding block_product
product_lt a h small = part_lt 128 a h small

-- ---- the second factor

-- a bit times a sum, and a bit times a double
bit-xor : (x b c : ℕ) → (x ≡ 0) ⊎ (x ≡ 1) → x * bit_xor b c ≡ bit_xor (x * b) (x * c)
bit-xor x b c (inl e) =
    let z : (n : ℕ) → 0 * n ≡ 0 = λ n. omega arith in
    ap (λ (n : ℕ). n * bit_xor b c) e ∙ z (bit_xor b c) ∙ sym (ap (λ (n : ℕ). bit_xor (n * b) (n * c)) e ∙ ap (λ (n : ℕ). bit_xor n (0 * c)) (z b) ∙ z c)
bit-xor x b c (inr e) =
    let z : (n : ℕ) → 1 * n ≡ n = λ n. omega arith in
    ap (λ (n : ℕ). n * bit_xor b c) e ∙ z (bit_xor b c) ∙ sym (ap (λ (n : ℕ). bit_xor (n * b) (n * c)) e ∙ ap (λ (n : ℕ). bit_xor n (1 * c)) (z b) ∙ ap (λ (n : ℕ). bit_xor b n) (z c))

-- a map that distributes over sums and keeps 0 commutes with a product by a bit
bit-double_of : (x b : ℕ) → (x ≡ 0) ⊎ (x ≡ 1) → x * double_of b ≡ double_of (x * b)
bit-double_of x b (inl e) =
    let z : (n : ℕ) → 0 * n ≡ 0 = λ n. omega arith in
    ap (λ (n : ℕ). n * double_of b) e ∙ z (double_of b) ∙ sym (ap (λ (n : ℕ). double_of (n * b)) e ∙ ap (λ (n : ℕ). double_of n) (z b) ∙ doubled_zero)
bit-double_of x b (inr e) =
    let z : (n : ℕ) → 1 * n ≡ n = λ n. omega arith in
    ap (λ (n : ℕ). n * double_of b) e ∙ z (double_of b) ∙ sym (ap (λ (n : ℕ). double_of (n * b)) e ∙ ap (λ (n : ℕ). double_of n) (z b))

part_second_zero : (n a : ℕ) → part_product n a 0 ≡ 0
part_second_zero zero a = part_none a 0
part_second_zero (suc n) a =
    let z : a % 2 * 0 ≡ 0 = omega arith in
    part_more n a 0 ∙ ap (λ (x : ℕ). bit_xor x (double_of (part_product n (a / 2) 0))) z ∙ ap (λ (x : ℕ). double_of x) (part_second_zero n (a / 2)) ∙ doubled_zero

part_second-xor : (n a b c : ℕ) → part_product n a (bit_xor b c) ≡ bit_xor (part_product n a b) (part_product n a c)
part_second-xor zero a b c = part_none a (bit_xor b c) ∙ sym (ap (λ (x : ℕ). bit_xor x (part_product 0 a c)) (part_none a b) ∙ part_none a c)
part_second-xor (suc n) a b c =
    part_more n a (bit_xor b c)
    ∙ ap (λ (x : ℕ). bit_xor x (double_of (part_product n (a / 2) (bit_xor b c)))) (bit-xor (a % 2) b c (low_bit a))
    ∙ ap (λ (x : ℕ). bit_xor (bit_xor (a % 2 * b) (a % 2 * c)) x) (ap (λ (x : ℕ). double_of x) (part_second-xor n (a / 2) b c) ∙ double_of-xor (part_product n (a / 2) b) (part_product n (a / 2) c))
    ∙ shuffle (a % 2 * b) (a % 2 * c) (double_of (part_product n (a / 2) b)) (double_of (part_product n (a / 2) c))
    ∙ ap (λ (x : ℕ). bit_xor x (bit_xor (a % 2 * c) (double_of (part_product n (a / 2) c)))) (sym (part_more n a b))
    ∙ ap (λ (x : ℕ). bit_xor (part_product (suc n) a b) x) (sym (part_more n a c))

part_second-double_of : (n a b : ℕ) → part_product n a (double_of b) ≡ double_of (part_product n a b)
part_second-double_of zero a b = part_none a (double_of b) ∙ sym (ap (λ (x : ℕ). double_of x) (part_none a b) ∙ doubled_zero)
part_second-double_of (suc n) a b =
    part_more n a (double_of b)
    ∙ ap (λ (x : ℕ). bit_xor x (double_of (part_product n (a / 2) (double_of b)))) (bit-double_of (a % 2) b (low_bit a))
    ∙ ap (λ (x : ℕ). bit_xor (double_of (a % 2 * b)) (double_of x)) (part_second-double_of n (a / 2) b)
    ∙ sym (double_of-xor (a % 2 * b) (double_of (part_product n (a / 2) b)))
    ∙ ap (λ (x : ℕ). double_of x) (sym (part_more n a b))

part_second-bit : (n a x b : ℕ) → (x ≡ 0) ⊎ (x ≡ 1) → part_product n a (x * b) ≡ x * part_product n a b
part_second-bit n a x b (inl e) =
    let z : (n : ℕ) → 0 * n ≡ 0 = λ n. omega arith in
    ap (λ (y : ℕ). part_product n a (y * b)) e ∙ ap (λ (y : ℕ). part_product n a y) (z b) ∙ part_second_zero n a ∙ sym (ap (λ (y : ℕ). y * part_product n a b) e ∙ z (part_product n a b))
part_second-bit n a x b (inr e) =
    let z : (n : ℕ) → 1 * n ≡ n = λ n. omega arith in
    ap (λ (y : ℕ). part_product n a (y * b)) e ∙ ap (λ (y : ℕ). part_product n a y) (z b) ∙ sym (ap (λ (y : ℕ). y * part_product n a b) e ∙ z (part_product n a b))

-- ---- the laws

-- the first factors of a product of products change places
turned : (n m a b c : ℕ) → part_product n a (part_product m b c) ≡ part_product m b (part_product n a c)
turned zero m a b c = part_none a (part_product m b c) ∙ sym (ap (λ (x : ℕ). part_product m b x) (part_none a c) ∙ part_second_zero m b)
turned (suc n) m a b c =
    part_more n a (part_product m b c)
    ∙ ap (λ (x : ℕ). bit_xor x (double_of (part_product n (a / 2) (part_product m b c)))) (sym (part_second-bit m b (a % 2) c (low_bit a)))
    ∙ ap (λ (x : ℕ). bit_xor (part_product m b (a % 2 * c)) x) (ap (λ (x : ℕ). double_of x) (turned n m (a / 2) b c) ∙ sym (part_second-double_of m b (part_product n (a / 2) c)))
    ∙ sym (part_second-xor m b (a % 2 * c) (double_of (part_product n (a / 2) c)))
    ∙ ap (λ (x : ℕ). part_product m b x) (sym (part_more n a c))

part_one : (n a : ℕ) → a < 2 ^ n → a < 2 ^ 128 → part_product n a 1 ≡ a
part_one zero a below small = let none : 0 ≡ a = omega arith in part_none a 1 ∙ none
part_one (suc n) a below small =
    let half : a / 2 < 2 ^ n = omega (arith, below, pow-suc 2 n) in
    let one : a % 2 * 1 ≡ a % 2 = omega arith in
    let two : 2 * (a / 2) ≡ a / 2 * 2 ^ 1 = omega arith in
    let whole : a / 2 * 2 ^ 1 + a % 2 ≡ a = omega arith in
    part_more n a 1
    ∙ ap (λ (x : ℕ). bit_xor x (double_of (part_product n (a / 2) 1))) one
    ∙ ap (λ (x : ℕ). bit_xor (a % 2) x) (ap (λ (x : ℕ). double_of x) (part_one n (a / 2) half (omega arith)) ∙ doubled_small (a / 2) (omega arith) ∙ two)
    ∙ xor_comm (a % 2) (a / 2 * 2 ^ 1)
    ∙ xor_shifted (a / 2) 1 (a % 2) (omega arith)
    ∙ whole

pub product_one : (a : ℕ) → a < 2 ^ 128 → block_product a 1 ≡ a
unfolding block_product
product_one a small = part_one 128 a small small

pub product_comm : (a b : ℕ) → a < 2 ^ 128 → b < 2 ^ 128 → block_product a b ≡ block_product b a
unfolding block_product
product_comm a b ha hb =
    ap (λ (x : ℕ). part_product 128 a x) (sym (part_one 128 b hb hb))
    ∙ turned 128 128 a b 1
    ∙ ap (λ (x : ℕ). part_product 128 b x) (part_one 128 a ha ha)

product_turned : (a b c : ℕ) → block_product a (block_product b c) ≡ block_product b (block_product a c)
unfolding block_product
product_turned a b c = turned 128 128 a b c

pub product_assoc : (a b c : ℕ) → a < 2 ^ 128 → b < 2 ^ 128 → c < 2 ^ 128 → block_product (block_product a b) c ≡ block_product a (block_product b c)
product_assoc a b c ha hb hc =
    product_comm (block_product a b) c (product_lt a b hb) hc
    ∙ product_turned c a b
    ∙ ap (λ (x : ℕ). block_product a x) (product_comm c b hc hb)

-- ---- the algorithm of GHASH gives the sum of products

-- each is the polynomial of a block
abbrev pub Small : List ℕ → Type 0
Small xs = (i : ℕ) → get_or xs i 0 < 2 ^ 128

-- p times h, n times over
unfoldable times_over : ℕ → ℕ → ℕ → ℕ
times_over h zero p = p
times_over h (suc n) p = times_over h n (block_product p h)

times_over-xor : (n h a b : ℕ) → times_over h n (bit_xor a b) ≡ bit_xor (times_over h n a) (times_over h n b)
unfolding times_over
times_over-xor zero h a b = refl
times_over-xor (suc n) h a b = ap (times_over h n) (product-xor a b h) ∙ times_over-xor n h (block_product a h) (block_product b h)

times_over-zero : (n h : ℕ) → times_over h n 0 ≡ 0
unfolding times_over
times_over-zero zero h = refl
times_over-zero (suc n) h = ap (times_over h n) (product_zero h) ∙ times_over-zero n h

power_lt : (h n : ℕ) → h < 2 ^ 128 → power h n < 2 ^ 128
unfolding power
power_lt h zero small = omega arith
power_lt h (suc n) small = product_lt (power h n) h small

times_over-power : (n h p : ℕ) → h < 2 ^ 128 → p < 2 ^ 128 → times_over h n p ≡ block_product p (power h n)
unfolding times_over power
times_over-power zero h p hh hp = sym (product_one p hp)
times_over-power (suc n) h p hh hp =
    times_over-power n h (block_product p h) hh (product_lt p h hh)
    ∙ product_assoc p h (power h n) hp hh (power_lt h n hh)
    ∙ ap (λ (x : ℕ). block_product p x) (product_comm h (power h n) hh (power_lt h n hh))

absorbed_is : (h sum : ℕ) (xs : List ℕ) → h < 2 ^ 128 → Small xs → ghash_from h sum xs ≡ bit_xor (times_over h (length xs) sum) (ghash h xs)
unfolding ghash_from times_over ghash
absorbed_is h sum [] hh small = sym (xor_zero_r sum)
absorbed_is h sum (x ∷ xs) hh small =
    absorbed_is h (block_product (bit_xor sum x) h) xs hh (λ i. small (suc i))
    ∙ ap (λ (n : ℕ). bit_xor n (ghash h xs)) (times_over-xor (suc (length xs)) h sum x ∙ ap (λ (n : ℕ). bit_xor (times_over h (suc (length xs)) sum) n) (times_over-power (suc (length xs)) h x hh (small 0)))
    ∙ xor_assoc (times_over h (suc (length xs)) sum) (block_product x (power h (suc (length xs)))) (ghash h xs)

pub ghash_is : (h : ℕ) (xs : List ℕ) → h < 2 ^ 128 → Small xs → ghash_from h 0 xs ≡ ghash h xs
ghash_is h xs hh small = absorbed_is h 0 xs hh small ∙ ap (λ (n : ℕ). bit_xor n (ghash h xs)) (times_over-zero (length xs) h)

-- ---- the polynomials of blocks are small

pub mirrored_lt : (n : ℕ) → mirror_of n < 256
unfolding mirror_of reverse_bits_onto
mirrored_lt n = omega arith

poly_lt : (n : ℕ) (xs : List ℕ) → length xs ≤ n → poly_of xs < 256 ^ n
unfolding poly_of
poly_lt zero [] short = omega arith
poly_lt zero (x ∷ xs) short = absurd (omega arith)
poly_lt (suc n) [] short = omega (arith, poly_lt n [] (omega arith), pow-suc 256 n)
poly_lt (suc n) (x ∷ xs) short = omega (arith, poly_lt n xs (omega arith), pow-suc 256 n, mirrored_lt x)

pub block_lt : (xs : List ℕ) → length xs ≤ 16 → poly_of xs < 2 ^ 128
block_lt xs short = poly_lt 16 xs short

pub small_polys : (n : ℕ) (xs : List ℕ) → Small (polys n xs)
unfolding polys
small_polys zero xs i = omega arith
small_polys (suc n) xs zero = block_lt (take 16 xs) (omega (arith, length-take 16 xs))
small_polys (suc n) xs (suc i) = small_polys n (drop 16 xs) i

pub small_append : (xs ys : List ℕ) → Small xs → Small ys → Small (xs ++ ys)
small_append [] ys hx hy i = hy i
small_append (x ∷ xs) ys hx hy zero = hx 0
small_append (x ∷ xs) ys hx hy (suc i) = small_append xs ys (λ j. hx (suc j)) hy i
