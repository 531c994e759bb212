-- The field of blocks: the entries of its tables, and the product four coefficients at a time.
use Rattle.std.proofs.Common.{◌≡◌, ℕ, zero, suc, ◌+◌, ◌-◌, ◌*◌, ◌/◌, ◌%◌, ◌^◌, ◌<◌, ◌⊎◌, true, eqb, get_or, refl, sym, ap, ◌∙◌, inl, inr, arith}
use Rattle.std.proofs.lemmas.Nat.{xor_shr, xor_mod, xor_block, xor_comm, shr-shr, and_mask}
use Rattle.std.proofs.Math.Nat.{pow-suc}
use Rattle.std.proofs.lemmas.Bool.{agree_below_at, eqb-true, cases_eq}
use lib.Bits.{bit_xor, bit_and, xor_zero_r, xor_assoc, xor_shifted, xor_self}
use Rattle.dlms_cipher.specs.declared.tables.TheConstants.{MIRRORED, REDUCED}
use Rattle.dlms_cipher.specs.Field.{times_x, product, double_of, part_product, block_product}
use Rattle.dlms_cipher.specs.Gcm.{mirror_of}
use Rattle.std.specs.Int.{reverse_bits_onto}

pub mirrored_at : (k : ℕ) → k < 256 → get_or MIRRORED k 0 ≡ mirror_of k
unfolding mirror_of reverse_bits_onto
mirrored_at k below = eqb-true (get_or MIRRORED k 0) (mirror_of k) (agree_below_at (λ n. eqb (get_or MIRRORED n 0) (mirror_of n)) (λ n. true) 256 k refl below)

-- x^4 times p
abbrev pub four_times : ℕ → ℕ
four_times p = double_of (double_of (double_of (double_of p)))

reduced_at : (k : ℕ) → k < 16 → get_or REDUCED k 0 ≡ four_times (k * 2 ^ 124)
unfolding times_x
reduced_at k below = eqb-true (get_or REDUCED k 0) (four_times (k * 2 ^ 124)) (agree_below_at (λ n. eqb (get_or REDUCED n 0) (four_times (n * 2 ^ 124))) (λ n. true) 16 k refl below)

-- ---- doubling and products distribute over sums

pub shuffle : (p q r s : ℕ) → bit_xor (bit_xor p q) (bit_xor r s) ≡ bit_xor (bit_xor p r) (bit_xor q s)
shuffle p q r s =
    xor_assoc p q (bit_xor r s)
    ∙ ap (λ (x : ℕ). bit_xor p x) (sym (xor_assoc q r s) ∙ ap (λ (x : ℕ). bit_xor x s) (xor_comm q r) ∙ xor_assoc r q s)
    ∙ sym (xor_assoc p r (bit_xor q s))

pub low_bit : (n : ℕ) → (n % 2 ≡ 0) ⊎ (n % 2 ≡ 1)
low_bit n = elim (cases_eq (n % 2) 0) [ inl e ↦ inl e | inr ne ↦ inr (omega arith) ]

pub scaled_bits : (m x y : ℕ) → (x ≡ 0) ⊎ (x ≡ 1) → (y ≡ 0) ⊎ (y ≡ 1) → bit_xor x y * m ≡ bit_xor (x * m) (y * m)
scaled_bits m x y (inl d) (inl e) =
    let z : 0 * m ≡ 0 = omega arith in
    ap (λ (n : ℕ). bit_xor n y * m) d ∙ ap (λ (n : ℕ). n * m) e ∙ z
    ∙ sym (ap (λ (n : ℕ). bit_xor n (y * m)) (ap (λ (n : ℕ). n * m) d ∙ z) ∙ ap (λ (n : ℕ). n * m) e ∙ z)
scaled_bits m x y (inl d) (inr e) =
    let z : 0 * m ≡ 0 = omega arith in
    ap (λ (n : ℕ). bit_xor n y * m) d
    ∙ sym (ap (λ (n : ℕ). bit_xor n (y * m)) (ap (λ (n : ℕ). n * m) d ∙ z))
scaled_bits m x y (inr d) (inl e) =
    let z : 0 * m ≡ 0 = omega arith in
    ap (λ (n : ℕ). n * m) (ap (λ (n : ℕ). bit_xor x n) e ∙ xor_zero_r x)
    ∙ sym (ap (λ (n : ℕ). bit_xor (x * m) n) (ap (λ (n : ℕ). n * m) e ∙ z) ∙ xor_zero_r (x * m))
scaled_bits m x y (inr d) (inr e) =
    let z : 0 * m ≡ 0 = omega arith in
    ap (λ (n : ℕ). bit_xor n y * m) d ∙ ap (λ (n : ℕ). bit_xor 1 n * m) e ∙ z
    ∙ sym (ap (λ (n : ℕ). bit_xor (x * m) (n * m)) (e ∙ sym d) ∙ xor_self (x * m))

-- a bit of a sum
bit-xor : (a b k : ℕ) → bit_xor a b / 2 ^ k % 2 ≡ bit_xor (a / 2 ^ k % 2) (b / 2 ^ k % 2)
bit-xor a b k = ap (λ (n : ℕ). n % 2) (xor_shr a b k) ∙ xor_mod (a / 2 ^ k) (b / 2 ^ k) 1

pub twice-xor : (a b : ℕ) → 2 * bit_xor a b ≡ bit_xor (2 * a) (2 * b)
twice-xor a b =
    let l : 2 * a ≡ a * 2 ^ 1 + 0 = omega arith in
    let r : 2 * b ≡ b * 2 ^ 1 + 0 = omega arith in
    let w : 2 * bit_xor a b ≡ bit_xor a b * 2 ^ 1 + 0 = omega arith in
    w ∙ sym (ap (λ (n : ℕ). bit_xor n (2 * b)) l ∙ ap (λ (n : ℕ). bit_xor (a * 2 ^ 1 + 0) n) r ∙ xor_block 1 a b 0 0 (omega arith) (omega arith))

pub double_of-xor : (a b : ℕ) → double_of (bit_xor a b) ≡ bit_xor (double_of a) (double_of b)
unfolding times_x
double_of-xor a b =
    ap (λ (n : ℕ). bit_xor n (bit_xor a b / 2 ^ 127 % 2 * (2 ^ 128 + 0x87))) (twice-xor a b)
    ∙ ap (λ (n : ℕ). bit_xor (bit_xor (2 * a) (2 * b)) n)
    (ap (λ (n : ℕ). n * (2 ^ 128 + 0x87)) (bit-xor a b 127) ∙ scaled_bits (2 ^ 128 + 0x87) (a / 2 ^ 127 % 2) (b / 2 ^ 127 % 2) (low_bit (a / 2 ^ 127)) (low_bit (b / 2 ^ 127)))
    ∙ shuffle (2 * a) (2 * b) (a / 2 ^ 127 % 2 * (2 ^ 128 + 0x87)) (b / 2 ^ 127 % 2 * (2 ^ 128 + 0x87))

-- the first factor is a sum
pub part-xor : (n a b h : ℕ) → part_product n (bit_xor a b) h ≡ bit_xor (part_product n a h) (part_product n b h)
unfolding product
part-xor zero a b h = refl
part-xor (suc n) a b h =
    ap (λ (x : ℕ). bit_xor x (double_of (part_product n (bit_xor a b / 2) h)))
    (ap (λ (x : ℕ). x * h) (xor_mod a b 1) ∙ scaled_bits h (a % 2) (b % 2) (low_bit a) (low_bit b))
    ∙ ap (λ (x : ℕ). bit_xor (bit_xor (a % 2 * h) (b % 2 * h)) x)
    (ap (λ (x : ℕ). double_of (part_product n x h)) (xor_shr a b 1) ∙ ap double_of (part-xor n (a / 2) (b / 2) h) ∙ double_of-xor (part_product n (a / 2) h) (part_product n (b / 2) h))
    ∙ shuffle (a % 2 * h) (b % 2 * h) (double_of (part_product n (a / 2) h)) (double_of (part_product n (b / 2) h))

pub product-xor : (a b h : ℕ) → block_product (bit_xor a b) h ≡ bit_xor (block_product a h) (block_product b h)
unfolding block_product
product-xor a b h = part-xor 128 a b h

-- ---- four coefficients at a time

-- doubling distributes over sums
lifted : (u q r : ℕ) → bit_xor u (double_of (bit_xor q r)) ≡ bit_xor (bit_xor u (double_of q)) (double_of r)
lifted u q r = ap (λ (n : ℕ). bit_xor u n) (double_of-xor q r) ∙ sym (xor_assoc u (double_of q) (double_of r))

pub doubled_zero : double_of 0 ≡ 0
unfolding times_x
doubled_zero = refl

pub part_more : (n a h : ℕ) → part_product (suc n) a h ≡ bit_xor (a % 2 * h) (double_of (part_product n (a / 2) h))
unfolding product
part_more n a h = refl

-- splits off the lowest four coefficients
part_four : (n a h : ℕ) → part_product (suc (suc (suc (suc n)))) a h
    ≡ bit_xor (bit_xor (a % 2 * h) (double_of (bit_xor (a / 2 % 2 * h) (double_of (bit_xor (a / 2 / 2 % 2 * h) (double_of (a / 2 / 2 / 2 % 2 * h)))))))
    (four_times (part_product n (a / 2 / 2 / 2 / 2) h))
part_four n a h =
    let u0 = a % 2 * h in
    let u1 = a / 2 % 2 * h in
    let u2 = a / 2 / 2 % 2 * h in
    let u3 = a / 2 / 2 / 2 % 2 * h in
    let p = part_product n (a / 2 / 2 / 2 / 2) h in
    let s3 : part_product (suc n) (a / 2 / 2 / 2) h ≡ bit_xor u3 (double_of p) = part_more n (a / 2 / 2 / 2) h in
    let s2 : part_product (suc (suc n)) (a / 2 / 2) h ≡ bit_xor (bit_xor u2 (double_of u3)) (double_of (double_of p)) =
    part_more (suc n) (a / 2 / 2) h ∙ ap (λ (x : ℕ). bit_xor u2 (double_of x)) s3 ∙ lifted u2 u3 (double_of p) in
    let s1 : part_product (suc (suc (suc n))) (a / 2) h ≡ bit_xor (bit_xor u1 (double_of (bit_xor u2 (double_of u3)))) (double_of (double_of (double_of p))) =
    part_more (suc (suc n)) (a / 2) h ∙ ap (λ (x : ℕ). bit_xor u1 (double_of x)) s2 ∙ lifted u1 (bit_xor u2 (double_of u3)) (double_of (double_of p)) in
    part_more (suc (suc (suc n))) a h ∙ ap (λ (x : ℕ). bit_xor u0 (double_of x)) s1 ∙ lifted u0 (bit_xor u1 (double_of (bit_xor u2 (double_of u3)))) (double_of (double_of (double_of p)))

pub part_none : (a h : ℕ) → part_product 0 a h ≡ 0
unfolding product
part_none a h = refl

four_zero : four_times 0 ≡ 0
unfolding times_x
four_zero = refl

-- the table's entry for the lowest four coefficients
part_low : (a h : ℕ) → part_product 4 (a % 16) h
    ≡ bit_xor (a % 2 * h) (double_of (bit_xor (a / 2 % 2 * h) (double_of (bit_xor (a / 2 / 2 % 2 * h) (double_of (a / 2 / 2 / 2 % 2 * h))))))
part_low a h =
    let e0 : a % 16 % 2 ≡ a % 2 = omega arith in
    let e1 : a % 16 / 2 % 2 ≡ a / 2 % 2 = omega arith in
    let e2 : a % 16 / 2 / 2 % 2 ≡ a / 2 / 2 % 2 = omega arith in
    let e3 : a % 16 / 2 / 2 / 2 % 2 ≡ a / 2 / 2 / 2 % 2 = omega arith in
    part_four 0 (a % 16) h
    ∙ ap (λ (x : ℕ). bit_xor (bit_xor (a % 16 % 2 * h) (double_of (bit_xor (a % 16 / 2 % 2 * h) (double_of (bit_xor (a % 16 / 2 / 2 % 2 * h) (double_of (a % 16 / 2 / 2 / 2 % 2 * h))))))) (four_times x)) (part_none (a % 16 / 2 / 2 / 2 / 2) h)
    ∙ ap (λ (x : ℕ). bit_xor (bit_xor (a % 16 % 2 * h) (double_of (bit_xor (a % 16 / 2 % 2 * h) (double_of (bit_xor (a % 16 / 2 / 2 % 2 * h) (double_of (a % 16 / 2 / 2 / 2 % 2 * h))))))) x) four_zero
    ∙ xor_zero_r _
    ∙ ap (λ (x : ℕ). bit_xor (x * h) (double_of (bit_xor (a % 16 / 2 % 2 * h) (double_of (bit_xor (a % 16 / 2 / 2 % 2 * h) (double_of (a % 16 / 2 / 2 / 2 % 2 * h))))))) e0
    ∙ ap (λ (x : ℕ). bit_xor (a % 2 * h) (double_of (bit_xor (x * h) (double_of (bit_xor (a % 16 / 2 / 2 % 2 * h) (double_of (a % 16 / 2 / 2 / 2 % 2 * h))))))) e1
    ∙ ap (λ (x : ℕ). bit_xor (a % 2 * h) (double_of (bit_xor (a / 2 % 2 * h) (double_of (bit_xor (x * h) (double_of (a % 16 / 2 / 2 / 2 % 2 * h))))))) e2
    ∙ ap (λ (x : ℕ). bit_xor (a % 2 * h) (double_of (bit_xor (a / 2 % 2 * h) (double_of (bit_xor (a / 2 / 2 % 2 * h) (double_of (x * h))))))) e3

part_step : (n a h : ℕ) → part_product (suc (suc (suc (suc n)))) a h ≡ bit_xor (part_product 4 (a % 16) h) (four_times (part_product n (a / 16) h))
part_step n a h =
    let e : a / 2 / 2 / 2 / 2 ≡ a / 16 = omega arith in
    part_four n a h
    ∙ ap (λ (x : ℕ). bit_xor x (four_times (part_product n (a / 2 / 2 / 2 / 2) h))) (sym (part_low a h))
    ∙ ap (λ (x : ℕ). bit_xor (part_product 4 (a % 16) h) (four_times (part_product n x h))) e

-- ---- x^4 by the table

pub doubled_small : (p : ℕ) → p < 2 ^ 127 → double_of p ≡ 2 * p
unfolding times_x
doubled_small p small =
    let none : p / 2 ^ 127 % 2 ≡ 0 = omega arith in
    ap (λ (x : ℕ). bit_xor (2 * p) (x * (2 ^ 128 + 0x87))) none ∙ xor_zero_r (2 * p)

four_small : (p : ℕ) → p < 2 ^ 124 → four_times p ≡ p * 16
four_small p small =
    ap (λ (x : ℕ). double_of (double_of (double_of x))) (doubled_small p (omega arith))
    ∙ ap (λ (x : ℕ). double_of (double_of x)) (doubled_small (2 * p) (omega arith))
    ∙ ap double_of (doubled_small (2 * (2 * p)) (omega arith))
    ∙ doubled_small (2 * (2 * (2 * p))) (omega arith)
    ∙ omega arith

four-xor : (a b : ℕ) → four_times (bit_xor a b) ≡ bit_xor (four_times a) (four_times b)
four-xor a b =
    ap (λ (x : ℕ). double_of (double_of (double_of x))) (double_of-xor a b)
    ∙ ap (λ (x : ℕ). double_of (double_of x)) (double_of-xor (double_of a) (double_of b))
    ∙ ap double_of (double_of-xor (double_of (double_of a)) (double_of (double_of b)))
    ∙ double_of-xor (double_of (double_of (double_of a))) (double_of (double_of (double_of b)))

-- the code's step gives x^4 times the product
pub four_is : (z : ℕ) → z < 2 ^ 128 → bit_xor (z * 16 % 2 ^ 128) (get_or REDUCED (z / 2 ^ 124) 0) ≡ four_times z
four_is z fits =
    let hi = z / 2 ^ 124 in
    let lo = z % 2 ^ 124 in
    let whole : z / 2 ^ 124 * 2 ^ 124 + z % 2 ^ 124 ≡ z = omega arith in
    let apart : bit_xor (hi * 2 ^ 124) lo ≡ z = xor_shifted hi 124 lo (omega arith) ∙ whole in
    let shifted : z * 16 % 2 ^ 128 ≡ lo * 16 = omega arith in
    ap (λ (x : ℕ). bit_xor x (get_or REDUCED hi 0)) (shifted ∙ sym (four_small lo (omega arith)))
    ∙ ap (λ (x : ℕ). bit_xor (four_times lo) x) (reduced_at hi (omega arith))
    ∙ xor_comm (four_times lo) (four_times (hi * 2 ^ 124))
    ∙ sym (four-xor (hi * 2 ^ 124) lo)
    ∙ ap four_times apart

-- the code's doubling
pub doubled_high : (p : ℕ) → p < 2 ^ 128 → p / 2 ^ 127 ≡ 1 → bit_xor (p * 2 % 2 ^ 128) 135 ≡ double_of p
unfolding times_x
doubled_high p fits high =
    let r = p % 2 ^ 127 in
    let low : p * 2 % 2 ^ 128 ≡ 2 * r = omega arith in
    let two : 2 * p ≡ 1 * 2 ^ 128 + 2 * r = omega arith in
    let bit : p / 2 ^ 127 % 2 ≡ 1 = omega arith in
    let none : 0 * 2 ^ 128 + bit_xor (2 * r) 135 ≡ bit_xor (2 * r) 135 = omega arith in
    ap (λ (x : ℕ). bit_xor x 135) low
    ∙ sym (ap (λ (x : ℕ). bit_xor x (p / 2 ^ 127 % 2 * (2 ^ 128 + 0x87))) two
    ∙ ap (λ (x : ℕ). bit_xor (1 * 2 ^ 128 + 2 * r) (x * (2 ^ 128 + 0x87))) bit
    ∙ xor_block 128 1 1 (2 * r) 135 (omega arith) (omega arith) ∙ none)

pub doubled_low : (p : ℕ) → p < 2 ^ 128 → (p / 2 ^ 127 ≡ 1 → ⊥) → p * 2 % 2 ^ 128 ≡ double_of p
doubled_low p fits low =
    let small : p < 2 ^ 127 = omega arith in
    let same : p * 2 % 2 ^ 128 ≡ 2 * p = omega arith in
    same ∙ sym (doubled_small p small)

-- ---- the loop of the product

pub times_none : (a h : ℕ) → 0 ≡ part_product (4 * 0) a h
times_none a h = sym (part_none a h)

pub times_more : (z a h i m : ℕ) → i < 32 → z < 2 ^ 128 → z ≡ part_product (4 * i) (a / 2 ^ (128 - 4 * i)) h
    → m ≡ part_product 4 (bit_and (a / 2 ^ (124 - 4 * i)) 15) h
    → bit_xor (bit_xor (z * 16 % 2 ^ 128) (get_or REDUCED (z / 2 ^ 124) 0)) m ≡ part_product (4 * (i + 1)) (a / 2 ^ (128 - 4 * (i + 1))) h
times_more z a h i m within fits is entry =
    let e1 : 128 - 4 * (i + 1) ≡ 124 - 4 * i = omega arith in
    let e2 : 4 * (i + 1) ≡ suc (suc (suc (suc (4 * i)))) = omega arith in
    let e3 : 124 - 4 * i + 4 ≡ 128 - 4 * i = omega arith in
    let down : a / 2 ^ (124 - 4 * i) / 16 ≡ a / 2 ^ (128 - 4 * i) = shr-shr a (124 - 4 * i) 4 ∙ ap (λ (x : ℕ). a / 2 ^ x) e3 in
    ap (λ (x : ℕ). bit_xor x m) (four_is z fits)
    ∙ xor_comm (four_times z) m
    ∙ ap (λ (x : ℕ). bit_xor m (four_times x)) (is ∙ ap (λ (x : ℕ). part_product (4 * i) x h) (sym down))
    ∙ ap (λ (x : ℕ). bit_xor x (four_times (part_product (4 * i) (a / 2 ^ (124 - 4 * i) / 16) h))) (entry ∙ ap (λ (x : ℕ). part_product 4 x h) (and_mask (a / 2 ^ (124 - 4 * i)) 4))
    ∙ sym (part_step (4 * i) (a / 2 ^ (124 - 4 * i)) h)
    ∙ ap (λ (x : ℕ). part_product x (a / 2 ^ (124 - 4 * i)) h) (sym e2)
    ∙ ap (λ (x : ℕ). part_product (4 * (i + 1)) (a / 2 ^ x) h) (sym e1)

pub times_all : (z a h i : ℕ) → i ≡ 32 → z ≡ part_product (4 * i) (a / 2 ^ (128 - 4 * i)) h → z ≡ block_product a h
unfolding block_product
times_all z a h i all is =
    let one : a / 1 ≡ a = omega arith in
    is ∙ ap (λ (n : ℕ). part_product (4 * n) (a / 2 ^ (128 - 4 * n)) h) all ∙ ap (λ (x : ℕ). part_product 128 x h) one

-- ---- the table of multiples

part_zero : (n h : ℕ) → part_product n 0 h ≡ 0
part_zero zero h = part_none 0 h
part_zero (suc n) h =
    let z : 0 * h ≡ 0 = omega arith in
    part_more n 0 h ∙ ap (λ (x : ℕ). bit_xor x (double_of (part_product n 0 h))) z ∙ ap (λ (x : ℕ). double_of x) (part_zero n h) ∙ doubled_zero

-- a coefficient that is 0 adds nothing
part_top : (n a h : ℕ) → a < 2 ^ n → part_product (suc n) a h ≡ part_product n a h
part_top zero a h below =
    let none : a ≡ 0 = omega arith in
    ap (λ (x : ℕ). part_product 1 x h) none ∙ part_zero 1 h ∙ sym (part_none a h)
part_top (suc n) a h below =
    let half : a / 2 < 2 ^ n = omega (arith, below, pow-suc 2 n) in
    part_more (suc n) a h ∙ ap (λ (x : ℕ). bit_xor (a % 2 * h) (double_of x)) (part_top n (a / 2) h half) ∙ sym (part_more n a h)

pub multiple_more : (k h : ℕ) → k < 16 → part_product 4 k h ≡ bit_xor (k % 2 * h) (double_of (part_product 4 (k / 2) h))
multiple_more k h below =
    part_more 3 k h ∙ ap (λ (x : ℕ). bit_xor (k % 2 * h) (double_of x)) (sym (part_top 3 (k / 2) h (omega arith)))

pub first_multiple : (h : ℕ) → 0 ≡ part_product 4 0 h
first_multiple h = sym (part_zero 4 h)

pub odd_multiple : (k h twice d : ℕ) → k < 16 → k % 2 ≡ 1 → d ≡ part_product 4 (k / 2) h → twice ≡ double_of d → bit_xor h twice ≡ part_product 4 k h
odd_multiple k h twice d below odd entry is =
    let one : 1 * h ≡ h = omega arith in
    ap (λ (x : ℕ). bit_xor h x) (is ∙ ap (λ (x : ℕ). double_of x) entry)
    ∙ ap (λ (x : ℕ). bit_xor x (double_of (part_product 4 (k / 2) h))) (sym (ap (λ (x : ℕ). x * h) odd ∙ one))
    ∙ sym (multiple_more k h below)

pub even_multiple : (k h twice d : ℕ) → k < 16 → (k % 2 ≡ 1 → ⊥) → d ≡ part_product 4 (k / 2) h → twice ≡ double_of d → twice ≡ part_product 4 k h
even_multiple k h twice d below odd entry is =
    let even : k % 2 ≡ 0 = omega arith in
    let none : 0 * h ≡ 0 = omega arith in
    is ∙ ap (λ (x : ℕ). double_of x) entry
    ∙ ap (λ (x : ℕ). bit_xor x (double_of (part_product 4 (k / 2) h))) (sym (ap (λ (x : ℕ). x * h) even ∙ none))
    ∙ sym (multiple_more k h below)

pub product_zero : (h : ℕ) → block_product 0 h ≡ 0
unfolding block_product
product_zero h = part_zero 128 h
