-- Deciphering gives the message back; inverses; products as remainders.
use Rattle.std.proofs.Common.{◌≡◌, ℕ, zero, suc, ◌+◌, ◌-◌, ◌*◌, ◌/◌, ◌%◌, ◌^◌, ◌<◌, ◌≤◌, ◌⊎◌, true, eqb, ltb, List, [], ◌∷◌, ◌++◌, length, take, drop, get_or, min, refl, sym, ap, subst, ◌∙◌, inl, inr, arith, length-append, length-drop}
use borrow.Author.Tests.{ltb-true}
use Rattle.std.proofs.lemmas.Nat.{div_below, pow_pos, xor_comm, xor_lt, xor_mod, xor_shr}
use Rattle.std.proofs.Math.Nat.{lt-div-mul-add}
use Rattle.std.proofs.lemmas.List.{append-nil, drop_all, length-take, nil_from_length, take-append-drop, take_all, take_at, drop_at}
use Rattle.std.proofs.lemmas.Bool.{agree_below_at, eqb-true, cases_lt}
use lib.Bits.{bit_xor, xor_zero_r, xor_assoc, xor_self}
use Rattle.std.specs.Int.{w32, to_be_bytes, bit_at, reverse_bits_onto}
use Rattle.dlms_cipher.specs.Field.{times_x, product, octet_product, block_product, plain_product, IsRemainder}
use Rattle.dlms_cipher.specs.Aes.{even_powers, inverse, aes, round_key, xor_octets}
use Rattle.dlms_cipher.specs.Gcm.{counter_blocks, block_count, ctr, mirror_of, poly_of, block_of}
use Rattle.dlms_cipher.proofs.FieldLemmas.{low_bit, scaled_bits, shuffle, twice-xor}
use Rattle.dlms_cipher.proofs.PowerLemmas.{product_lt, mirrored_lt}
use Rattle.dlms_cipher.proofs.GcmLemmas.{length-xor_octets, xor_none}

-- ---- inverses

inverse_at : (k : ℕ) → k < 255 → octet_product (k + 1) (inverse (k + 1)) ≡ 1
unfolding times_x product octet_product even_powers inverse
inverse_at k below = eqb-true (octet_product (k + 1) (inverse (k + 1))) 1 (agree_below_at (λ n. eqb (octet_product (n + 1) (inverse (n + 1))) 1) (λ n. true) 255 k refl below)

pub inverse_is : (a : ℕ) → a < 256 → 0 < a → octet_product a (inverse a) ≡ 1
inverse_is a below some =
    let e : a ≡ a - 1 + 1 = omega arith in
    ap (λ (n : ℕ). octet_product n (inverse n)) e ∙ inverse_at (a - 1) (omega arith)

pub inverse_zero : inverse 0 ≡ 0
unfolding times_x product octet_product even_powers inverse
inverse_zero = refl

-- ---- deciphering

-- a pad added twice
xored_twice : (xs pad : List ℕ) → length xs ≤ length pad → xor_octets (xor_octets xs pad) pad ≡ xs
xored_twice [] pad short = refl
xored_twice (x ∷ xs) [] short = absurd (omega arith)
xored_twice (x ∷ xs) (p ∷ pad) short =
    ap (λ (n : ℕ). n ∷ xor_octets (xor_octets xs pad) pad) (xor_assoc x p p ∙ ap (λ (n : ℕ). bit_xor x n) (xor_self p) ∙ xor_zero_r x)
    ∙ ap (λ (l : List ℕ). x ∷ l) (xored_twice xs pad (omega arith))

pub aes_long : (key block : List ℕ) → length (aes key block) ≡ 16
unfolding aes round_key
aes_long key block = refl

count_step : (n : ℕ) (key nonce : List ℕ) (counter : ℕ) (text : List ℕ) → counter_blocks (suc n) key nonce counter text
    ≡ xor_octets (take 16 text) (aes key (nonce ++ to_be_bytes w32 counter)) ++ counter_blocks n key nonce ((counter + 1) % 2 ^ 32) (drop 16 text)
unfolding counter_blocks
count_step n key nonce counter text = refl

count_nil : (n : ℕ) (key nonce : List ℕ) (counter : ℕ) (text : List ℕ) → text ≡ [] → counter_blocks n key nonce counter text ≡ []
unfolding counter_blocks
count_nil zero key nonce counter text none = refl
count_nil (suc n) key nonce counter text none =
    ap (λ (l : List ℕ). counter_blocks (suc n) key nonce counter l) none ∙ count_nil n key nonce ((counter + 1) % 2 ^ 32) [] refl

pub length-counter_blocks : (n : ℕ) (key nonce : List ℕ) (counter : ℕ) (text : List ℕ) → length text ≤ n * 16 → length (counter_blocks n key nonce counter text) ≡ length text
length-counter_blocks zero key nonce counter text short = ap length (count_nil 0 key nonce counter text (nil_from_length text (omega arith))) ∙ omega arith
length-counter_blocks (suc n) key nonce counter text short =
    let pad = aes key (nonce ++ to_be_bytes w32 counter) in
    let rest = counter_blocks n key nonce ((counter + 1) % 2 ^ 32) (drop 16 text) in
    ap length (count_step n key nonce counter text)
    ∙ omega (
      arith,
      length-append (xor_octets (take 16 text) pad) rest,
      length-xor_octets (take 16 text) pad,
      length-take 16 text,
      aes_long key (nonce ++ to_be_bytes w32 counter),
      length-counter_blocks n key nonce ((counter + 1) % 2 ^ 32) (drop 16 text) (omega (arith, length-drop 16 text)),
      length-drop 16 text,
    )

counted_twice : (n : ℕ) (key nonce : List ℕ) (counter : ℕ) (text : List ℕ) → length text ≤ n * 16
    → counter_blocks n key nonce counter (counter_blocks n key nonce counter text) ≡ text
counted_twice zero key nonce counter text short =
    let none : text ≡ [] = nil_from_length text (omega arith) in
    count_nil 0 key nonce counter (counter_blocks 0 key nonce counter text) (count_nil 0 key nonce counter text none) ∙ sym none
counted_twice (suc n) key nonce counter text short =
    let pad = aes key (nonce ++ to_be_bytes w32 counter) in
    let next = (counter + 1) % 2 ^ 32 in
    let part = xor_octets (take 16 text) pad in
    let rest = counter_blocks n key nonce next (drop 16 text) in
    let wide : length (xor_octets (take 16 text) (aes key (nonce ++ to_be_bytes w32 counter))) ≡ min 16 (length text) =
    omega (arith, length-xor_octets (take 16 text) pad, length-take 16 text, aes_long key (nonce ++ to_be_bytes w32 counter)) in
    let again : xor_octets (xor_octets (take 16 text) (aes key (nonce ++ to_be_bytes w32 counter))) (aes key (nonce ++ to_be_bytes w32 counter)) ≡ take 16 text =
    xored_twice (take 16 text) pad (omega (arith, length-take 16 text, aes_long key (nonce ++ to_be_bytes w32 counter))) in
    let below : length (drop 16 text) ≤ n * 16 = omega (arith, length-drop 16 text) in
    let apart : (take 16 (xor_octets (take 16 text) (aes key (nonce ++ to_be_bytes w32 counter)) ++ counter_blocks n key nonce ((counter + 1) % 2 ^ 32) (drop 16 text)) ≡ xor_octets (take 16 text) (aes key (nonce ++ to_be_bytes w32 counter)))
    × (drop 16 (xor_octets (take 16 text) (aes key (nonce ++ to_be_bytes w32 counter)) ++ counter_blocks n key nonce ((counter + 1) % 2 ^ 32) (drop 16 text)) ≡ counter_blocks n key nonce ((counter + 1) % 2 ^ 32) (drop 16 text)) =
    elim (cases_lt (length text) 16) [
      | inl h ↦
          let none : counter_blocks n key nonce ((counter + 1) % 2 ^ 32) (drop 16 text) ≡ [] = count_nil n key nonce next (drop 16 text) (drop_all 16 text (omega arith)) in (
            ap (λ (l : List ℕ). take 16 (part ++ l)) none ∙ ap (take 16) (append-nil part) ∙ take_all 16 part (omega arith),
            ap (λ (l : List ℕ). drop 16 (part ++ l)) none ∙ ap (drop 16) (append-nil part) ∙ drop_all 16 part (omega arith) ∙ sym none,
          )
      | inr h ↦ (take_at part rest 16 (omega arith), drop_at part rest 16 (omega arith))
    ] in
    ap (counter_blocks (suc n) key nonce counter) (count_step n key nonce counter text)
    ∙ count_step n key nonce counter (part ++ rest)
    ∙ ap (λ (l : List ℕ). xor_octets l pad ++ counter_blocks n key nonce next (drop 16 (part ++ rest))) apart.0
    ∙ ap (λ (l : List ℕ). l ++ counter_blocks n key nonce next (drop 16 (part ++ rest))) again
    ∙ ap (λ (l : List ℕ). take 16 text ++ counter_blocks n key nonce next l) apart.1
    ∙ ap (λ (l : List ℕ). take 16 text ++ l) (counted_twice n key nonce next (drop 16 text) below)
    ∙ take-append-drop 16 text

pub ctr_twice : (key nonce text : List ℕ) → ctr key nonce (ctr key nonce text) ≡ text
ctr_twice key nonce text =
    let n = block_count (length text) in
    let size : length (counter_blocks (block_count (length text)) key nonce 2 text) ≡ length text = length-counter_blocks n key nonce 2 text (omega arith) in
    ap (λ (m : ℕ). counter_blocks (block_count m) key nonce 2 (counter_blocks n key nonce 2 text)) size
    ∙ counted_twice n key nonce 2 text (omega arith)

-- ---- remainders

unfoldable quotient_of : ℕ → ℕ → ℕ → ℕ → ℕ → ℕ
quotient_of top modulus zero a b = 0
quotient_of top modulus (suc n) a b = quotient_of top modulus n (a / 2) b * 2 + bit_at (product top modulus n (a / 2) b) top

cancelled : (a b c t : ℕ) → bit_xor (bit_xor t b) (bit_xor a (bit_xor c t)) ≡ bit_xor a (bit_xor b c)
cancelled a b c t =
    ap (λ (x : ℕ). bit_xor x (bit_xor a (bit_xor c t))) (xor_comm t b)
    ∙ ap (λ (x : ℕ). bit_xor (bit_xor b t) x) (sym (xor_assoc a c t))
    ∙ shuffle b t (bit_xor a c) t
    ∙ ap (λ (x : ℕ). bit_xor (bit_xor b (bit_xor a c)) x) (xor_self t)
    ∙ xor_zero_r (bit_xor b (bit_xor a c))
    ∙ sym (xor_assoc b a c)
    ∙ ap (λ (x : ℕ). bit_xor x c) (xor_comm b a)
    ∙ xor_assoc a b c

plain_is : (top modulus n a b : ℕ) → plain_product n a b ≡ bit_xor (plain_product n (quotient_of top modulus n a b) modulus) (product top modulus n a b)
unfolding plain_product product quotient_of times_x
plain_is top modulus zero a b = refl
plain_is top modulus (suc n) a b =
    let p = product top modulus n (a / 2) b in
    let q = quotient_of top modulus n (a / 2) b in
    let t = bit_at (product top modulus n (a / 2) b) top in
    let high : (quotient_of top modulus n (a / 2) b * 2 + bit_at (product top modulus n (a / 2) b) top) / 2 ≡ quotient_of top modulus n (a / 2) b = omega arith in
    let low : (quotient_of top modulus n (a / 2) b * 2 + bit_at (product top modulus n (a / 2) b) top) % 2 ≡ bit_at (product top modulus n (a / 2) b) top = omega arith in
    sym (ap (λ (x : ℕ). bit_xor (bit_xor (x * modulus) (2 * plain_product n ((q * 2 + t) / 2) modulus)) (bit_xor (a % 2 * b) (bit_xor (2 * p) (t * modulus)))) low
    ∙ ap (λ (x : ℕ). bit_xor (bit_xor (t * modulus) (2 * plain_product n x modulus)) (bit_xor (a % 2 * b) (bit_xor (2 * p) (t * modulus)))) high
    ∙ cancelled (a % 2 * b) (2 * plain_product n q modulus) (2 * p) (t * modulus)
    ∙ ap (λ (x : ℕ). bit_xor (a % 2 * b) x) (sym (twice-xor (plain_product n q modulus) p) ∙ ap (λ (x : ℕ). 2 * x) (sym (plain_is top modulus n (a / 2) b))))

pub block_remainder : (a b : ℕ) → b < 2 ^ 128 → IsRemainder 128 (plain_product 128 a b) (2 ^ 128 + 0x87) (block_product a b)
unfolding block_product
block_remainder a b small = record {
  quotient = quotient_of 127 (2 ^ 128 + 0x87) 128 a b;
  degree = product_lt a b small;
  equation = plain_is 127 (2 ^ 128 + 0x87) 128 a b;
}

octet_doubled_lt : (p : ℕ) → p < 256 → times_x 7 0x11B p < 256
unfolding times_x
octet_doubled_lt p small = ltb-true (times_x 7 0x11B p) 256 (agree_below_at (λ n. ltb (times_x 7 0x11B n) 256) (λ n. true) 256 p refl small)

at_most_once : (x b : ℕ) → (x ≡ 0) ⊎ (x ≡ 1) → b < 256 → x * b < 256
at_most_once x b (inl e) small = let z : 0 * b ≡ 0 = omega arith in let P : ℕ → Type 0 = λ n. n < 256 in subst P (sym (ap (λ (n : ℕ). n * b) e ∙ z)) (omega arith)
at_most_once x b (inr e) small = let z : 1 * b ≡ b = omega arith in let P : ℕ → Type 0 = λ n. n < 256 in subst P (sym (ap (λ (n : ℕ). n * b) e ∙ z)) small

octet_part_lt : (n a b : ℕ) → b < 256 → product 7 0x11B n a b < 256
unfolding product
octet_part_lt zero a b small = omega arith
octet_part_lt (suc n) a b small =
    xor_lt 8 (a % 2 * b) (times_x 7 0x11B (product 7 0x11B n (a / 2) b)) (at_most_once (a % 2) b (low_bit a) small) (octet_doubled_lt (product 7 0x11B n (a / 2) b) (octet_part_lt n (a / 2) b small))

pub octet_remainder : (a b : ℕ) → b < 256 → IsRemainder 8 (plain_product 8 a b) 0x11B (octet_product a b)
unfolding octet_product
octet_remainder a b small = record { quotient = quotient_of 7 0x11B 8 a b; degree = octet_part_lt 8 a b small; equation = plain_is 7 0x11B 8 a b }

-- ---- blocks and their polynomials

mirrored_twice : (k : ℕ) → k < 256 → mirror_of (mirror_of k) ≡ k
unfolding mirror_of reverse_bits_onto
mirrored_twice k below = eqb-true (mirror_of (mirror_of k)) k (agree_below_at (λ n. eqb (mirror_of (mirror_of n)) n) (λ n. true) 256 k refl below)

pub block_back : (block : List ℕ) → ((i : ℕ) → get_or block i 0 < 256) → block_of (length block) (poly_of block) ≡ block
unfolding block_of poly_of
block_back [] small = refl
block_back (x ∷ xs) small =
    let bound : mirror_of x < 256 = mirrored_lt x in
    let low : (mirror_of x + 256 * poly_of xs) % 256 ≡ mirror_of x = omega arith in
    let high : (mirror_of x + 256 * poly_of xs) / 256 ≡ poly_of xs = omega arith in
    ap (λ (n : ℕ). mirror_of n ∷ block_of (length xs) ((mirror_of x + 256 * poly_of xs) / 256)) low
    ∙ ap (λ (n : ℕ). mirror_of (mirror_of x) ∷ block_of (length xs) n) high
    ∙ ap (λ (n : ℕ). n ∷ block_of (length xs) (poly_of xs)) (mirrored_twice x (small 0))
    ∙ ap (λ (l : List ℕ). x ∷ l) (block_back xs (λ i. small (suc i)))

-- ---- there is one remainder

zero_above : (n a : ℕ) → a < 2 ^ n → a / 2 ^ n ≡ 0
zero_above n a small = let none : a / 2 ^ n < 1 = div_below a (2 ^ n) 1 (pow_pos n) (omega arith) in omega arith

below_of : (n a : ℕ) → a / 2 ^ n ≡ 0 → a < 2 ^ n
below_of n a none =
    let h : a < a / 2 ^ n * 2 ^ n + 2 ^ n = lt-div-mul-add (pow_pos n) in
    let P : ℕ → Type 0 = λ q. a < q * 2 ^ n + 2 ^ n in
    let h' : a < 0 * 2 ^ n + 2 ^ n = subst P none h in
    omega arith

plain-xor : (n a b m : ℕ) → plain_product n (bit_xor a b) m ≡ bit_xor (plain_product n a m) (plain_product n b m)
unfolding plain_product
plain-xor zero a b m = refl
plain-xor (suc n) a b m =
    ap (λ (x : ℕ). bit_xor x (2 * plain_product n (bit_xor a b / 2) m))
    (ap (λ (x : ℕ). x * m) (xor_mod a b 1) ∙ scaled_bits m (a % 2) (b % 2) (low_bit a) (low_bit b))
    ∙ ap (λ (x : ℕ). bit_xor (bit_xor (a % 2 * m) (b % 2 * m)) x)
    (ap (λ (x : ℕ). 2 * plain_product n x m) (xor_shr a b 1) ∙ ap (λ (x : ℕ). 2 * x) (plain-xor n (a / 2) (b / 2) m) ∙ twice-xor (plain_product n (a / 2) m) (plain_product n (b / 2) m))
    ∙ shuffle (a % 2 * m) (b % 2 * m) (2 * plain_product n (a / 2) m) (2 * plain_product n (b / 2) m)

plain_step : (k r m : ℕ) → plain_product (suc k) r m ≡ bit_xor (r % 2 * m) (2 * plain_product k (r / 2) m)
unfolding plain_product
plain_step k r m = refl

plain_none : (r m : ℕ) → plain_product 0 r m ≡ 0
unfolding plain_product
plain_none r m = refl

bit_le : (x m : ℕ) → (x ≡ 0) ⊎ (x ≡ 1) → x * m ≤ m
bit_le x m (inl e) = let z : 0 * m ≡ 0 = omega arith in let P : ℕ → Type 0 = λ n. n ≤ m in subst P (sym (ap (λ (n : ℕ). n * m) e ∙ z)) (omega arith)
bit_le x m (inr e) = let z : 1 * m ≡ m = omega arith in let P : ℕ → Type 0 = λ n. n ≤ m in subst P (sym (ap (λ (n : ℕ). n * m) e ∙ z)) (omega arith)

bit_none : (x m bound : ℕ) → (x ≡ 0) ⊎ (x ≡ 1) → bound ≤ m → x * m < bound → x * m ≡ 0
bit_none x m bound (inl e) wide small = let z : 0 * m ≡ 0 = omega arith in ap (λ (n : ℕ). n * m) e ∙ z
bit_none x m bound (inr e) wide small =
    let z : 1 * m ≡ m = omega arith in
    let P : ℕ → Type 0 = λ n. n < bound in
    let h : m < bound = subst P (ap (λ (n : ℕ). n * m) e ∙ z) small in
    absurd (omega arith)

-- a multiple of low degree is 0
no_multiple : (k n r m : ℕ) → 2 ^ n ≤ m → m < 2 * 2 ^ n → plain_product k r m < 2 ^ n → plain_product k r m ≡ 0
no_multiple zero n r m wide narrow small = plain_none r m
no_multiple (suc k) n r m wide narrow small =
    let p = plain_product k (r / 2) m in
    let x = r % 2 * m in
    let P : ℕ → Type 0 = λ y. y < 2 ^ n in
    let y_small : bit_xor (r % 2 * m) (2 * plain_product k (r / 2) m) < 2 ^ n = subst P (plain_step k r m) small in
    let y_half : bit_xor (r % 2 * m) (2 * plain_product k (r / 2) m) / 2 < 2 ^ n = omega arith in
    let x_half : r % 2 * m / 2 < 2 ^ n = omega (arith, bit_le (r % 2) m (low_bit r)) in
    let twice : 2 * plain_product k (r / 2) m / 2 ≡ plain_product k (r / 2) m = omega arith in
    let halves : bit_xor (r % 2 * m) (2 * plain_product k (r / 2) m) / 2 ≡ bit_xor (r % 2 * m / 2) (plain_product k (r / 2) m) =
    xor_shr x (2 * p) 1 ∙ ap (λ (q : ℕ). bit_xor (x / 2) q) twice in
    let none : 0 ≡ plain_product k (r / 2) m / 2 ^ n =
    sym (zero_above n (bit_xor x (2 * p) / 2) y_half)
    ∙ ap (λ (q : ℕ). q / 2 ^ n) halves
    ∙ xor_shr (x / 2) p n
    ∙ ap (λ (q : ℕ). bit_xor q (p / 2 ^ n)) (zero_above n (x / 2) x_half) in
    let rest : plain_product k (r / 2) m ≡ 0 = no_multiple k n (r / 2) m wide narrow (below_of n p (sym none)) in
    let alone : bit_xor (r % 2 * m) (2 * plain_product k (r / 2) m) ≡ r % 2 * m = ap (λ (q : ℕ). bit_xor x (2 * q)) rest ∙ xor_zero_r x in
    plain_step k r m ∙ alone ∙ bit_none (r % 2) m (2 ^ n) (low_bit r) wide (subst P alone y_small)

pub one_remainder : (n dividend m p q : ℕ) → 2 ^ n ≤ m → m < 2 * 2 ^ n → IsRemainder n dividend m p → IsRemainder n dividend m q → p ≡ q
one_remainder n dividend m p q wide narrow f g =
    let a = plain_product n f.quotient m in
    let b = plain_product n g.quotient m in
    let both : bit_xor (plain_product n f.quotient m) (plain_product n g.quotient m) ≡ bit_xor p q =
    xor_none (bit_xor a b) (bit_xor p q)
    (shuffle a b p q ∙ ap (λ (x : ℕ). bit_xor x (bit_xor b q)) (sym f.equation) ∙ ap (λ (x : ℕ). bit_xor dividend x) (sym g.equation) ∙ xor_self dividend) in
    let multiple : plain_product n (bit_xor f.quotient g.quotient) m ≡ bit_xor p q = plain-xor n f.quotient g.quotient m ∙ both in
    let P : ℕ → Type 0 = λ x. x < 2 ^ n in
    xor_none p q (sym multiple ∙ no_multiple n n (bit_xor f.quotient g.quotient) m wide narrow (subst P (sym multiple) (xor_lt n p q f.degree g.degree)))
