-- The entries of the tables, computed.
use Rattle.std.proofs.Common.{◌≡◌, ℕ, zero, suc, ◌/◌, ◌%◌, ◌^◌, ◌<◌, Bool, true, false, cond, eqb, List, [], ◌∷◌, ◌++◌, get_or, refl, sym, ap, ◌∙◌, inl, inr, arith}
use Rattle.std.proofs.lemmas.Nat.{xor_shr, xor_mod, be_bytes_4}
use Rattle.std.specs.Int.{w32, to_be_bytes, from_be_bytes, rotate_right}
use lib.Bits.{bit_xor}
use Rattle.std.proofs.lemmas.Bool.{agree_below_at, eqb-true, eq-eqb, ne_eqb, cases_eq, false≢true}
use Rattle.dlms_cipher.specs.declared.tables.TheConstants.{SBOX, CONSTANTS, MIXED}
use Rattle.dlms_cipher.specs.Field.{times_x, product, octet_product}
use Rattle.dlms_cipher.specs.Aes.{even_powers, inverse, affine, sbox, rcon, xor_octets}

pub sbox_at : (k : ℕ) → k < 256 → get_or SBOX k 0 ≡ sbox k
unfolding times_x product octet_product even_powers inverse affine sbox
sbox_at k below = eqb-true (get_or SBOX k 0) (sbox k) (agree_below_at (λ n. eqb (get_or SBOX n 0) (sbox n)) (λ n. true) 256 k refl below)

pub constant_at : (k : ℕ) → k < 10 → get_or CONSTANTS k 0 ≡ rcon k
unfolding times_x product octet_product rcon
constant_at k below = eqb-true (get_or CONSTANTS k 0) (rcon k) (agree_below_at (λ n. eqb (get_or CONSTANTS n 0) (rcon n)) (λ n. true) 10 k refl below)

-- ---- columns

abbrev same : List ℕ → List ℕ → Bool
same [] [] = true
same [] (y ∷ ys) = false
same (x ∷ xs) [] = false
same (x ∷ xs) (y ∷ ys) = cond (eqb x y) (same xs ys) false

same-true : (xs ys : List ℕ) → same xs ys ≡ true → xs ≡ ys
same-true [] [] h = refl
same-true [] (y ∷ ys) h = absurd (false≢true h)
same-true (x ∷ xs) [] h = absurd (false≢true h)
same-true (x ∷ xs) (y ∷ ys) h =
    elim (cases_eq x y) [
      | inl e ↦ let h' : same xs ys ≡ true = ap (λ b. cond b (same xs ys) false) (sym (eq-eqb x y e)) ∙ h in
          rw (e, same-true xs ys h') refl
      | inr ne ↦ absurd (false≢true (ap (λ b. cond b (same xs ys) false) (sym (ne_eqb x y ne)) ∙ h))
    ]

-- the entry, and its rotations by one, two and three octets
pub mixed_0 : (k : ℕ) → k < 256 → to_be_bytes w32 (get_or MIXED k 0) ≡ octet_product 2 (sbox k) ∷ sbox k ∷ sbox k ∷ octet_product 3 (sbox k) ∷ []
unfolding times_x product octet_product even_powers inverse affine sbox
mixed_0 k below = same-true _ _ (agree_below_at (λ n. same (to_be_bytes w32 (get_or MIXED n 0)) (octet_product 2 (sbox n) ∷ sbox n ∷ sbox n ∷ octet_product 3 (sbox n) ∷ [])) (λ n. true) 256 k refl below)

pub mixed_1 : (k : ℕ) → k < 256 → to_be_bytes w32 (rotate_right w32 (get_or MIXED k 0) 8) ≡ octet_product 3 (sbox k) ∷ octet_product 2 (sbox k) ∷ sbox k ∷ sbox k ∷ []
unfolding times_x product octet_product even_powers inverse affine sbox
mixed_1 k below = same-true _ _ (agree_below_at (λ n. same (to_be_bytes w32 (rotate_right w32 (get_or MIXED n 0) 8)) (octet_product 3 (sbox n) ∷ octet_product 2 (sbox n) ∷ sbox n ∷ sbox n ∷ [])) (λ n. true) 256 k refl below)

pub mixed_2 : (k : ℕ) → k < 256 → to_be_bytes w32 (rotate_right w32 (get_or MIXED k 0) 16) ≡ sbox k ∷ octet_product 3 (sbox k) ∷ octet_product 2 (sbox k) ∷ sbox k ∷ []
unfolding times_x product octet_product even_powers inverse affine sbox
mixed_2 k below = same-true _ _ (agree_below_at (λ n. same (to_be_bytes w32 (rotate_right w32 (get_or MIXED n 0) 16)) (sbox n ∷ octet_product 3 (sbox n) ∷ octet_product 2 (sbox n) ∷ sbox n ∷ [])) (λ n. true) 256 k refl below)

pub mixed_3 : (k : ℕ) → k < 256 → to_be_bytes w32 (rotate_right w32 (get_or MIXED k 0) 24) ≡ sbox k ∷ sbox k ∷ octet_product 3 (sbox k) ∷ octet_product 2 (sbox k) ∷ []
unfolding times_x product octet_product even_powers inverse affine sbox
mixed_3 k below = same-true _ _ (agree_below_at (λ n. same (to_be_bytes w32 (rotate_right w32 (get_or MIXED n 0) 24)) (sbox n ∷ sbox n ∷ octet_product 3 (sbox n) ∷ octet_product 2 (sbox n) ∷ [])) (λ n. true) 256 k refl below)

-- the octets of the sum of two words
pub octets-xor : (v w : ℕ) → to_be_bytes w32 (bit_xor v w) ≡ xor_octets (to_be_bytes w32 v) (to_be_bytes w32 w)
octets-xor v w =
    let part : (k : ℕ) → bit_xor v w / 2 ^ k % 2 ^ 8 ≡ bit_xor (v / 2 ^ k % 2 ^ 8) (w / 2 ^ k % 2 ^ 8) =
    λ k. ap (λ n. n % 2 ^ 8) (xor_shr v w k) ∙ xor_mod (v / 2 ^ k) (w / 2 ^ k) 8 in
    let p3 : bit_xor v w / 16777216 % 256 ≡ bit_xor (v / 16777216 % 256) (w / 16777216 % 256) = part 24 in
    let p2 : bit_xor v w / 65536 % 256 ≡ bit_xor (v / 65536 % 256) (w / 65536 % 256) = part 16 in
    let p1 : bit_xor v w / 256 % 256 ≡ bit_xor (v / 256 % 256) (w / 256 % 256) = part 8 in
    let p0 : bit_xor v w % 256 ≡ bit_xor (v % 256) (w % 256) = xor_mod v w 8 in
    ap (λ n. n ∷ bit_xor v w / 65536 % 256 ∷ bit_xor v w / 256 % 256 ∷ bit_xor v w % 256 ∷ []) p3
    ∙ ap (λ n. bit_xor (v / 16777216 % 256) (w / 16777216 % 256) ∷ n ∷ bit_xor v w / 256 % 256 ∷ bit_xor v w % 256 ∷ []) p2
    ∙ ap (λ n. bit_xor (v / 16777216 % 256) (w / 16777216 % 256) ∷ bit_xor (v / 65536 % 256) (w / 65536 % 256) ∷ n ∷ bit_xor v w % 256 ∷ []) p1
    ∙ ap (λ n. bit_xor (v / 16777216 % 256) (w / 16777216 % 256) ∷ bit_xor (v / 65536 % 256) (w / 65536 % 256) ∷ bit_xor (v / 256 % 256) (w / 256 % 256) ∷ n ∷ []) p0

-- the octets of the sum of four words and a key
pub column_is : (p q r s key : ℕ) (ps qs rs ss : List ℕ) → to_be_bytes w32 p ≡ ps → to_be_bytes w32 q ≡ qs → to_be_bytes w32 r ≡ rs → to_be_bytes w32 s ≡ ss
    → to_be_bytes w32 (bit_xor (bit_xor (bit_xor (bit_xor p q) r) s) key) ≡ xor_octets (xor_octets (xor_octets (xor_octets ps qs) rs) ss) (to_be_bytes w32 key)
column_is p q r s key ps qs rs ss ep eq er es =
    octets-xor (bit_xor (bit_xor (bit_xor p q) r) s) key
    ∙ ap (λ l. xor_octets l (to_be_bytes w32 key))
    (octets-xor (bit_xor (bit_xor p q) r) s
    ∙ ap (λ l. xor_octets l (to_be_bytes w32 s)) (octets-xor (bit_xor p q) r ∙ ap (λ l. xor_octets l (to_be_bytes w32 r)) (octets-xor p q ∙ ap (λ l. xor_octets l (to_be_bytes w32 q)) ep ∙ ap (λ l. xor_octets ps l) eq) ∙ ap (λ l. xor_octets (xor_octets ps qs) l) er)
    ∙ ap (λ l. xor_octets (xor_octets (xor_octets ps qs) rs) l) es)

pub four_parts : (p q r s p' q' r' s' : List ℕ) → p ≡ p' → q ≡ q' → r ≡ r' → s ≡ s' → p ++ q ++ r ++ s ≡ p' ++ q' ++ r' ++ s'
four_parts p q r s p' q' r' s' ep eq er es = cc

-- the octets of the sum of two blocks
pub plus_is : (a b c d p q r s : ℕ) → to_be_bytes w32 (bit_xor a p) ++ to_be_bytes w32 (bit_xor b q) ++ to_be_bytes w32 (bit_xor c r) ++ to_be_bytes w32 (bit_xor d s)
    ≡ xor_octets (to_be_bytes w32 a ++ to_be_bytes w32 b ++ to_be_bytes w32 c ++ to_be_bytes w32 d) (to_be_bytes w32 p ++ to_be_bytes w32 q ++ to_be_bytes w32 r ++ to_be_bytes w32 s)
plus_is a b c d p q r s = four_parts _ _ _ _ (xor_octets (to_be_bytes w32 a) (to_be_bytes w32 p)) (xor_octets (to_be_bytes w32 b) (to_be_bytes w32 q)) (xor_octets (to_be_bytes w32 c) (to_be_bytes w32 r)) (xor_octets (to_be_bytes w32 d) (to_be_bytes w32 s)) (octets-xor a p) (octets-xor b q) (octets-xor c r) (octets-xor d s)

-- the octets of the next round key, from those of the rotated and substituted word
pub next_is : (a b c d t : ℕ) (ts : List ℕ) → to_be_bytes w32 t ≡ ts →
    to_be_bytes w32 (bit_xor a t) ++ to_be_bytes w32 (bit_xor b (bit_xor a t)) ++ to_be_bytes w32 (bit_xor c (bit_xor b (bit_xor a t))) ++ to_be_bytes w32 (bit_xor d (bit_xor c (bit_xor b (bit_xor a t))))
    ≡ xor_octets (to_be_bytes w32 a) ts ++ xor_octets (to_be_bytes w32 b) (xor_octets (to_be_bytes w32 a) ts) ++ xor_octets (to_be_bytes w32 c) (xor_octets (to_be_bytes w32 b) (xor_octets (to_be_bytes w32 a) ts)) ++ xor_octets (to_be_bytes w32 d) (xor_octets (to_be_bytes w32 c) (xor_octets (to_be_bytes w32 b) (xor_octets (to_be_bytes w32 a) ts)))
next_is a b c d t ts e =
    let e1 = octets-xor a t ∙ ap (λ l. xor_octets (to_be_bytes w32 a) l) e in
    let e2 = octets-xor b (bit_xor a t) ∙ ap (λ l. xor_octets (to_be_bytes w32 b) l) e1 in
    let e3 = octets-xor c (bit_xor b (bit_xor a t)) ∙ ap (λ l. xor_octets (to_be_bytes w32 c) l) e2 in
    let e4 = octets-xor d (bit_xor c (bit_xor b (bit_xor a t))) ∙ ap (λ l. xor_octets (to_be_bytes w32 d) l) e3 in
    four_parts _ _ _ _ _ _ _ _ e1 e2 e3 e4

-- four octets as a number, and back
small : (a b c d : ℕ) → a < 256 → b < 256 → c < 256 → d < 256 → (i : ℕ) → get_or (a ∷ b ∷ c ∷ d ∷ []) i 0 < 256
small a b c d ha hb hc hd zero = ha
small a b c d ha hb hc hd (suc zero) = hb
small a b c d ha hb hc hd (suc (suc zero)) = hc
small a b c d ha hb hc hd (suc (suc (suc zero))) = hd
small a b c d ha hb hc hd (suc (suc (suc (suc i)))) = omega arith

pub four_octets : (n a b c d : ℕ) → a < 256 → b < 256 → c < 256 → d < 256 → n ≡ from_be_bytes w32 (a ∷ b ∷ c ∷ d ∷ []) → to_be_bytes w32 n ≡ a ∷ b ∷ c ∷ d ∷ []
four_octets n a b c d ha hb hc hd e = be_bytes_4 (a ∷ b ∷ c ∷ d ∷ []) n refl (small a b c d ha hb hc hd) e
