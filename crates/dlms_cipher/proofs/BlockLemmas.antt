-- Blocks: loaded, stored, and hashed one after another.
use Rattle.std.proofs.Common.{◌≡◌, ℕ, zero, suc, ◌+◌, ◌-◌, ◌*◌, ◌/◌, ◌%◌, ◌^◌, ◌<◌, ◌≤◌, List, [], ◌∷◌, ◌++◌, length, map, take, drop, get_or, replicate, min, refl, sym, ap, ◌∙◌, inl, inr, arith, length-drop}
use Rattle.std.proofs.lemmas.Bool.{cases_lt}
use Rattle.std.proofs.lemmas.List.{drop-drop, drop_all, take_all}
use Rattle.std.proofs.Math.Nat.{div-div-eq-div-mul, pow-suc}
use Rattle.std.specs.Int.{w128, from_le_bytes, to_le_bytes, byte_at, bytes_low_first, reverse_bits_onto}
use lib.Bits.{bit_xor}
use Rattle.dlms_cipher.specs.Field.{block_product}
use Rattle.dlms_cipher.specs.Gcm.{mirror_of, poly_of, block_of, polys, block_count, blocks, ghash_from}

-- ---- a block of 16 octets

worth : (x0 x1 x2 x3 x4 x5 x6 x7 x8 x9 x10 x11 x12 x13 x14 x15 : ℕ) → from_le_bytes w128 (x0 ∷ x1 ∷ x2 ∷ x3 ∷ x4 ∷ x5 ∷ x6 ∷ x7 ∷ x8 ∷ x9 ∷ x10 ∷ x11 ∷ x12 ∷ x13 ∷ x14 ∷ x15 ∷ []) ≡ x0 + 256 * (x1 + 256 * (x2 + 256 * (x3 + 256 * (x4 + 256 * (x5 + 256 * (x6 + 256 * (x7 + 256 * (x8 + 256 * (x9 + 256 * (x10 + 256 * (x11 + 256 * (x12 + 256 * (x13 + 256 * (x14 + 256 * (x15 + 256 * 0)))))))))))))))
worth x0 x1 x2 x3 x4 x5 x6 x7 x8 x9 x10 x11 x12 x13 x14 x15 = omega arith

poly_16 : (b : List ℕ) → length b ≡ 16 → from_le_bytes w128 (mirror_of (get_or b 0 0) ∷ mirror_of (get_or b 1 0) ∷ mirror_of (get_or b 2 0) ∷ mirror_of (get_or b 3 0) ∷ mirror_of (get_or b 4 0) ∷ mirror_of (get_or b 5 0) ∷ mirror_of (get_or b 6 0) ∷ mirror_of (get_or b 7 0) ∷ mirror_of (get_or b 8 0) ∷ mirror_of (get_or b 9 0) ∷ mirror_of (get_or b 10 0) ∷ mirror_of (get_or b 11 0) ∷ mirror_of (get_or b 12 0) ∷ mirror_of (get_or b 13 0) ∷ mirror_of (get_or b 14 0) ∷ mirror_of (get_or b 15 0) ∷ []) ≡ poly_of b
unfolding poly_of
poly_16 (x0 ∷ x1 ∷ x2 ∷ x3 ∷ x4 ∷ x5 ∷ x6 ∷ x7 ∷ x8 ∷ x9 ∷ x10 ∷ x11 ∷ x12 ∷ x13 ∷ x14 ∷ x15 ∷ []) all = worth (mirror_of x0) (mirror_of x1) (mirror_of x2) (mirror_of x3) (mirror_of x4) (mirror_of x5) (mirror_of x6) (mirror_of x7) (mirror_of x8) (mirror_of x9) (mirror_of x10) (mirror_of x11) (mirror_of x12) (mirror_of x13) (mirror_of x14) (mirror_of x15)
poly_16 _ all = absurd (omega arith)

-- the number that the code loads
pub loaded : (b : List ℕ) (n : ℕ) (x0 x1 x2 x3 x4 x5 x6 x7 x8 x9 x10 x11 x12 x13 x14 x15 : ℕ) → length b ≡ 16 → n ≡ from_le_bytes w128 (x0 ∷ x1 ∷ x2 ∷ x3 ∷ x4 ∷ x5 ∷ x6 ∷ x7 ∷ x8 ∷ x9 ∷ x10 ∷ x11 ∷ x12 ∷ x13 ∷ x14 ∷ x15 ∷ [])
    → x0 ≡ mirror_of (get_or b 0 0) → x1 ≡ mirror_of (get_or b 1 0) → x2 ≡ mirror_of (get_or b 2 0) → x3 ≡ mirror_of (get_or b 3 0) → x4 ≡ mirror_of (get_or b 4 0) → x5 ≡ mirror_of (get_or b 5 0) → x6 ≡ mirror_of (get_or b 6 0) → x7 ≡ mirror_of (get_or b 7 0) → x8 ≡ mirror_of (get_or b 8 0) → x9 ≡ mirror_of (get_or b 9 0) → x10 ≡ mirror_of (get_or b 10 0) → x11 ≡ mirror_of (get_or b 11 0) → x12 ≡ mirror_of (get_or b 12 0) → x13 ≡ mirror_of (get_or b 13 0) → x14 ≡ mirror_of (get_or b 14 0) → x15 ≡ mirror_of (get_or b 15 0) → n ≡ poly_of b
loaded b n x0 x1 x2 x3 x4 x5 x6 x7 x8 x9 x10 x11 x12 x13 x14 x15 all is e0 e1 e2 e3 e4 e5 e6 e7 e8 e9 e10 e11 e12 e13 e14 e15 =
    is ∙ rw (e0, e1, e2, e3, e4, e5, e6, e7, e8, e9, e10, e11, e12, e13, e14, e15) (poly_16 b all)

-- ---- zeros at the end

mirrored_zero : mirror_of 0 ≡ 0
unfolding mirror_of reverse_bits_onto
mirrored_zero = refl

poly_zeros : (n : ℕ) → poly_of (replicate n 0) ≡ 0
unfolding poly_of
poly_zeros zero = refl
poly_zeros (suc n) = omega (arith, mirrored_zero, poly_zeros n)

pub poly_filled : (xs : List ℕ) (n : ℕ) → poly_of (xs ++ replicate n 0) ≡ poly_of xs
unfolding poly_of
poly_filled [] n = poly_zeros n
poly_filled (x ∷ xs) n = ap (λ (p : ℕ). mirror_of x + 256 * p) (poly_filled xs n)

-- ---- a polynomial's block

byte_is : (i p : ℕ) → byte_at i p ≡ p / 256 ^ i % 256
byte_is zero p = let one : p / 1 ≡ p = omega arith in ap (λ (n : ℕ). n % 256) (sym one)
byte_is (suc i) p = refl

pub block_is : (n i p : ℕ) → block_of n (p / 256 ^ i) ≡ map mirror_of (bytes_low_first i n p)
unfolding block_of
block_is zero i p = refl
block_is (suc n) i p =
    let next : p / 256 ^ i / 256 ≡ p / 256 ^ suc i = div-div-eq-div-mul p (256 ^ i) 256 ∙ ap (λ (m : ℕ). p / m) (sym (pow-suc 256 i)) in
    ap (λ (m : ℕ). mirror_of m ∷ block_of n (p / 256 ^ i / 256)) (sym (byte_is i p))
    ∙ ap (λ (l : List ℕ). mirror_of (byte_at i p) ∷ l) (ap (block_of n) next ∙ block_is n (suc i) p)

pub block_whole : (p : ℕ) → map mirror_of (to_le_bytes w128 p) ≡ block_of 16 p
block_whole p = let one : p / 1 ≡ p = omega arith in sym (block_is 16 0 p) ∙ ap (block_of 16) one

-- ---- blocks one after another

-- splits off the first block
pub blocks_more : (xs : List ℕ) → 0 < length xs → blocks xs ≡ poly_of (take 16 xs) ∷ blocks (drop 16 xs)
unfolding polys
blocks_more xs some =
    let count : block_count (length xs) ≡ suc (block_count (length (drop 16 xs))) = omega (arith, length-drop 16 xs) in
    ap (λ (n : ℕ). polys n xs) count

pub blocks_none : blocks [] ≡ []
unfolding polys
blocks_none = refl

-- the next part, and the octets after it
pub part_is : (octets : List ℕ) (at end : ℕ) → at < length octets → end ≡ min (at + 16) (length octets) → take (end - at) (drop at octets) ≡ take 16 (drop at octets)
part_is octets at end within ends =
    elim (cases_lt (length octets) (at + 16)) [
      | inr h ↦ let e : end - at ≡ 16 = omega arith in ap (λ (n : ℕ). take n (drop at octets)) e
      | inl h ↦ take_all (end - at) (drop at octets) (omega (arith, length-drop at octets)) ∙ sym (take_all 16 (drop at octets) (omega (arith, length-drop at octets)))
    ]

pub beyond_is : (octets : List ℕ) (at end : ℕ) → at < length octets → end ≡ min (at + 16) (length octets) → drop end octets ≡ drop 16 (drop at octets)
beyond_is octets at end within ends =
    elim (cases_lt (length octets) (at + 16)) [
      | inr h ↦ let e : end ≡ at + 16 = omega arith in ap (λ (n : ℕ). drop n octets) e ∙ sym (drop-drop 16 at octets)
      | inl h ↦ drop_all end octets (omega arith) ∙ sym (drop_all 16 (drop at octets) (omega (arith, length-drop at octets)))
    ]

pub absorb_more : (h sum start at end : ℕ) (octets : List ℕ) → at < length octets → end ≡ min (at + 16) (length octets)
    → ghash_from h sum (blocks (drop at octets)) ≡ ghash_from h start (blocks octets)
    → ghash_from h (block_product (bit_xor sum (poly_of (take (end - at) (drop at octets)))) h) (blocks (drop end octets)) ≡ ghash_from h start (blocks octets)
unfolding ghash_from
absorb_more h sum start at end octets within ends is =
    let rest = drop at octets in
    let some : 0 < length (drop at octets) = omega (arith, length-drop at octets) in
    let part : take (end - at) (drop at octets) ≡ take 16 (drop at octets) = part_is octets at end within ends in
    let beyond : drop end octets ≡ drop 16 (drop at octets) = beyond_is octets at end within ends in
    ap (λ (l : List ℕ). ghash_from h (block_product (bit_xor sum (poly_of l)) h) (blocks (drop end octets))) part
    ∙ ap (λ (l : List ℕ). ghash_from h (block_product (bit_xor sum (poly_of (take 16 rest))) h) (blocks l)) beyond
    ∙ ap (ghash_from h sum) (sym (blocks_more rest some))
    ∙ is

pub absorb_all : (h sum start at : ℕ) (octets : List ℕ) → length octets ≤ at → ghash_from h sum (blocks (drop at octets)) ≡ ghash_from h start (blocks octets) → sum ≡ ghash_from h start (blocks octets)
unfolding ghash_from polys
absorb_all h sum start at octets over is =
    sym (ap (λ (l : List ℕ). ghash_from h sum (blocks l)) (drop_all at octets over)) ∙ is

pub ghash_from-append : (h sum : ℕ) (xs ys : List ℕ) → ghash_from h sum (xs ++ ys) ≡ ghash_from h (ghash_from h sum xs) ys
unfolding ghash_from
ghash_from-append h sum [] ys = refl
ghash_from-append h sum (x ∷ xs) ys = ghash_from-append h (block_product (bit_xor sum x) h) xs ys
