-- The parts of GCM: the pad, the tag, the additional data.
use Rattle.std.proofs.Common.{◌≡◌, ℕ, zero, suc, ◌+◌, ◌-◌, ◌%◌, ◌^◌, ◌<◌, ◌≤◌, ◌⊎◌, List, [], ◌∷◌, ◌++◌, length, take, drop, get_or, min, refl, sym, ap, ◌∙◌, inl, inr, arith, append_assoc, length-append, length-drop}
use Rattle.std.proofs.lemmas.Bool.{cases_lt}
use Rattle.std.proofs.lemmas.List.{drop_all, drop_more, take_all, take_at, drop_at, append-nil, take-append-drop, length-take}
use Rattle.std.proofs.lemmas.Nat.{le_or_l, le_or_r, from_be_bytes-to_be_bytes_4}
use Rattle.std.specs.Int.{w32, to_be_bytes, from_be_bytes}
use lib.Bits.{bit_xor, bit_or, xor_zero_r, xor_assoc, xor_self}
use Rattle.dlms_cipher.specs.Aes.{aes, state_after, round_key, shift_rows, sub_bytes, xor_octets}
use Rattle.dlms_cipher.specs.Field.{block_product}
use Rattle.dlms_cipher.specs.Gcm.{poly_of, block_count, blocks, ghash_from, ghash, counter_blocks}
use Rattle.dlms_cipher.proofs.BoxLemmas.{four_parts, four_octets}
use Rattle.dlms_cipher.proofs.BlockLemmas.{part_is, beyond_is, blocks_more, blocks_none, ghash_from-append}
use Rattle.dlms_cipher.proofs.PowerLemmas.{ghash_is, Small, small_append}

-- ---- sums octet by octet

pub length-xor_octets : (xs ys : List ℕ) → length (xor_octets xs ys) ≡ min (length xs) (length ys)
length-xor_octets [] ys = omega arith
length-xor_octets (x ∷ xs) [] = omega arith
length-xor_octets (x ∷ xs) (y ∷ ys) = omega (arith, length-xor_octets xs ys)

pub aes_short : (key block : List ℕ) → length (aes key block) ≤ 16
unfolding aes
aes_short key block = omega (arith, length-xor_octets (shift_rows (sub_bytes (state_after key block 9))) (round_key key 10))

pub get_or-xor_octets : (xs ys : List ℕ) (k : ℕ) → k < length xs → k < length ys → get_or (xor_octets xs ys) k 0 ≡ bit_xor (get_or xs k 0) (get_or ys k 0)
get_or-xor_octets [] ys k hx hy = absurd (omega arith)
get_or-xor_octets (x ∷ xs) [] k hx hy = absurd (omega arith)
get_or-xor_octets (x ∷ xs) (y ∷ ys) zero hx hy = refl
get_or-xor_octets (x ∷ xs) (y ∷ ys) (suc k) hx hy = get_or-xor_octets xs ys k (omega arith) (omega arith)

same_at : (xs ys : List ℕ) → length xs ≡ length ys → ((k : ℕ) → k < length xs → get_or xs k 0 ≡ get_or ys k 0) → xs ≡ ys
same_at [] [] e h = refl
same_at [] (y ∷ ys) e h = absurd (omega arith)
same_at (x ∷ xs) [] e h = absurd (omega arith)
same_at (x ∷ xs) (y ∷ ys) e h =
    ap (λ (n : ℕ). n ∷ xs) (h 0 (omega arith)) ∙ ap (λ (l : List ℕ). y ∷ l) (same_at xs ys (omega arith) (λ k below. h (suc k) (omega arith)))

pub added_all : (new old pad : List ℕ) (i : ℕ) → length new ≡ length old → length old ≤ i → length old ≤ length pad
    → ((k : ℕ) → k < i → get_or new k 0 ≡ bit_xor (get_or old k 0) (get_or pad k 0)) → new ≡ xor_octets old pad
added_all new old pad i size over room done =
    same_at new (xor_octets old pad) (omega (arith, length-xor_octets old pad))
    (λ k below. done k (omega arith) ∙ sym (get_or-xor_octets old pad k (omega arith) (omega arith)))

-- ---- tags

pub or_none : (a b : ℕ) → bit_or a b ≡ 0 → (a ≡ 0) × (b ≡ 0)
or_none a b none = (omega (arith, le_or_l a b), omega (arith, le_or_r a b))

pub xor_none : (a b : ℕ) → bit_xor a b ≡ 0 → a ≡ b
xor_none a b none =
    sym (xor_zero_r a) ∙ ap (λ (n : ℕ). bit_xor a n) (sym (xor_self b)) ∙ sym (xor_assoc a b b) ∙ ap (λ (n : ℕ). bit_xor n b) none

pub same_tags : (xs ys : List ℕ) (i : ℕ) → length xs ≡ 12 → length ys ≡ 12 → 12 ≤ i → ((k : ℕ) → k < i → get_or xs k 0 ≡ get_or ys k 0) → xs ≡ ys
same_tags xs ys i lx ly over h = same_at xs ys (omega arith) (λ k below. h k (omega arith))

pub tags_more : (xs ys : List ℕ) (d i : ℕ) → bit_or d (bit_xor (get_or xs i 0) (get_or ys i 0)) ≡ 0 → (d ≡ 0 → (k : ℕ) → k < i → get_or xs k 0 ≡ get_or ys k 0)
    → (k : ℕ) → k < i + 1 → get_or xs k 0 ≡ get_or ys k 0
tags_more xs ys d i none before k below =
    let parts : (d ≡ 0) × (bit_xor (get_or xs i 0) (get_or ys i 0) ≡ 0) = or_none d (bit_xor (get_or xs i 0) (get_or ys i 0)) none in
    elim (cases_lt k i) [
      | inl h ↦ before parts.0 k h
      | inr h ↦ let e : k ≡ i = omega arith in ap (λ (n : ℕ). get_or xs n 0) e ∙ xor_none (get_or xs i 0) (get_or ys i 0) parts.1 ∙ ap (λ (n : ℕ). get_or ys n 0) (sym e)
    ]

pub tags_alike : (xs ys : List ℕ) (d i : ℕ) → xs ≡ ys → d ≡ 0 → bit_or d (bit_xor (get_or xs i 0) (get_or ys i 0)) ≡ 0
tags_alike xs ys d i same none =
    ap (λ (n : ℕ). bit_or n (bit_xor (get_or xs i 0) (get_or ys i 0))) none
    ∙ ap (λ (l : List ℕ). bit_xor (get_or l i 0) (get_or ys i 0)) same ∙ xor_self (get_or ys i 0)

-- ---- lists of twelve and of sixteen

pub twelve_is : (b : List ℕ) → length b ≡ 12 → (get_or b 0 0 ∷ get_or b 1 0 ∷ get_or b 2 0 ∷ get_or b 3 0 ∷ get_or b 4 0 ∷ get_or b 5 0 ∷ get_or b 6 0 ∷ get_or b 7 0 ∷ get_or b 8 0 ∷ get_or b 9 0 ∷ get_or b 10 0 ∷ get_or b 11 0 ∷ []) ≡ b
twelve_is (n0 ∷ n1 ∷ n2 ∷ n3 ∷ n4 ∷ n5 ∷ n6 ∷ n7 ∷ n8 ∷ n9 ∷ n10 ∷ n11 ∷ []) all = refl
twelve_is _ all = absurd (omega arith)

pub sixteen_is : (b : List ℕ) → length b ≡ 16 → (get_or b 0 0 ∷ get_or b 1 0 ∷ get_or b 2 0 ∷ get_or b 3 0 ∷ get_or b 4 0 ∷ get_or b 5 0 ∷ get_or b 6 0 ∷ get_or b 7 0 ∷ get_or b 8 0 ∷ get_or b 9 0 ∷ get_or b 10 0 ∷ get_or b 11 0 ∷ get_or b 12 0 ∷ get_or b 13 0 ∷ get_or b 14 0 ∷ get_or b 15 0 ∷ []) ≡ b
sixteen_is (x0 ∷ x1 ∷ x2 ∷ x3 ∷ x4 ∷ x5 ∷ x6 ∷ x7 ∷ x8 ∷ x9 ∷ x10 ∷ x11 ∷ x12 ∷ x13 ∷ x14 ∷ x15 ∷ []) all = refl
sixteen_is _ all = absurd (omega arith)

-- the block of a nonce and a counter
pub counter_is : (nonce : List ℕ) (a b c d : ℕ) → length nonce ≡ 12 → ((i : ℕ) → get_or nonce i 0 < 256)
    → a ≡ from_be_bytes w32 (get_or nonce 0 0 ∷ get_or nonce 1 0 ∷ get_or nonce 2 0 ∷ get_or nonce 3 0 ∷ []) → b ≡ from_be_bytes w32 (get_or nonce 4 0 ∷ get_or nonce 5 0 ∷ get_or nonce 6 0 ∷ get_or nonce 7 0 ∷ []) → c ≡ from_be_bytes w32 (get_or nonce 8 0 ∷ get_or nonce 9 0 ∷ get_or nonce 10 0 ∷ get_or nonce 11 0 ∷ [])
    → to_be_bytes w32 a ++ to_be_bytes w32 b ++ to_be_bytes w32 c ++ to_be_bytes w32 d ≡ nonce ++ to_be_bytes w32 d
counter_is (n0 ∷ n1 ∷ n2 ∷ n3 ∷ n4 ∷ n5 ∷ n6 ∷ n7 ∷ n8 ∷ n9 ∷ n10 ∷ n11 ∷ []) a b c d all small ea eb ec =
    four_parts (to_be_bytes w32 a) (to_be_bytes w32 b) (to_be_bytes w32 c) (to_be_bytes w32 d) (n0 ∷ n1 ∷ n2 ∷ n3 ∷ []) (n4 ∷ n5 ∷ n6 ∷ n7 ∷ []) (n8 ∷ n9 ∷ n10 ∷ n11 ∷ []) (to_be_bytes w32 d)
    (four_octets a n0 n1 n2 n3 (small 0) (small 1) (small 2) (small 3) ea)
    (four_octets b n4 n5 n6 n7 (small 4) (small 5) (small 6) (small 7) eb)
    (four_octets c n8 n9 n10 n11 (small 8) (small 9) (small 10) (small 11) ec)
    refl
counter_is _ a b c d all small ea eb ec = absurd (omega arith)

-- the first twelve octets of a sum
pub tag_is : (s m : List ℕ) → 12 ≤ length s → 12 ≤ length m → (bit_xor (get_or s 0 0) (get_or m 0 0) ∷ bit_xor (get_or s 1 0) (get_or m 1 0) ∷ bit_xor (get_or s 2 0) (get_or m 2 0) ∷ bit_xor (get_or s 3 0) (get_or m 3 0) ∷ bit_xor (get_or s 4 0) (get_or m 4 0) ∷ bit_xor (get_or s 5 0) (get_or m 5 0) ∷ bit_xor (get_or s 6 0) (get_or m 6 0) ∷ bit_xor (get_or s 7 0) (get_or m 7 0) ∷ bit_xor (get_or s 8 0) (get_or m 8 0) ∷ bit_xor (get_or s 9 0) (get_or m 9 0) ∷ bit_xor (get_or s 10 0) (get_or m 10 0) ∷ bit_xor (get_or s 11 0) (get_or m 11 0) ∷ []) ≡ take 12 (xor_octets s m)
tag_is (x0 ∷ x1 ∷ x2 ∷ x3 ∷ x4 ∷ x5 ∷ x6 ∷ x7 ∷ x8 ∷ x9 ∷ x10 ∷ x11 ∷ xs) (y0 ∷ y1 ∷ y2 ∷ y3 ∷ y4 ∷ y5 ∷ y6 ∷ y7 ∷ y8 ∷ y9 ∷ y10 ∷ y11 ∷ ys) ls lm = refl
tag_is _ _ ls lm = absurd (omega arith)

-- ---- the pad

pub count_more : (key nonce : List ℕ) (counter : ℕ) (text : List ℕ) → 0 < length text
    → counter_blocks (block_count (length text)) key nonce counter text
    ≡ xor_octets (take 16 text) (aes key (nonce ++ to_be_bytes w32 counter)) ++ counter_blocks (block_count (length (drop 16 text))) key nonce ((counter + 1) % 2 ^ 32) (drop 16 text)
unfolding counter_blocks
count_more key nonce counter text some =
    let count : block_count (length text) ≡ suc (block_count (length (drop 16 text))) = omega (arith, length-drop 16 text) in
    ap (λ (n : ℕ). counter_blocks n key nonce counter text) count

pub count_none : (key nonce : List ℕ) (counter : ℕ) (text : List ℕ) → text ≡ [] → counter_blocks (block_count (length text)) key nonce counter text ≡ []
unfolding counter_blocks
count_none key nonce counter text none = ap (λ (l : List ℕ). counter_blocks (block_count (length l)) key nonce counter l) none

-- one more part is done
pub apply_more : (key nonce text new pad part goal : List ℕ) (counter next at end : ℕ) → at < length text → end ≡ min (at + 16) (length text)
    → pad ≡ aes key (nonce ++ to_be_bytes w32 counter) → next ≡ (counter + 1) % 2 ^ 32
    → part ≡ xor_octets (take (end - at) (drop at text)) pad
    → take end new ≡ take at text ++ part → drop end new ≡ drop end text
    → take at text ++ counter_blocks (block_count (length (drop at text))) key nonce counter (drop at text) ≡ goal
    → take end new ++ counter_blocks (block_count (length (drop end new))) key nonce next (drop end new) ≡ goal
apply_more key nonce text new pad part goal counter next at end within ends padded nexts parted front back is =
    let tail = drop at text in
    let some : 0 < length (drop at text) = omega (arith, length-drop at text) in
    let here : part ≡ xor_octets (take 16 (drop at text)) (aes key (nonce ++ to_be_bytes w32 counter)) =
    parted ∙ ap (λ (l : List ℕ). xor_octets l pad) (part_is text at end within ends) ∙ ap (λ (l : List ℕ). xor_octets (take 16 (drop at text)) l) padded in
    let beyond : drop end new ≡ drop 16 (drop at text) = back ∙ beyond_is text at end within ends in
    ap (λ (l : List ℕ). take end new ++ counter_blocks (block_count (length l)) key nonce next l) beyond
    ∙ ap (λ (n : ℕ). take end new ++ counter_blocks (block_count (length (drop 16 tail))) key nonce n (drop 16 tail)) nexts
    ∙ ap (λ (l : List ℕ). l ++ counter_blocks (block_count (length (drop 16 tail))) key nonce ((counter + 1) % 2 ^ 32) (drop 16 tail)) (front ∙ ap (λ (l : List ℕ). take at text ++ l) here)
    ∙ append_assoc (take at text) (xor_octets (take 16 tail) (aes key (nonce ++ to_be_bytes w32 counter))) (counter_blocks (block_count (length (drop 16 tail))) key nonce ((counter + 1) % 2 ^ 32) (drop 16 tail))
    ∙ ap (λ (l : List ℕ). take at text ++ l) (sym (count_more key nonce counter tail some))
    ∙ is

pub apply_all : (key nonce text goal : List ℕ) (counter at : ℕ) → length text ≤ at
    → take at text ++ counter_blocks (block_count (length (drop at text))) key nonce counter (drop at text) ≡ goal → text ≡ goal
apply_all key nonce text goal counter at over is =
    sym (take_all at text over)
    ∙ sym (append-nil (take at text))
    ∙ ap (λ (l : List ℕ). take at text ++ l) (sym (count_none key nonce counter (drop at text) (drop_all at text over)))
    ∙ is

-- ---- the additional data

-- splits off a whole block
pub block_apart : (p xs : List ℕ) → length p ≡ 16 → blocks (p ++ xs) ≡ blocks p ++ blocks xs
block_apart p xs whole =
    blocks_more (p ++ xs) (omega (arith, length-append p xs))
    ∙ ap (λ (l : List ℕ). poly_of l ∷ blocks (drop 16 (p ++ xs))) (take_at p xs 16 whole)
    ∙ ap (λ (l : List ℕ). poly_of p ∷ blocks l) (drop_at p xs 16 whole)
    ∙ sym (ap (λ (l : List ℕ). l ++ blocks xs) (blocks_more p (omega arith)
    ∙ ap (λ (l : List ℕ). poly_of l ∷ blocks (drop 16 p)) (take_all 16 p (omega arith))
    ∙ ap (λ (l : List ℕ). poly_of p ∷ blocks l) (drop_all 16 p (omega arith))
    ∙ ap (λ (l : List ℕ). poly_of p ∷ l) blocks_none))

-- a part that is a whole block, or the last
part_apart : (p xs : List ℕ) → (length p ≡ 16) ⊎ (xs ≡ []) → blocks (p ++ xs) ≡ blocks p ++ blocks xs
part_apart p xs (inl whole) = block_apart p xs whole
part_apart p xs (inr none) =
    ap (λ (l : List ℕ). blocks (p ++ l)) none ∙ ap blocks (append-nil p) ∙ sym (append-nil (blocks p))
    ∙ ap (λ (l : List ℕ). blocks p ++ l) (sym blocks_none) ∙ ap (λ (l : List ℕ). blocks p ++ blocks l) (sym none)

pub head_apart : (head rest : List ℕ) (n : ℕ) → length head ≡ 17 → n ≡ min (length rest) 15
    → blocks (head ++ rest) ≡ blocks (take 16 head) ++ (blocks (get_or head 16 0 ∷ take n rest) ++ blocks (drop n rest))
head_apart head rest n long short =
    let x = get_or head 16 0 in
    let last : drop 16 head ≡ get_or head 16 0 ∷ [] = drop_more head 16 0 (omega arith) ∙ ap (λ (l : List ℕ). get_or head 16 0 ∷ l) (drop_all 17 head (omega arith)) in
    let whole : head ++ rest ≡ take 16 head ++ ((get_or head 16 0 ∷ take n rest) ++ drop n rest) =
    ap (λ (l : List ℕ). l ++ rest) (sym (take-append-drop 16 head) ∙ ap (λ (l : List ℕ). take 16 head ++ l) last)
    ∙ append_assoc (take 16 head) (x ∷ []) rest
    ∙ ap (λ (l : List ℕ). take 16 head ++ (x ∷ l)) (sym (take-append-drop n rest)) in
    let sixteen : length (take 16 head) ≡ 16 = omega (arith, length-take 16 head) in
    let either : (length (get_or head 16 0 ∷ take n rest) ≡ 16) ⊎ (drop n rest ≡ []) =
    elim (cases_lt (length rest) 15) [
      | inl h ↦ inr (drop_all n rest (omega arith))
      | inr h ↦ inl (omega (arith, length-take n rest))
    ] in
    ap blocks whole
    ∙ block_apart (take 16 head) ((x ∷ take n rest) ++ drop n rest) sixteen
    ∙ ap (λ (l : List ℕ). blocks (take 16 head) ++ l) (part_apart (x ∷ take n rest) (drop n rest) either)

pub absorbed_head : (h first sum last : ℕ) (head rest second : List ℕ) (n : ℕ) → length head ≡ 17 → n ≡ min (length rest) 15
    → first ≡ ghash_from h 0 (blocks (take 16 head)) → second ≡ get_or head 16 0 ∷ take n rest
    → sum ≡ ghash_from h first (blocks second) → last ≡ ghash_from h sum (blocks (drop n rest)) → last ≡ ghash_from h 0 (blocks (head ++ rest))
absorbed_head h first sum last head rest second n long short e1 e2 e3 e4 =
    e4
    ∙ ap (λ (s : ℕ). ghash_from h s (blocks (drop n rest))) (e3 ∙ ap (λ (s : ℕ). ghash_from h s (blocks second)) e1 ∙ ap (λ (l : List ℕ). ghash_from h (ghash_from h 0 (blocks (take 16 head))) (blocks l)) e2)
    ∙ sym (ap (ghash_from h 0) (head_apart head rest n long short)
    ∙ ghash_from-append h 0 (blocks (take 16 head)) (blocks (get_or head 16 0 ∷ take n rest) ++ blocks (drop n rest))
    ∙ ghash_from-append h (ghash_from h 0 (blocks (take 16 head))) (blocks (get_or head 16 0 ∷ take n rest)) (blocks (drop n rest)))

-- a part copied after one octet
pub copied_is : (x n m : ℕ) (ys rest after : List ℕ) → m ≡ 1 + n → n ≤ length rest → ys ≡ take n rest → take m (x ∷ (ys ++ after)) ≡ x ∷ take n rest
copied_is x n m ys rest after long within is =
    let e : m ≡ suc n = omega arith in
    let size : length ys ≡ n = ap length is ∙ omega (arith, length-take n rest) in
    ap (λ (k : ℕ). take k (x ∷ (ys ++ after))) e ∙ ap (λ (l : List ℕ). x ∷ l) (take_at ys after n size ∙ is)

small_one : (x : ℕ) → x < 2 ^ 128 → Small (x ∷ [])
small_one x h zero = h
small_one x h (suc i) = omega arith

-- the hash of all parts
pub hash_is : (h s1 s2 l s3 lengths : ℕ) (heads texts : List ℕ) → h < 2 ^ 128 → lengths < 2 ^ 128 → Small heads → Small texts
    → s1 ≡ ghash_from h 0 heads → s2 ≡ ghash_from h s1 texts → l ≡ lengths → s3 ≡ block_product (bit_xor s2 l) h
    → s3 ≡ ghash h (heads ++ texts ++ lengths ∷ [])
unfolding ghash_from
hash_is h s1 s2 l s3 lengths heads texts hh hl hs ts e1 e2 el e3 =
    e3
    ∙ ap (λ (s : ℕ). block_product (bit_xor s l) h) (e2 ∙ ap (λ (s : ℕ). ghash_from h s texts) e1 ∙ sym (ghash_from-append h 0 heads texts))
    ∙ ap (λ (x : ℕ). ghash_from h (ghash_from h 0 (heads ++ texts)) (x ∷ [])) el
    ∙ sym (ghash_from-append h 0 (heads ++ texts) (lengths ∷ []))
    ∙ ghash_is h (heads ++ texts ++ lengths ∷ []) hh (small_append (heads ++ texts) (lengths ∷ []) (small_append heads texts hs ts) (small_one lengths hl))

-- ---- an answer to a challenge

pub answer_parts : (answer : List ℕ) (n : ℕ) → length answer ≡ 17 → ((i : ℕ) → get_or answer i 0 < 256) → get_or answer 0 0 ≡ 16
    → n ≡ from_be_bytes w32 (get_or answer 1 0 ∷ get_or answer 2 0 ∷ get_or answer 3 0 ∷ get_or answer 4 0 ∷ []) → answer ≡ 16 ∷ to_be_bytes w32 n ++ (get_or answer 5 0 ∷ get_or answer 6 0 ∷ get_or answer 7 0 ∷ get_or answer 8 0 ∷ get_or answer 9 0 ∷ get_or answer 10 0 ∷ get_or answer 11 0 ∷ get_or answer 12 0 ∷ get_or answer 13 0 ∷ get_or answer 14 0 ∷ get_or answer 15 0 ∷ get_or answer 16 0 ∷ [])
answer_parts (x0 ∷ x1 ∷ x2 ∷ x3 ∷ x4 ∷ x5 ∷ x6 ∷ x7 ∷ x8 ∷ x9 ∷ x10 ∷ x11 ∷ x12 ∷ x13 ∷ x14 ∷ x15 ∷ x16 ∷ []) n all small first is =
    ap (λ (m : ℕ). m ∷ x1 ∷ x2 ∷ x3 ∷ x4 ∷ x5 ∷ x6 ∷ x7 ∷ x8 ∷ x9 ∷ x10 ∷ x11 ∷ x12 ∷ x13 ∷ x14 ∷ x15 ∷ x16 ∷ []) first
    ∙ ap (λ (l : List ℕ). 16 ∷ l ++ (x5 ∷ x6 ∷ x7 ∷ x8 ∷ x9 ∷ x10 ∷ x11 ∷ x12 ∷ x13 ∷ x14 ∷ x15 ∷ x16 ∷ [])) (sym (four_octets n x1 x2 x3 x4 (small 1) (small 2) (small 3) (small 4) is))
answer_parts _ n all small first is = absurd (omega arith)

pub answer_counter : (answer tag : List ℕ) (n k : ℕ) → k < 2 ^ 32 → answer ≡ 16 ∷ to_be_bytes w32 k ++ tag → n ≡ from_be_bytes w32 (get_or answer 1 0 ∷ get_or answer 2 0 ∷ get_or answer 3 0 ∷ get_or answer 4 0 ∷ []) → n ≡ k
answer_counter answer tag n k small e is =
    is ∙ ap (λ (l : List ℕ). from_be_bytes w32 (get_or l 1 0 ∷ get_or l 2 0 ∷ get_or l 3 0 ∷ get_or l 4 0 ∷ [])) e ∙ from_be_bytes-to_be_bytes_4 k small

pub answer_tag : (answer tag : List ℕ) (k : ℕ) → length answer ≡ 17 → answer ≡ 16 ∷ to_be_bytes w32 k ++ tag → (get_or answer 5 0 ∷ get_or answer 6 0 ∷ get_or answer 7 0 ∷ get_or answer 8 0 ∷ get_or answer 9 0 ∷ get_or answer 10 0 ∷ get_or answer 11 0 ∷ get_or answer 12 0 ∷ get_or answer 13 0 ∷ get_or answer 14 0 ∷ get_or answer 15 0 ∷ get_or answer 16 0 ∷ []) ≡ tag
answer_tag answer tag k all e =
    let size : length tag + 5 ≡ 17 = sym (ap length e ∙ omega arith) ∙ all in
    ap (λ (l : List ℕ). get_or l 5 0 ∷ get_or l 6 0 ∷ get_or l 7 0 ∷ get_or l 8 0 ∷ get_or l 9 0 ∷ get_or l 10 0 ∷ get_or l 11 0 ∷ get_or l 12 0 ∷ get_or l 13 0 ∷ get_or l 14 0 ∷ get_or l 15 0 ∷ get_or l 16 0 ∷ []) e ∙ twelve_is tag (omega arith)
