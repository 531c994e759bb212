-- AES with a key of 128 bits (FIPS 197). A state, a key and a round key are lists of 16 octets, column by column (3.4).
use Rattle.std.specs.Prelude.{ℕ, zero, suc, ◌+◌, ◌*◌, ◌%◌, ◌^◌, List, [], ◌∷◌, ◌++◌, map, sum, slice_index, bit_xor}
use Rattle.std.specs.Int.{bit_at}
use Rattle.dlms_cipher.specs.Field.{octet_product}

-- ---- the S-box (5.1.1)

-- a^2 · a^4 · … · a^(2^n); n = 7 gives a^254
unfoldable pub even_powers : ℕ → ℕ → ℕ
even_powers zero a = 1
even_powers (suc n) a = let square = octet_product a a
    in octet_product square (even_powers n square)

-- a^254, which is the inverse of a, and 0 if a is 0 (4.4)
unfoldable pub inverse : ℕ → ℕ
inverse a = even_powers 7 a

-- bit i of the affine transformation of b, with the constant 0x63
abbrev pub affine_bit : ℕ → ℕ → ℕ
affine_bit b i =
    (bit_at b i + bit_at b ((i + 4) % 8) + bit_at b ((i + 5) % 8) + bit_at b ((i + 6) % 8) + bit_at b ((i + 7) % 8) + bit_at 0x63 i) % 2

-- all eight bits
unfoldable pub affine : ℕ → ℕ
affine b = sum (map (λ i. affine_bit b i * 2 ^ i) (0 ∷ 1 ∷ 2 ∷ 3 ∷ 4 ∷ 5 ∷ 6 ∷ 7 ∷ []))

-- the S-box
unfoldable pub sbox : ℕ → ℕ
sbox a = affine (inverse a)

-- ---- the steps of a round (5.1)

-- every octet substituted (5.1.1)
abbrev pub sub_bytes : List ℕ → List ℕ
sub_bytes s = map sbox s

-- Row r is rotated left by r columns. The octet in row r and column c of a state has index r + 4 c (5.1.2).
abbrev pub shift_rows : List ℕ → List ℕ
shift_rows s =
    slice_index s 0 ∷ slice_index s 5 ∷ slice_index s 10 ∷ slice_index s 15
    ∷ slice_index s 4 ∷ slice_index s 9 ∷ slice_index s 14 ∷ slice_index s 3
    ∷ slice_index s 8 ∷ slice_index s 13 ∷ slice_index s 2 ∷ slice_index s 7
    ∷ slice_index s 12 ∷ slice_index s 1 ∷ slice_index s 6 ∷ slice_index s 11 ∷ []

-- the sum of four octets
abbrev pub sum_of_four : ℕ → ℕ → ℕ → ℕ → ℕ
sum_of_four a b c d = bit_xor (bit_xor (bit_xor a b) c) d

-- the product of the matrix and a column: 2 3 1 1, and each further row rotated right by one (5.1.3)
abbrev pub mix_column : ℕ → ℕ → ℕ → ℕ → List ℕ
mix_column a b c d =
    sum_of_four (octet_product 2 a) (octet_product 3 b) c d
    ∷ sum_of_four a (octet_product 2 b) (octet_product 3 c) d
    ∷ sum_of_four a b (octet_product 2 c) (octet_product 3 d)
    ∷ sum_of_four (octet_product 3 a) b c (octet_product 2 d) ∷ []

-- every column multiplied
abbrev pub mix_columns : List ℕ → List ℕ
mix_columns s =
    mix_column (slice_index s 0) (slice_index s 1) (slice_index s 2) (slice_index s 3)
    ++ mix_column (slice_index s 4) (slice_index s 5) (slice_index s 6) (slice_index s 7)
    ++ mix_column (slice_index s 8) (slice_index s 9) (slice_index s 10) (slice_index s 11)
    ++ mix_column (slice_index s 12) (slice_index s 13) (slice_index s 14) (slice_index s 15)

-- the sum of two lists, octet by octet, as long as the shorter one (of a state and a round key: 5.1.4)
abbrev pub xor_octets : List ℕ → List ℕ → List ℕ
xor_octets [] ys = []
xor_octets (x ∷ xs) [] = []
xor_octets (x ∷ xs) (y ∷ ys) = bit_xor x y ∷ xor_octets xs ys

-- rounds 1 to 9
abbrev pub round : List ℕ → List ℕ → List ℕ
round s key = xor_octets (mix_columns (shift_rows (sub_bytes s))) key

-- round 10, which does not mix columns
abbrev pub last_round : List ℕ → List ℕ → List ℕ
last_round s key = xor_octets (shift_rows (sub_bytes s)) key

-- ---- the key expansion (5.2)

-- x^n: the round constants are rcon 0 to rcon 9
unfoldable pub rcon : ℕ → ℕ
rcon zero = 1
rcon (suc n) = octet_product 2 (rcon n)

-- word i of a round key, for i from 0 to 3
abbrev pub key_word : List ℕ → ℕ → List ℕ
key_word key i =
    slice_index key (4 * i) ∷ slice_index key (4 * i + 1) ∷ slice_index key (4 * i + 2) ∷ slice_index key (4 * i + 3) ∷ []

-- the last word of a round key, rotated and substituted, plus the round constant
abbrev pub schedule_word : List ℕ → ℕ → List ℕ
schedule_word key constant =
    bit_xor (sbox (slice_index key 13)) constant ∷ sbox (slice_index key 14) ∷ sbox (slice_index key 15) ∷ sbox (slice_index key 12) ∷ []

-- Each word of the next round key is the sum of the word four places before it and the word just before it. For the first word the
-- latter is rotated and substituted.
abbrev pub next_key : List ℕ → ℕ → List ℕ
next_key key constant =
    let first = xor_octets (key_word key 0) (schedule_word key constant) in
    let second = xor_octets (key_word key 1) first in
    let third = xor_octets (key_word key 2) second in
    first ++ second ++ third ++ xor_octets (key_word key 3) third

-- the round key of round n
unfoldable pub round_key : List ℕ → ℕ → List ℕ
round_key key zero = key
round_key key (suc n) = next_key (round_key key n) (rcon n)

-- ---- the cipher (5.1)

-- the state after n of rounds 0 to 9; round 0 adds the key
unfoldable pub state_after : List ℕ → List ℕ → ℕ → List ℕ
state_after key block zero = xor_octets block key
state_after key block (suc n) = round (state_after key block n) (round_key key (suc n))

-- the ciphertext of a block
unfoldable pub aes : List ℕ → List ℕ → List ℕ
aes key block = last_round (state_after key block 9) (round_key key 10)
