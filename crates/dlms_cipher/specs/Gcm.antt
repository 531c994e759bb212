-- GCM with AES-128, a nonce of 96 bits and a tag of 96 bits (NIST SP 800-38D).
use Rattle.std.specs.Prelude.{ℕ, zero, suc, ◌+◌, ◌*◌, ◌/◌, ◌%◌, ◌^◌, List, [], ◌∷◌, ◌++◌, length, take, drop, replicate, bit_xor}
use Rattle.std.specs.Int.{w8, w32, w64, to_be_bytes, reverse_bits}
use Rattle.dlms_cipher.specs.Field.{block_product}
use Rattle.dlms_cipher.specs.Aes.{aes, xor_octets}

-- ---- blocks as polynomials (6.3)

-- The bits of an octet in reverse order: the first bit of a block, the most significant one of its first octet, is the
-- coefficient of x^0.
unfoldable pub mirror_of : ℕ → ℕ
mirror_of octet = reverse_bits w8 octet

-- the polynomial of a block; missing octets count as zeros
unfoldable pub poly_of : List ℕ → ℕ
poly_of [] = 0
poly_of (octet ∷ rest) = mirror_of octet + 256 * poly_of rest

-- the first n octets of a polynomial's block
unfoldable pub block_of : ℕ → ℕ → List ℕ
block_of zero p = []
block_of (suc n) p = mirror_of (p % 256) ∷ block_of n (p / 256)

-- the polynomials of the first n blocks of some octets
unfoldable pub polys : ℕ → List ℕ → List ℕ
polys zero octets = []
polys (suc n) octets = poly_of (take 16 octets) ∷ polys n (drop 16 octets)

-- the number of blocks of n octets, the last of which may be partial
abbrev pub block_count : ℕ → ℕ
block_count n = (n + 15) / 16

-- the polynomials of all blocks, the last padded with zeros
abbrev pub blocks : List ℕ → List ℕ
blocks octets = polys (block_count (length octets)) octets

-- ---- GHASH (6.4)

-- h^n
unfoldable pub power : ℕ → ℕ → ℕ
power h zero = 1
power h (suc n) = block_product (power h n) h

-- the sum x₁ · h^m + x₂ · h^(m-1) + … + x_m · h
unfoldable pub ghash : ℕ → List ℕ → ℕ
ghash h [] = 0
ghash h (x ∷ rest) = bit_xor (block_product x (power h (suc (length rest)))) (ghash h rest)

-- the algorithm of the standard, from a given sum on: each block is added, and the sum multiplied by h. From 0 it gives GHASH.
unfoldable pub ghash_from : ℕ → ℕ → List ℕ → ℕ
ghash_from h sum [] = sum
ghash_from h sum (x ∷ rest) = ghash_from h (block_product (bit_xor sum x) h) rest

-- ---- GCM

-- n blocks of a text, each added to the encrypted block of nonce and counter; the counter wraps at 2^32 (6.2, 6.5)
unfoldable pub counter_blocks : ℕ → List ℕ → List ℕ → ℕ → List ℕ → List ℕ
counter_blocks zero key nonce counter text = []
counter_blocks (suc n) key nonce counter text =
    xor_octets (take 16 text) (aes key (nonce ++ to_be_bytes w32 counter))
    ++ counter_blocks n key nonce ((counter + 1) % 2 ^ 32) (drop 16 text)

-- a text encrypted, or a ciphertext decrypted. Counter 1 is the tag's (7.1, steps 2 and 3; 7.2).
abbrev pub ctr : List ℕ → List ℕ → List ℕ → List ℕ
ctr key nonce text = counter_blocks (block_count (length text)) key nonce 2 text

-- the hash key (7.1, step 1)
abbrev pub hash_key : List ℕ → ℕ
hash_key key = poly_of (aes key (replicate 16 0))

-- the last block of the hash: the lengths of both parts in bits (7.1, step 5)
abbrev pub lengths : List ℕ → List ℕ → List ℕ
lengths aad ciphertext = to_be_bytes w64 (length aad * 8 % 2 ^ 64)
    ++ to_be_bytes w64 (length ciphertext * 8 % 2 ^ 64)

-- the tag: the hash, added to the encrypted block of counter 1 and cut to 12 octets (7.1, steps 5 and 6)
unfoldable pub tag_of : List ℕ → List ℕ → List ℕ → List ℕ → List ℕ
tag_of key nonce aad ciphertext =
    let parts = blocks aad ++ blocks ciphertext ++ poly_of (lengths aad ciphertext) ∷ [] in
    let hash = ghash (hash_key key) parts in
    take 12 (xor_octets (block_of 16 hash) (aes key (nonce ++ to_be_bytes w32 1)))
