-- Finite fields of 2^n elements: polynomials over GF(2), modulo one of degree n. A number is the polynomial whose coefficient of
-- x^i is bit i of the number. The sum of two is `bit_xor`.
use Rattle.std.specs.Prelude.{◌≡◌, ◌<◌, ℕ, zero, suc, ◌+◌, ◌*◌, ◌/◌, ◌%◌, ◌^◌, bit_xor}
use Rattle.std.specs.Int.{bit_at}

-- x times p, modulo a polynomial of degree top + 1. The degree of p is at most top.
unfoldable pub times_x : ℕ → ℕ → ℕ → ℕ
times_x top modulus p = bit_xor (2 * p) (bit_at p top * modulus)

-- The product of a, which has n coefficients, and b: the constant term of a times b, plus x times the product of the other
-- coefficients of a and b.
unfoldable pub product : ℕ → ℕ → ℕ → ℕ → ℕ → ℕ
product top modulus zero a b = 0
product top modulus (suc n) a b =
    bit_xor (a % 2 * b) (times_x top modulus (product top modulus n (a / 2) b))

-- the product of two octets, modulo x^8 + x^4 + x^3 + x + 1 (FIPS 197, 4.2)
unfoldable pub octet_product : ℕ → ℕ → ℕ
octet_product a b = product 7 0x11B 8 a b

-- x times p, in the field of blocks
abbrev pub double_of : ℕ → ℕ
double_of p = times_x 127 (2 ^ 128 + 0x87) p

-- the product of a, which has n coefficients, and b, in the field of blocks
abbrev pub part_product : ℕ → ℕ → ℕ → ℕ
part_product n a b = product 127 (2 ^ 128 + 0x87) n a b

-- the product of two blocks, modulo x^128 + x^7 + x^2 + x + 1 (NIST SP 800-38D, 6.3)
unfoldable pub block_product : ℕ → ℕ → ℕ
block_product a b = part_product 128 a b

-- ---- products as remainders

-- the product of polynomials over GF(2), without a modulus; a has n coefficients
unfoldable pub plain_product : ℕ → ℕ → ℕ → ℕ
plain_product zero a b = 0
plain_product (suc n) a b = bit_xor (a % 2 * b) (2 * plain_product n (a / 2) b)

-- The remainder has a degree below n, and differs from the dividend by a multiple of the modulus.
pub record IsRemainder (n dividend modulus remainder : ℕ) : Type 0 where
  pub quotient : ℕ
  pub degree : remainder < 2 ^ n
  pub equation : dividend ≡ bit_xor (plain_product n quotient modulus) remainder
