-- The check of a telegram (the Dutch P1 companion standard, 6.2: CRC-16 with the polynomial x^16 + x^15 + x^2 + 1, LSB first, no XOR
-- in and no XOR out): the remainder of a division of polynomials over GF(2). A polynomial is the list of its coefficients, that of the
-- highest power first, and a bit is a coefficient.
use Rattle.std.specs.Prelude.{◌≡◌, ℕ, zero, suc, Bool, true, false, List, [], ◌∷◌, ◌++◌, length, replicate}
use Rattle.dlms_frame.specs.Check.{added, from_bits, line_bits}

-- x^15 + x^2 + 1, from the coefficient of x^15 down
abbrev pub generator : List Bool
generator =
    true ∷ false ∷ false ∷ false ∷ false ∷ false ∷ false ∷ false
    ∷ false ∷ false ∷ false ∷ false ∷ false ∷ true ∷ false ∷ true ∷ []

-- the remainder of the division of a polynomial of n + 16 coefficients by x^16 + x^15 + x^2 + 1
abbrev pub remainder : ℕ → List Bool → List Bool
remainder zero dividend = dividend
remainder (suc n) [] = []
remainder (suc n) (false ∷ rest) = remainder n rest
remainder (suc n) (true ∷ rest) = remainder n (added generator rest)

-- the bits of these octets, the lowest of each first, followed by 16 zeros
abbrev pub dividend_of : List ℕ → List Bool
dividend_of octets = line_bits octets ++ replicate 16 false

-- the check of these octets, a number whose lowest bit is the coefficient of x^15
unfoldable pub check_of : List ℕ → ℕ
check_of octets = from_bits (remainder (length (line_bits octets)) (dividend_of octets))

-- the product of a quotient with x^16 + x^15 + x^2 + 1
abbrev pub times_divisor : List Bool → List Bool
times_divisor [] = replicate 16 false
times_divisor (false ∷ rest) = false ∷ times_divisor rest
times_divisor (true ∷ rest) = true ∷ added generator (times_divisor rest)

-- The dividend is a quotient times x^16 + x^15 + x^2 + 1, plus this remainder of degree below 16.
pub record IsRemainder (dividend left : List Bool) : Type 0 where
  pub quotient : List Bool
  pub degree : length left ≡ 16
  pub equation : dividend ≡ added (times_divisor quotient)
      (replicate (length quotient) false ++ left)
