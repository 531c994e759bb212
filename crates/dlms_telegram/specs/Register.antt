-- A register in which the check is computed. A bit of it is a coefficient, the lowest that of x^15.
use Rattle.std.specs.Prelude.{ℕ, ◌*◌, ◌/◌, ◌%◌, List, [], ◌∷◌, bit_xor}

-- one step of the division, by x^16 + x^15 + x^2 + 1
unfoldable pub step : ℕ → ℕ
step register = bit_xor (register / 2) (register % 2 * 0xA001)

abbrev pub after_octet : ℕ → ℕ → ℕ
after_octet register octet =
    step (step (step (step (step (step (step (step (bit_xor register octet))))))))

abbrev pub after_octets : ℕ → List ℕ → ℕ
after_octets register [] = register
after_octets register (octet ∷ rest) = after_octets (after_octet register octet) rest
