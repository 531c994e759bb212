-- The table of a hash key: its products with the sixteen polynomials of degree below 4.
use Rattle.std.specs.Prelude.{◌≡◌, ◌<◌, ℕ, List, slice_index}
use Rattle.dlms_cipher.specs.Field.{part_product}

abbrev pub IsTableOf : ℕ → List ℕ → Type 0
IsTableOf h table = (k : ℕ) → k < 16 → slice_index table k ≡ part_product 4 k h
