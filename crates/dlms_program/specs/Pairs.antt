-- Bytes as pairs of hexadecimal digits.
use Rattle.std.specs.Prelude.{◌≡◌, ◌<◌, ℕ, List, length, Ok}
use Rattle.hex.specs.Hex.{decode_of}

-- the digits are one or more pairs, of either case, that spell the bytes
pub record ArePairs (digits bytes : List ℕ) : Type 0 where
  pub some : 0 < length digits
  pub spelled : decode_of digits ≡ Ok bytes
