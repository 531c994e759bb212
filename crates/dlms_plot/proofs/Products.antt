-- Products of two numbers of 64 bits.
use Rattle.std.proofs.Common.{ℕ, ◌*◌, ◌^◌, ◌-◌, ◌<◌, arith}
use Rattle.std.proofs.lemmas.Nat.{mul-le}

pub product_few : (a b : ℕ) → a < 2 ^ 64 → b < 2 ^ 64 → a * b < 2 ^ 128 - 2 ^ 64
product_few a b p q = omega (arith, mul-le a b (2 ^ 64 - 1) (2 ^ 64 - 1) (omega arith) (omega arith))
