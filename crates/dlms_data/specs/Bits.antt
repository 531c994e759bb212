-- Bits and the bytes that hold them: the first bit is the highest of the first byte (IEC 61334-6, the
-- encoding of a bit string).
use Rattle.std.specs.Prelude.{ℕ, zero, suc, ◌+◌, ◌*◌, ◌/◌, ◌%◌, ◌^◌, ◌≡◌, Bool, true, false, nat_le, List, [], ◌∷◌, ◌++◌, length, take, drop}

-- the k binary digits of a number below 2^k, the highest first
abbrev pub binary_digits : ℕ → ℕ → List Bool
binary_digits zero n = []
binary_digits (suc k) n = nat_le (2 ^ k) n ∷ binary_digits k (n % 2 ^ k)

-- the bits of bytes, in their order
abbrev pub bits_of : List ℕ → List Bool
bits_of [] = []
bits_of (b ∷ bytes) = binary_digits 8 b ++ bits_of bytes

-- a bit as a digit
abbrev pub digit : Bool → ℕ
digit false = 0
digit true = 1

-- how many bytes hold n bits
abbrev pub bytes_for : ℕ → ℕ
bytes_for n = (n + 7) / 8

-- bytes that hold these bits at their front, and fewer than eight bits more
abbrev pub HoldsBits : List ℕ → List Bool → Type 0
HoldsBits bytes bits = (length bytes ≡ bytes_for (length bits))
    × (take (length bits) (bits_of bytes) ≡ bits)

-- the number whose k binary digits are the first k bits, zeros standing for those that are missing
abbrev pub number_of_bits : ℕ → List Bool → ℕ
number_of_bits zero bits = 0
number_of_bits (suc k) [] = 0
number_of_bits (suc k) (b ∷ bits) = digit b * 2 ^ k + number_of_bits k bits

-- that many bytes of bits, with zeros after the last bit
abbrev pub packed : ℕ → List Bool → List ℕ
packed zero bits = []
packed (suc k) bits = number_of_bits 8 bits ∷ packed k (drop 8 bits)
