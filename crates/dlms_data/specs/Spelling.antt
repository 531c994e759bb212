-- The spellings of each value: which bytes represent it (A-XDR, IEC 62056-5-3 with IEC 61334-6; the tags are those of the Blue
-- Book's common data types).
use Rattle.std.specs.Prelude.{◌≡◌, ℕ, ◌<◌, ◌≤◌, ◌+◌, nat_lt, List, [], ◌∷◌, ◌++◌, length}
use Rattle.std.specs.Int.{cast_signed, w8, w16, w32, w64}
use Rattle.byteorder.specs.Endian.{big_number}
use Rattle.dlms_data.specs.Value.{Value, Values, null, array, structure, boolean, bit_string, double_long, double_long_unsigned, octet_string, visible_string, utf8_string, bcd, integer, long, unsigned, long_unsigned, long64, long64_unsigned, enumerated, date_time, date, time, none, cons, count, depth}
use Rattle.dlms_data.specs.Bits.{HoldsBits}

-- one byte below 128, or 81 to 84 and a number of 1 to 4 bytes
abbrev pub IsLength : List ℕ → ℕ → Type 0
IsLength [] n = ⊥
IsLength (b ∷ []) n = (b < 0x80) × (n ≡ b)
IsLength (b ∷ c ∷ more) n = (length more < 4) × (b ≡ 0x81 + length more)
    × (n ≡ big_number (length (c ∷ more)) (c ∷ more))

-- a tag followed by content
abbrev pub Tagged : ℕ → List ℕ → (List ℕ → Type 0) → Type 0
Tagged tag bytes content = (rest : List ℕ) × (bytes ≡ tag ∷ rest) × content rest

-- a length followed by content
abbrev pub Counted : List ℕ → ℕ → (List ℕ → Type 0) → Type 0
Counted bytes n content = (len : List ℕ) × (rest : List ℕ) × (bytes ≡ len ++ rest) × IsLength len n
    × content rest

abbrev mutual
  pub Spells : List ℕ → Value → Type 0
  Spells bytes null = bytes ≡ 0 ∷ []
  Spells bytes (array vs) = Tagged 1 bytes
      (λ rest. Counted rest (count vs) (λ body. SpellAll body vs))
  Spells bytes (structure vs) =
      Tagged 2 bytes (λ rest. Counted rest (count vs) (λ body. SpellAll body vs))
  Spells bytes (boolean b) = Tagged 3 bytes (λ rest. (length rest ≡ 1)
      × (b ≡ nat_lt 0 (big_number 1 rest)))
  Spells bytes (bit_string bits) =
      Tagged 4 bytes (λ rest. Counted rest (length bits) (λ body. HoldsBits body bits))
  Spells bytes (double_long z) = Tagged 5 bytes (λ rest. (length rest ≡ 4)
      × (z ≡ cast_signed w32 (big_number 4 rest)))
  Spells bytes (double_long_unsigned n) = Tagged 6 bytes (λ rest. (length rest ≡ 4)
      × (n ≡ big_number 4 rest))
  Spells bytes (octet_string b) =
      Tagged 9 bytes (λ rest. Counted rest (length b) (λ body. body ≡ b))
  Spells bytes (visible_string b) =
      Tagged 10 bytes (λ rest. Counted rest (length b) (λ body. body ≡ b))
  Spells bytes (utf8_string b) =
      Tagged 12 bytes (λ rest. Counted rest (length b) (λ body. body ≡ b))
  Spells bytes (bcd n) = Tagged 13 bytes (λ rest. (length rest ≡ 1) × (n ≡ big_number 1 rest))
  Spells bytes (integer z) = Tagged 15 bytes (λ rest. (length rest ≡ 1)
      × (z ≡ cast_signed w8 (big_number 1 rest)))
  Spells bytes (long z) = Tagged 16 bytes (λ rest. (length rest ≡ 2)
      × (z ≡ cast_signed w16 (big_number 2 rest)))
  Spells bytes (unsigned n) = Tagged 17 bytes (λ rest. (length rest ≡ 1) × (n ≡ big_number 1 rest))
  Spells bytes (long_unsigned n) = Tagged 18 bytes (λ rest. (length rest ≡ 2)
      × (n ≡ big_number 2 rest))
  Spells bytes (long64 z) = Tagged 20 bytes (λ rest. (length rest ≡ 8)
      × (z ≡ cast_signed w64 (big_number 8 rest)))
  Spells bytes (long64_unsigned n) = Tagged 21 bytes (λ rest. (length rest ≡ 8)
      × (n ≡ big_number 8 rest))
  Spells bytes (enumerated n) = Tagged 22 bytes (λ rest. (length rest ≡ 1)
      × (n ≡ big_number 1 rest))
  Spells bytes (date_time b) = Tagged 25 bytes (λ rest. (length rest ≡ 12) × (b ≡ rest))
  Spells bytes (date b) = Tagged 26 bytes (λ rest. (length rest ≡ 5) × (b ≡ rest))
  Spells bytes (time b) = Tagged 27 bytes (λ rest. (length rest ≡ 4) × (b ≡ rest))

  pub SpellAll : List ℕ → Values → Type 0
  SpellAll bytes none = bytes ≡ []
  SpellAll bytes (cons v vs) = (front : List ℕ) × (rest : List ℕ) × (bytes ≡ front ++ rest)
      × Spells front v × SpellAll rest vs

-- a spelling of a value of at most eight levels
abbrev pub IsSpelling : List ℕ → Value → Type 0
IsSpelling bytes v = Spells bytes v × (depth v ≤ 8)
