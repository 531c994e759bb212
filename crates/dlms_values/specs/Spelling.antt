-- The spellings of each value: which octets represent it (A-XDR, IEC 61334-6, with the tags of the Blue Book's common data types).
use Rattle.std.specs.Prelude.{◌≡◌, ℕ, ◌≤◌, nat_lt, Bool, true, false, Option, Some, None, IsTrue, List, [], ◌∷◌, ◌++◌, length}
use Rattle.std.specs.List.{list_all}
use Rattle.byteorder.specs.Endian.{big_number}
use Rattle.dlms_data.specs.Bits.{HoldsBits}
use Rattle.dlms_data.specs.Spelling.{Tagged, Counted}
use Rattle.dlms_values.specs.Types.{signed_tag, signed_size, signed_value, unsigned_tag, unsigned_size, octets_tag, octets_size, is_plain_tag}
use Rattle.dlms_values.specs.Value.{Value, Values, null, dont_care, boolean, bit_string, float32, float64, signed, unsigned, octets, compact_array, array, structure, none, cons, count, depth}

-- a string's length precedes it; a date or a time has a fixed size
abbrev pub SpellsOctets : Option ℕ → List ℕ → List ℕ → Type 0
SpellsOctets None rest b = Counted rest (length b) (λ body. body ≡ b)
SpellsOctets (Some n) rest b = (length rest ≡ n) × (rest ≡ b)

-- the type of a compact array's elements: the tag of one type, or a structure's tag, how many types, and their tags
abbrev pub SpellsTypes : Bool → List ℕ → List ℕ → Type 0
SpellsTypes false text tags = (length text ≡ 1) × (text ≡ tags)
SpellsTypes true text tags = Tagged 2 text (λ rest. Counted rest (length tags) (λ body. body ≡ tags))

-- a compact array: the type of its elements, each part of which contains no other values, and their octets as an octet string
abbrev pub SpellsCompact : Bool → List ℕ → List ℕ → List ℕ → Type 0
SpellsCompact is_structure tags contents text =
    (types : List ℕ) × (rest : List ℕ) × (text ≡ types ++ rest) × SpellsTypes is_structure types tags
    × IsTrue (list_all is_plain_tag tags) × Counted rest (length contents) (λ body. body ≡ contents)

abbrev mutual
  pub Spells : List ℕ → Value → Type 0
  Spells bytes null = bytes ≡ 0 ∷ []
  Spells bytes dont_care = bytes ≡ 255 ∷ []
  Spells bytes (boolean b) = Tagged 3 bytes (λ rest. (length rest ≡ 1)
      × (b ≡ nat_lt 0 (big_number 1 rest)))
  Spells bytes (bit_string bits) =
      Tagged 4 bytes (λ rest. Counted rest (length bits) (λ body. HoldsBits body bits))
  Spells bytes (float32 n) = Tagged 23 bytes (λ rest. (length rest ≡ 4) × (n ≡ big_number 4 rest))
  Spells bytes (float64 n) = Tagged 24 bytes (λ rest. (length rest ≡ 8) × (n ≡ big_number 8 rest))
  Spells bytes (signed k z) = Tagged (signed_tag k) bytes (λ rest. (length rest ≡ signed_size k)
      × (z ≡ signed_value k (big_number (signed_size k) rest)))
  Spells bytes (unsigned k n) = Tagged (unsigned_tag k) bytes (λ rest.
      (length rest ≡ unsigned_size k) × (n ≡ big_number (unsigned_size k) rest))
  Spells bytes (octets k b) = Tagged (octets_tag k) bytes (λ rest. SpellsOctets (octets_size k) rest b)
  Spells bytes (compact_array is_structure tags contents) =
      Tagged 19 bytes (λ rest. SpellsCompact is_structure tags contents rest)
  Spells bytes (array vs) = Tagged 1 bytes
      (λ rest. Counted rest (count vs) (λ body. SpellAll body vs))
  Spells bytes (structure vs) =
      Tagged 2 bytes (λ rest. Counted rest (count vs) (λ body. SpellAll body vs))

  pub SpellAll : List ℕ → Values → Type 0
  SpellAll bytes none = bytes ≡ []
  SpellAll bytes (cons v vs) = (front : List ℕ) × (rest : List ℕ) × (bytes ≡ front ++ rest)
      × Spells front v × SpellAll rest vs

-- a spelling of a value of at most eight levels
abbrev pub IsSpelling : List ℕ → Value → Type 0
IsSpelling bytes v = Spells bytes v × (depth v ≤ 8)
