-- The conformance block (IEC 62056-5-3, the type Conformance): 24 bits, of which bit 0 is the highest of the first byte.
use Rattle.std.specs.Prelude.{◌≡◌, ℕ, ◌-◌, ◌^◌, ◌%◌, List, [], ◌∷◌, map, codes}
use Rattle.dlms_acse.specs.declared.conformance.Conformance.{Conformance}

-- the number in which this bit alone is set
abbrev pub bit : ℕ → ℕ
bit n = 2 ^ (23 - n)

-- the bits of a number that are written: the lower 24
abbrev pub lower : ℕ → ℕ
lower bits = bits % 2 ^ 24

-- each of these is its bit, and no other
abbrev pub AreBits : List (Conformance × ℕ) → Type 0
AreBits [] = Unit {0}
AreBits (c ∷ cs) = (c.0.0 ≡ bit c.1) × AreBits cs

-- the names, each with its bit's number in the standard's list; bits 0 and 7 are reserved
abbrev pub names : List (List ℕ × ℕ)
names =
    (codes "GENERAL_PROTECTION", 1) ∷ (codes "GENERAL_BLOCK_TRANSFER", 2) ∷ (codes "READ", 3)
    ∷ (codes "WRITE", 4) ∷ (codes "UNCONFIRMED_WRITE", 5) ∷ (codes "DELTA_VALUE_ENCODING", 6)
    ∷ (codes "ATTRIBUTE_0_WITH_SET", 8) ∷ (codes "PRIORITY_MANAGEMENT", 9)
    ∷ (codes "ATTRIBUTE_0_WITH_GET", 10) ∷ (codes "BLOCKS_WITH_GET", 11)
    ∷ (codes "BLOCKS_WITH_SET", 12)
    ∷ (codes "BLOCKS_WITH_ACTION", 13) ∷ (codes "MULTIPLE_REFERENCES", 14)
    ∷ (codes "INFORMATION_REPORT", 15) ∷ (codes "DATA_NOTIFICATION", 16) ∷ (codes "ACCESS", 17)
    ∷ (codes "PARAMETERIZED_ACCESS", 18) ∷ (codes "GET", 19) ∷ (codes "SET", 20)
    ∷ (codes "SELECTIVE_ACCESS", 21) ∷ (codes "EVENT_NOTIFICATION", 22) ∷ (codes "ACTION", 23) ∷ []

-- the names, each with its number
abbrev pub named : List (List ℕ × ℕ)
named = map (λ n. (n.0, bit n.1)) names
