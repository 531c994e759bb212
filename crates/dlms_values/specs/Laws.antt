-- Laws of reading.
use Rattle.std.specs.Prelude.{◌≡◌, ◌↔◌, List, ℕ, ◌++◌, Ok}
use Rattle.dlms_values.specs.Value.{Value}
use Rattle.dlms_values.specs.Reading.{value_at}
use Rattle.dlms_values.specs.Spelling.{IsSpelling}

-- reading from left to right returns a value and what follows it exactly if the grammar has a spelling of the value there
abbrev pub ReadsWhatIsSpelled : Type 0
ReadsWhatIsSpelled =
    (bytes rest : List ℕ) (v : Value) → (value_at 8 bytes ≡ Ok (v, rest))
    ↔ ((text : List ℕ) × (bytes ≡ text ++ rest) × IsSpelling text v)

-- two spellings at the front of the same octets are the same octets, of the same value
abbrev pub ReadsOneValue : Type 0
ReadsOneValue =
    (bytes one one_rest other other_rest : List ℕ) (v w : Value) → bytes ≡ one ++ one_rest
    → bytes ≡ other ++ other_rest → IsSpelling one v → IsSpelling other w
    → (one ≡ other) × (v ≡ w)
