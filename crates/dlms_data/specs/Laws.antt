-- Laws of reading and writing.
use Rattle.std.specs.Prelude.{◌≡◌, ◌↔◌, List, ℕ, ◌++◌, Ok}
use Rattle.dlms_data.specs.Value.{Value}
use Rattle.dlms_data.specs.Reading.{data_at}
use Rattle.dlms_data.specs.Spelling.{IsSpelling}
use Rattle.dlms_data.specs.Writing.{Fits, canonical}

-- reading from left to right returns a value and what follows it exactly if the grammar has a spelling of the value there
abbrev pub ReadsWhatIsSpelled : Type 0
ReadsWhatIsSpelled =
    (bytes rest : List ℕ) (v : Value) → (data_at 8 bytes ≡ Ok (v, rest))
    ↔ ((text : List ℕ) × (bytes ≡ text ++ rest) × IsSpelling text v)

-- two spellings at the front of the same bytes are the same bytes, of the same value
abbrev pub ReadsOneValue : Type 0
ReadsOneValue =
    (bytes one one_rest other other_rest : List ℕ) (v w : Value) → bytes ≡ one ++ one_rest
    → bytes ≡ other ++ other_rest → IsSpelling one v → IsSpelling other w
    → (one ≡ other) × (v ≡ w)

-- the canonical spelling of a value that fits is read as this value
abbrev pub ReadsWhatWasWritten : Type 0
ReadsWhatWasWritten =
    (v : Value) (rest : List ℕ) → Fits v → data_at 8 (canonical v ++ rest) ≡ Ok (v, rest)
