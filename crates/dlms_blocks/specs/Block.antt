-- The blocks of an encoding (IEC 62056-5-3, get-response-with-datablock and set-request-with-datablock: DataBlock-G,
-- DataBlock-SA).
use Rattle.std.specs.Prelude.{ℕ, ◌+◌, ◌-◌, ◌*◌, Bool, nat_le, List, [], ◌++◌, length, take, drop, zero, suc}

-- the bytes of block n, counted from 1, with room for so many: those from (n - 1) * room on, at most room of them
abbrev pub block_bytes : List ℕ → ℕ → ℕ → List ℕ
block_bytes encoding room n = take room (drop ((n - 1) * room) encoding)

-- no byte follows block n
abbrev pub is_last : List ℕ → ℕ → ℕ → Bool
is_last encoding room n = nat_le (length encoding) (n * room)

-- what a contract sees of a block
pub record BlockValue : Type 0 where
  pub last : Bool
  pub number : ℕ
  pub bytes : List ℕ

-- block n of an encoding
abbrev pub block : List ℕ → ℕ → ℕ → BlockValue
block encoding room n = record {
  last = is_last encoding room n;
  number = n;
  bytes = block_bytes encoding room n;
}

-- the bytes of the first n blocks, joined
abbrev pub blocks_up_to : List ℕ → ℕ → ℕ → List ℕ
blocks_up_to encoding room zero = []
blocks_up_to encoding room (suc n) = blocks_up_to encoding room n
    ++ block_bytes encoding room (n + 1)
