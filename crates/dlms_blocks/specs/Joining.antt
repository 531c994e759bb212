-- A value read that comes in blocks.
use Rattle.std.specs.Prelude.{ℕ, ◌++◌, Bool, false, not, ◌&&◌, List, []}
use Rattle.dlms_blocks.specs.Coming.{follows}

-- the bytes joined so far, the number of the last block taken (0 before the first), and whether that was the last one
pub record Joining : Type 0 where
  pub joined : List ℕ
  pub taken : ℕ
  pub over : Bool

-- before the first block
abbrev pub empty : Joining
empty = record { joined = []; taken = 0; over = false }

-- the block is the next one
abbrev pub is_next : Joining → ℕ → Bool
is_next j number = not j.over && follows j.taken number

-- the block is joined
abbrev pub with_block : Joining → Bool → ℕ → List ℕ → Joining
with_block j last number bytes = record { joined = j.joined ++ bytes; taken = number; over = last }
