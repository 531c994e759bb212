-- Calls for the blocks of a value that goes out, one after another.
use Rattle.std.specs.Prelude.{◌≡◌, ℕ, zero, suc, ◌+◌, ◌-◌, ◌*◌, ◌<◌, ◌⊎◌, ◌||◌, Bool, true, false, List, [], ◌∷◌, ◌++◌, length, Result, Ok, Err}
use Rattle.dlms_blocks.specs.declared.block.Block.{Block}
use Rattle.dlms_blocks.specs.Block.{BlockValue, block, blocks_up_to}
use Rattle.dlms_blocks.specs.BlockView.{view_of}
use Rattle.dlms_blocks.specs.Going.{Going, beginning, answer, after}

-- a call for the block after this number, and its answer: a block, or a result
pub record Call : Type 0 where
  pub number : ℕ
  pub answered : Result BlockValue ℕ

-- what a contract sees of such an answer
abbrev pub seen : Result Block ℕ → Result BlockValue ℕ
seen (Ok b) = Ok (view_of b)
seen (Err code) = Err code

-- one call, from the transfer before it to that after it
abbrev pub IsCall : Going → Call → Going → Type 0
IsCall g c h = (c.answered ≡ answer g c.number) × (h ≡ after g c.number)

-- calls one after another, from the transfer before them to that after them
abbrev pub AreCalls : Going → List Call → Going → Type 0
AreCalls g [] h = h ≡ g
AreCalls g (c ∷ cs) h = (next : Going) × IsCall g c next × AreCalls next cs h

-- the blocks that were given, in the order of the calls
abbrev pub given_first : Result BlockValue ℕ → List BlockValue → List BlockValue
given_first (Ok b) bs = b ∷ bs
given_first (Err code) bs = bs

abbrev pub given : List Call → List BlockValue
given [] = []
given (c ∷ cs) = given_first c.answered (given cs)

-- blocks of an encoding, after those up to a number
abbrev pub blocks_behind : List ℕ → ℕ → ℕ → ℕ → List BlockValue
blocks_behind encoding room number zero = []
blocks_behind encoding room number (suc n) = block encoding room (number + 1)
    ∷ blocks_behind encoding room (number + 1) n

-- the bytes of blocks, joined
abbrev pub joined : List BlockValue → List ℕ
joined [] = []
joined (b ∷ bs) = b.bytes ++ joined bs

-- one of the blocks says that it is the last
abbrev pub has_last : List BlockValue → Bool
has_last [] = false
has_last (b ∷ bs) = b.last || has_last bs

-- each call asks for the block after the one before it
abbrev pub AreInOrder : ℕ → List Call → Type 0
AreInOrder number [] = Unit {0}
AreInOrder number (c ∷ cs) = (c.number ≡ number) × AreInOrder (number + 1) cs

-- ---- the laws, over all calls for the blocks of one value

-- the blocks that were given are those with the numbers 1, 2, 3 and so on, and each of them has bytes
abbrev pub GiveTheBlocks : Type 0
GiveTheBlocks =
    (encoding : List ℕ) (room : ℕ) (calls : List Call) (g : Going) → 0 < length encoding
    → AreCalls (beginning encoding room) calls g
    → (given calls ≡ blocks_behind encoding room 0 (length (given calls)))
    × (0 < length (given calls) → (length (given calls) - 1) * room < length encoding)

-- joined they are the first blocks of the value, and all of it once one says that it is the last
abbrev pub JoinToTheValue : Type 0
JoinToTheValue =
    (encoding : List ℕ) (room : ℕ) (calls : List Call) (g : Going) → 0 < length encoding
    → AreCalls (beginning encoding room) calls g
    → (joined (given calls) ≡ blocks_up_to encoding room (length (given calls)))
    × (has_last (given calls) ≡ true → joined (given calls) ≡ encoding)

-- if each call asks for the next block, each returns it, until the last is returned
abbrev pub GiveEachInOrder : Type 0
GiveEachInOrder =
    (encoding : List ℕ) (room : ℕ) (calls : List Call) (g : Going) → AreInOrder 0 calls
    → AreCalls (beginning encoding room) calls g
    → (length (given calls) ≡ length calls) ⊎ (has_last (given calls) ≡ true)
