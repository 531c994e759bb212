-- A value that goes out in blocks.
use Rattle.std.specs.Prelude.{◌≡◌, ℕ, ◌+◌, ◌*◌, ◌<◌, ◌≤◌, ◌==◌, Bool, true, false, List, length, Result, Ok, Err, if◌then◌else◌}
use Rattle.dlms_blocks.specs.Block.{BlockValue, block, is_last}
use Rattle.dlms_blocks.specs.declared.block.TheConstants.{MOST_BYTES, NO_LONG_GET, UNKNOWN_BLOCK}

-- the encoding, the room of a block, the number of the last block given (0 before the first), and whether the transfer
-- is over
pub record Going : Type 0 where
  pub encoding : List ℕ
  pub room : ℕ
  pub given : ℕ
  pub over : Bool

-- a transfer that begins
abbrev pub beginning : List ℕ → ℕ → Going
beginning encoding room = record { encoding = encoding; room = room; given = 0; over = false }

-- what a call for the block after this number answers: the block, or the result for another number than that of the last
-- block given, or for a transfer that is over
abbrev pub answer : Going → ℕ → Result BlockValue ℕ
answer g number =
    if g.over then Err NO_LONG_GET
    else if number == g.given then Ok (block g.encoding g.room (g.given + 1))
    else Err UNKNOWN_BLOCK

-- the transfer after such a call: over after the last block, and after another number
abbrev pub after : Going → ℕ → Going
after g number =
    if g.over then g
    else if number == g.given then record g {
      given = g.given + 1;
      over = is_last g.encoding g.room (g.given + 1);
    }
    else record g { over = true }

-- what each transfer keeps to
pub record IsGoing (g : Going) : Type 0 where
  pub some : 0 < g.room
  pub most : g.room ≤ MOST_BYTES
  pub short : length g.encoding ≤ 65536
  pub within : g.over ≡ false → g.given * g.room < length g.encoding
