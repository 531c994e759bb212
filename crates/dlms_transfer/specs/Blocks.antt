-- The blocks of an APDU, joined (IEC 62056-5-3, 9.3.5, general block transfer).
use Rattle.std.specs.Prelude.{◌==◌, ◌&&◌, ◌+◌, nat_lt, nat_le, if◌then◌else◌, ℕ, Bool, false, List, [], ◌∷◌, ◌++◌, length, Option, Some, None, Result, Ok, Err}
use Rattle.std.specs.Int.{w16, from_be_bytes}
use Rattle.dlms_axdr.specs.Reading.{Fault, octets_at}
use Rattle.dlms_transfer.specs.declared.block.Block.{Block}
use Rattle.dlms_transfer.specs.declared.blocks.Outcome.{Outcome}
use Rattle.dlms_transfer.specs.declared.blocks.Step.TheVariants.{More, Whole, NotNext, Long}
use Rattle.dlms_transfer.specs.declared.blocks.TheConstants.{MOST_JOINED}

-- a block: whether it is the last one, its number, and its part of the APDU
pub record Part : Type 0 where
  pub is_last : Bool
  pub number : ℕ
  pub octets : List ℕ

abbrev pub part_of : Block → Part
part_of b = record { is_last = b.is_last; number = b.number; octets = b.octets.now }

-- the octets of a string, if no octets follow it
abbrev pub string_in : Result (List ℕ × List ℕ) Fault → Option (List ℕ)
string_in (Ok (string, [])) = Some string
string_in (Ok (string, a ∷ rest)) = None
string_in (Err fault) = None

-- a block with this control octet and this number
abbrev pub part_with : ℕ → ℕ → Option (List ℕ) → Option Part
part_with control number None = None
part_with control number (Some octets) = Some (record { is_last = nat_le 0x80 control; number = number; octets = octets })

-- the block that is all of an APDU: E0, control octet, number, acknowledged number, and its octets after their length in A-XDR
abbrev pub block_in : List ℕ → Option Part
block_in (tag ∷ control ∷ a ∷ b ∷ c ∷ d ∷ rest) =
    if tag == 0xE0 then part_with control (from_be_bytes w16 (a ∷ b ∷ [])) (string_in (octets_at rest)) else None
block_in _ = None

-- the octets of an APDU so far, and the number of its last block while further ones are to come, otherwise 0
pub record Blocked : Type 0 where
  pub octets : List ℕ
  pub last : ℕ

-- the outcome of a block, and the blocks after it
pub record Taken : Type 0 where
  pub outcome : Outcome
  pub kept : Blocked

abbrev pub no_blocks : Outcome → Taken
no_blocks outcome = record { outcome = outcome; kept = record { octets = []; last = 0 } }

-- these octets are the APDU so far, and all of it with the last block; too many are left out
abbrev pub blocks_so_far : Part → Bool → List ℕ → Taken
blocks_so_far block is_torn octets =
    if nat_le (length octets) MOST_JOINED
    then record {
      outcome = record { step = if block.is_last then Whole else More; is_torn = is_torn };
      kept = record { octets = octets; last = if block.is_last then 0 else block.number };
    }
    else no_blocks (record { step = Long; is_torn = is_torn })

-- what a block brings: the next one goes on, the one with number 1 begins another APDU
abbrev pub block_of : Blocked → Part → Taken
block_of kept block =
    if (nat_lt 0 kept.last) && (block.number == kept.last + 1) then blocks_so_far block false (kept.octets ++ block.octets)
    else if block.number == 1 then blocks_so_far block (nat_lt 0 kept.last) block.octets
    else no_blocks (record { step = NotNext; is_torn = nat_lt 0 kept.last })

-- the outcome of an APDU that is a block, and the blocks after it
abbrev pub outcome_of : Blocked → Option Part → Option Outcome
outcome_of kept None = None
outcome_of kept (Some block) = Some (block_of kept block).outcome

abbrev pub kept_after : Blocked → Option Part → Blocked
kept_after kept None = kept
kept_after kept (Some block) = (block_of kept block).kept
