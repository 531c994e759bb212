-- The memory that a handle owns unless it is empty: the box of a value, by a pointer. Assumes nothing: this is a definition.
use Rattle.std.specs.Prelude.{Bool, true, false}
use Rattle.dlms_room.specs.Blocks.{block_rest}
use Rattle.std_alloc.specs.Box.Ownership.{box_owns}
use base.Fml.{Fml, ftrue, fex}
use denote.RattleType.{RattleType}
use denote.RawPtr.{Ptr}

abbrev pub keeps : (R : RattleType) → Bool → Ptr → Fml
keeps R false p = ftrue
keeps R true p = fex R.Denot (λ x. box_owns block_rest R p x)
