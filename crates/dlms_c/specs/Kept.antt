-- The memory that a handle owns unless it is empty: the box of its value, by a pointer. Assumes nothing: this is a definition.
use Rattle.std.specs.Prelude.{Bool, true, false, Option, Some, None}
use Rattle.libc.specs.Heap.{chunk}
use Rattle.std_alloc.specs.Box.Ownership.{box_owns}
use base.Fml.{Fml, ftrue, ffalse}
use denote.RattleType.{RattleType}
use denote.RawPtr.{Ptr}

abbrev pub keeps : (R : RattleType) → Bool → Ptr → Option R.Denot → Fml
keeps R false p None = ftrue
keeps R false p (Some x) = ffalse
keeps R true p None = ffalse
keeps R true p (Some x) = box_owns chunk R p x
