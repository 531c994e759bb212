use Rattle.std.proofs.Common.{◌≡◌, map, drop}
use Rattle.dlms_values.specs.View.{value_of}
use Rattle.dlms_buffer.specs.Packed.{packed_at}
use Rattle.dlms_buffer.proofs.Packing.{with_front}
use Rattle.dlms_buffer.proofs.packed.packed_row.Given as goal

abbrev pub invariant-loop-tag : goal.invariant-loop-tag
invariant-loop-tag g l = with_front (map value_of l.values.items) (packed_at (drop l.tag-index l.tags) l.rest) ≡ packed_at l.tags l.contents
