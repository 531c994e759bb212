use Rattle.std.proofs.Common.{◌≡◌, ◌+◌, ◌*◌, ◌++◌, length}
use Rattle.arrayvec.specs.ArrayVec.{array_vec_len}
use Rattle.dlms_checkpoint.specs.Checkpoint.{places_of}
use Rattle.dlms_checkpoint.proofs.writing.append_places.Given as goal

abbrev pub invariant-loop-index : goal.invariant-loop-index
invariant-loop-index g l = record {
  items : l.bytes.items ≡ l.fn.bytes.items ++ places_of l.columns l.rows l.from l.index;
  len : array_vec_len l.bytes ≡ array_vec_len l.fn.bytes + 4 * length l.columns * l.index;
}
