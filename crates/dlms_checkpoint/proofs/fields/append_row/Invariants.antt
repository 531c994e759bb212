use Rattle.std.proofs.Common.{◌≡◌, ◌+◌, ◌*◌, ◌++◌, take}
use Rattle.std.specs.List.{flat_map}
use Rattle.arrayvec.specs.ArrayVec.{array_vec_len}
use Rattle.byteorder.specs.Endian.{big_bytes}
use Rattle.dlms_checkpoint.proofs.fields.append_row.Given as goal

abbrev pub invariant-loop-value : goal.invariant-loop-value
invariant-loop-value g l = record {
  items : l.bytes.items ≡ l.fn.bytes.items ++ flat_map (big_bytes 4) (take l.value-index l.row.values.items);
  len : array_vec_len l.bytes ≡ array_vec_len l.fn.bytes + 4 * l.value-index;
}
