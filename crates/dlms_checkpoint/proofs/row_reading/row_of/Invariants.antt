use Rattle.std.proofs.Common.{◌≡◌, drop}
use Rattle.arrayvec.specs.ArrayVec.{array_vec_len}
use Rattle.dlms_checkpoint.specs.Reading.{values_at}
use Rattle.dlms_checkpoint.proofs.row_reading.row_of.Given as goal

abbrev pub invariant-loop-nth : goal.invariant-loop-nth
invariant-loop-nth l = record {
  items : l.values.items ≡ values_at l.nth (drop l.place l.rows);
  len : array_vec_len l.values ≡ l.nth;
}
