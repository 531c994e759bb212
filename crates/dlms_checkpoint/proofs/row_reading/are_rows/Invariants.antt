use Rattle.std.proofs.Common.{◌<◌, ◌≤◌, ◌+◌, ◌*◌, ℕ, length}
use Rattle.dlms_state.specs.Columns.{IsRowOf}
use Rattle.dlms_checkpoint.specs.Reading.{row_at}
use Rattle.dlms_checkpoint.proofs.row_reading.are_rows.Given as goal

abbrev pub invariant-loop-index : goal.invariant-loop-index
invariant-loop-index l = (i : ℕ) → i < l.index → l.first ≤ l.from + i → IsRowOf l.columns (row_at (length l.columns) (4 * length l.columns * i) l.rows)
