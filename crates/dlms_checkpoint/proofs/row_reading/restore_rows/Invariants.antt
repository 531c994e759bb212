use Rattle.std.proofs.Common.{◌≡◌, ◌+◌, ◌*◌, ◌++◌, drop, length}
use Rattle.dlms_checkpoint.specs.Reading.{rows_at}
use Rattle.dlms_checkpoint.proofs.row_reading.restore_rows.Given as goal

abbrev pub invariant-loop-index : goal.invariant-loop-index
invariant-loop-index g l = l.state ≡ record l.fn.state { rows = record { items = l.fn.state.rows.items ++ rows_at (length l.fn.state.columns) l.index (drop (4 * length l.fn.state.columns * l.skipped) l.places); next = l.fn.state.rows.next + l.index } }
