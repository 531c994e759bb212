use Rattle.std.proofs.Common.{◌≡◌, ◌<◌, ◌≤◌, ℕ, slice_index}
use Rattle.dlms_state.specs.declared.event.TheConstants.{LAST_SECOND}
use Rattle.dlms_checkpoint.proofs.row_reading.is_in_time.Given as goal

abbrev pub invariant-loop-nth : goal.invariant-loop-nth
invariant-loop-nth l = (k : ℕ) → k < l.nth → slice_index l.columns k ≡ 0 → slice_index l.values k ≤ LAST_SECOND
