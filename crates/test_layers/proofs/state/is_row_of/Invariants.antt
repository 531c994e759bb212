use Rattle.std.proofs.Common.{◌≡◌, ◌<◌, ◌≤◌, ℕ, slice_index}
use Rattle.dlms_state.specs.declared.event.TheConstants.{LAST_SECOND}
use Rattle.test_layers.proofs.state.is_row_of.Given as goal

abbrev pub invariant-loop-nth : goal.invariant-loop-nth
invariant-loop-nth l = (k : ℕ) → k < l.nth → slice_index l.columns k ≡ 0 → slice_index l.values k ≤ LAST_SECOND
