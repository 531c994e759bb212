use Rattle.std.proofs.Common.{refl}
use Rattle.dlms_state.specs.Events.{kept_after, register_after, moment_after, offset_after, period_after, columns_after, ends_in_clearing, ends_in_capture}
use Rattle.dlms_state.proofs.laws.set_columns_empty_the_buffer.Goals as goal

pub returns : goal.returns
unfolding kept_after register_after moment_after offset_after period_after columns_after ends_in_clearing ends_in_capture
returns c = refl
