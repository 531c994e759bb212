use Rattle.std.proofs.Common.{refl}
use Rattle.dlms_state.specs.Events.{moment_after, offset_after}
use Rattle.dlms_state.proofs.laws.less_than_half_a_minute_goes_back.Goals as goal

pub returns : goal.returns
unfolding moment_after offset_after
returns c = refl
