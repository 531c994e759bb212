use Rattle.std.proofs.Common.{refl}
use Rattle.dlms_state.specs.Events.{register_after}
use Rattle.dlms_state.proofs.laws.a_register_counts_from_its_last_reset.Goals as goal

pub returns : goal.returns
unfolding register_after
returns c = refl
