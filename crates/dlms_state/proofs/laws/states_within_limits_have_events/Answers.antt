use Rattle.dlms_state.proofs.Reached.{HasEvents-within}
use Rattle.dlms_state.proofs.laws.states_within_limits_have_events.Goals as goal

pub returns : goal.returns
returns c = HasEvents-within
