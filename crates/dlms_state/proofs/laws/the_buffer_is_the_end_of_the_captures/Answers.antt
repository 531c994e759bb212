use Rattle.dlms_state.proofs.Captures.{buffer_is_the_end}
use Rattle.dlms_state.proofs.laws.the_buffer_is_the_end_of_the_captures.Goals as goal

pub returns : goal.returns
returns c = buffer_is_the_end
