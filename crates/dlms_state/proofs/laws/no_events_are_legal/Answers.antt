use Rattle.dlms_state.proofs.Legal.{IsLegal-none}
use Rattle.dlms_state.proofs.laws.no_events_are_legal.Goals as goal

pub returns : goal.returns
returns c = IsLegal-none
