use Rattle.dlms_state.proofs.Captures.{captures_go_on}
use Rattle.dlms_state.proofs.laws.captures_are_never_taken_back.Goals as goal

pub returns : goal.returns
returns c = captures_go_on
