use Rattle.dlms_world.proofs.Whole.{polls_are_named}
use Rattle.dlms_world.proofs.laws.polls_are_named.Goals as goal

pub returns : goal.returns
returns c = polls_are_named
