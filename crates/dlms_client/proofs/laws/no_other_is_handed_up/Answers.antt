use Rattle.dlms_client.proofs.HandedUp.{no_other}
use Rattle.dlms_client.proofs.laws.no_other_is_handed_up.Goals as goal

pub returns : goal.returns
returns c = λ old new carried runs. no_other carried old new runs
