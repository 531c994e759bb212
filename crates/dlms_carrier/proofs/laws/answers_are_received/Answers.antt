use Rattle.dlms_carrier.proofs.RunLemmas.{received}
use Rattle.dlms_carrier.proofs.laws.answers_are_received.Goals as goal

pub returns : goal.returns
returns c = λ old new begin calls e within run. received old new begin calls e within run
