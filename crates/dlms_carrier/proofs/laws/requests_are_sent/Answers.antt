use Rattle.dlms_carrier.proofs.RunLemmas.{sent}
use Rattle.dlms_carrier.proofs.laws.requests_are_sent.Goals as goal

pub returns : goal.returns
returns c = λ old new calls run. sent calls old new run
