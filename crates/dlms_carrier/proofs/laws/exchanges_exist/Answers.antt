use Rattle.dlms_carrier.proofs.RunLemmas.{exchange}
use Rattle.dlms_carrier.proofs.laws.exchanges_exist.Goals as goal

pub returns : goal.returns
returns c = λ own server apdu answer port meter short fits answers. exchange own server apdu answer port meter short fits answers
