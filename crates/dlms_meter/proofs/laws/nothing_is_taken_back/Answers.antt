use Rattle.dlms_meter.proofs.BillingLaw.{nothing_is_taken_back}
use Rattle.dlms_meter.proofs.laws.nothing_is_taken_back.Goals as goal

pub returns : goal.returns
returns c = nothing_is_taken_back
