use Rattle.dlms_service.proofs.Once.{served_once}
use Rattle.dlms_service.proofs.laws.has_one_outcome.Goals as goal

pub returns : goal.returns
returns c = served_once
