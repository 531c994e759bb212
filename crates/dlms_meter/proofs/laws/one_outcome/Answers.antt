use Rattle.dlms_meter.proofs.OneOutcome.{same_comes, alike_comes}
use Rattle.dlms_meter.proofs.laws.one_outcome.Goals as goal

pub returns-clause-equal : goal.returns-clause-equal
returns-clause-equal c = same_comes

pub returns-clause-alike : goal.returns-clause-alike
returns-clause-alike c = alike_comes
