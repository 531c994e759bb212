use Rattle.dlms_meter.proofs.Apart.{on_its_own, equal_replies}
use Rattle.dlms_meter.proofs.laws.independence.Goals as goal

pub returns-clause-alone : goal.returns-clause-alone
returns-clause-alone c = on_its_own

pub returns-clause-equal : goal.returns-clause-equal
returns-clause-equal c = equal_replies
