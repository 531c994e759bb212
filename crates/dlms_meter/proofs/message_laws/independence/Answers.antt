use Rattle.dlms_meter.proofs.HistoryOwn.{are_independent, on_their_own}
use Rattle.dlms_meter.proofs.message_laws.independence.Goals as goal

pub returns-clause-alone : goal.returns-clause-alone
returns-clause-alone c = on_their_own

pub returns-clause-equal : goal.returns-clause-equal
returns-clause-equal c = are_independent
