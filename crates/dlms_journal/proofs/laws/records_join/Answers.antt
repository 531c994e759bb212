use Rattle.dlms_journal.proofs.Lists.{joined}
use Rattle.dlms_journal.proofs.laws.records_join.Goals as goal

pub returns : goal.returns
returns c = joined
