use Rattle.dlms_journal.proofs.Lists.{one}
use Rattle.dlms_journal.proofs.laws.one_list.Goals as goal

pub returns : goal.returns
returns c = one
