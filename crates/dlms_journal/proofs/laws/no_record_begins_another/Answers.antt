use Rattle.dlms_journal.proofs.Lists.{prefix_free}
use Rattle.dlms_journal.proofs.laws.no_record_begins_another.Goals as goal

pub returns : goal.returns
returns c = prefix_free
