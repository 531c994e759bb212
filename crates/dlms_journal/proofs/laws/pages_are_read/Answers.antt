use Rattle.dlms_journal.proofs.Pages.{pages_read}
use Rattle.dlms_journal.proofs.laws.pages_are_read.Goals as goal

pub returns : goal.returns
returns c = pages_read
