use Rattle.dlms_pages.proofs.Spared.{spares_itself}
use Rattle.dlms_pages.proofs.file.FilePages.over.Goals as goal

pub returns-in-Err-clause-spared : goal.returns-in-Err-clause-spared
returns-in-Err-clause-spared g c keeps k = spares_itself (g.F.SlotFile.slots c.args.file) k
