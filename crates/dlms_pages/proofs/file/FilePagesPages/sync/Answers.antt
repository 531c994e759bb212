use Rattle.dlms_pages.proofs.FileSyncing.{sync_goes, sync_syncs}
use Rattle.dlms_pages.proofs.file.FilePagesPages.sync.Goals as goal

pub returns-clause-goes : goal.returns-clause-goes
returns-clause-goes g c = sync_goes g.F.SlotFile.slots c.args.self.now c.sync_pages.new.self c.sync_pages.result c.sync_pages.ensures.file

pub returns-clause-synced : goal.returns-clause-synced
returns-clause-synced g c keeps = sync_syncs g.F.SlotFile.slots c.args.self.now c.sync_pages.new.self c.sync_pages.result c.sync_pages.ensures.file c.sync_pages.ensures.kept keeps
