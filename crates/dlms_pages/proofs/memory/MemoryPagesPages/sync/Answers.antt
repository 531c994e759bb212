use Rattle.dlms_pages.proofs.Views.{sync_goes, sync_syncs}
use Rattle.dlms_pages.proofs.memory.MemoryPagesPages.sync.Goals as goal

pub returns-clause-goes : goal.returns-clause-goes
returns-clause-goes g c = sync_goes c.args.self.now c.record_sync.new.self _ c.record_sync.ensures.passed c.record_sync.ensures.failed

pub returns-clause-synced : goal.returns-clause-synced
returns-clause-synced g c _ = sync_syncs c.args.self.now c.record_sync.new.self _ c.record_sync.ensures.passed c.record_sync.ensures.failed
