use Rattle.dlms_pages.proofs.Views.{write_goes, write_writes}
use Rattle.dlms_pages.proofs.memory.MemoryPagesPages.write.Goals as goal

pub returns-clause-goes : goal.returns-clause-goes
returns-clause-goes g c = write_goes c.args.self.now c.record_write.new.self c.args.index c.args.bytes.now _ c.record_write.ensures.passed c.record_write.ensures.failed

pub returns-clause-written : goal.returns-clause-written
returns-clause-written g c _ = write_writes c.args.self.now c.record_write.new.self c.args.index c.args.bytes.now _ c.requires c.record_write.ensures.passed c.record_write.ensures.failed
