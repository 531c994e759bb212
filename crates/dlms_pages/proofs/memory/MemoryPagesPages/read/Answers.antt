use Rattle.dlms_pages.proofs.Views.{failed_goes}
use Rattle.dlms_pages.proofs.memory.MemoryPagesPages.read.Goals as goal

pub returns-in_err-pass-clause-goes : goal.returns-in_err-pass-clause-goes
returns-in_err-pass-clause-goes g c = failed_goes c.args.self.now c.pass.new.self c.in_err-pass.ensures.failed _
