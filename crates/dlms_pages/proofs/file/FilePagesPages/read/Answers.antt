use Rattle.dlms_pages.proofs.FileKeeping.{in_pages, read_goes, read_reads}
use Rattle.dlms_pages.proofs.file.FilePagesPages.read.Goals as goal

pub returns-clause-goes : goal.returns-clause-goes
returns-clause-goes g c = read_goes g.F.SlotFile.slots c.args.index c.args.self.now c.read_page.new.self c.read_page.result (in_pages g.F.SlotFile.slots c.args.index c.args.self.now c.requires) c.read_page.ensures.file

pub returns-clause-page : goal.returns-clause-page
returns-clause-page g c keeps = read_reads g.F.SlotFile.slots c.args.index c.args.self.now c.read_page.new.self c.read_page.result (in_pages g.F.SlotFile.slots c.args.index c.args.self.now c.requires) c.read_page.ensures.file c.read_page.ensures.kept keeps

pub read_page-requires : goal.read_page-requires
read_page-requires g c = in_pages g.F.SlotFile.slots c.args.index c.args.self.now c.requires
