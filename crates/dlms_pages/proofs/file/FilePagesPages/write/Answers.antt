use Rattle.dlms_pages.proofs.FileKeeping.{in_pages, write_goes, write_writes}
use Rattle.dlms_pages.proofs.file.FilePagesPages.write.Goals as goal

pub returns-clause-goes : goal.returns-clause-goes
returns-clause-goes g c = write_goes g.F.SlotFile.slots c.args.index c.args.bytes.now c.args.self.now c.write_page.new.self c.write_page.result c.write_page.ensures

pub returns-clause-written : goal.returns-clause-written
returns-clause-written g c keeps = write_writes g.F.SlotFile.slots c.args.index c.args.bytes.now c.args.self.now c.write_page.new.self c.write_page.result c.write_page.ensures (in_pages g.F.SlotFile.slots c.args.index c.args.self.now c.requires) c.told-bytes

pub write_page-requires : goal.write_page-requires
write_page-requires g c = in_pages g.F.SlotFile.slots c.args.index c.args.self.now c.requires
