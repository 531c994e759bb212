use Rattle.std.proofs.Common.{take}
use Rattle.dlms_pages.specs.SlotCalls.{Asks, written_again}
use Rattle.dlms_pages.proofs.file.write_again.Given as goal

-- what was written before this page
abbrev pub invariant-loop-index : goal.invariant-loop-index
invariant-loop-index g l = Asks (g.F.SlotFile.slots l.fn.file) (g.F.SlotFile.slots l.file) (written_again 0 (take l.index l.pages))
