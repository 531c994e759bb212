use Rattle.dlms_pages.proofs.Renewing.{RenewedTo}
use Rattle.dlms_pages.proofs.Reopened.{IsOpenedTo}
use Rattle.dlms_pages.proofs.Spared.{IsSparedTo}
use Rattle.dlms_pages.proofs.file.renew.Given as goal

-- the slots below this one were renewed
abbrev pub invariant-loop-index : goal.invariant-loop-index
invariant-loop-index g l = RenewedTo l.index (g.F.SlotFile.slots l.fn.file) (g.F.SlotFile.slots l.file) × IsOpenedTo l.index (g.F.SlotFile.slots l.fn.file) (g.F.SlotFile.slots l.file) × IsSparedTo (g.F.SlotFile.slots l.fn.file) (g.F.SlotFile.slots l.file)
