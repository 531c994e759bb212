use Rattle.std.proofs.Common.{◌∷◌, [], true, Bool, subst, sym}
use Rattle.dlms_pages.specs.SlotCalls.{AsksUntilFault, sync_calls, written_again}
use Rattle.dlms_pages.specs.declared.asking.SlotCall.TheVariants.{Syncs}
use Rattle.dlms_pages.proofs.FileCalls.{longer, with_fault}
use Rattle.dlms_pages.proofs.file.settle.Goals as goal

pub returns-in_err-write_again : goal.returns-in_err-write_again
returns-in_err-write_again g c =
    let asked = g.F.SlotFile.slots in
    let old = asked c.args.file.now in
    let new = asked c.write_again.new.file in
    with_fault old new _ c.from_residual.result c.from_residual.ensures.0
    (subst (λ (behind : Bool). AsksUntilFault old new (sync_calls behind c.args.pages.now)) (sym c.if-behind.true)
    (longer old new (written_again 0 c.args.pages.now) (Syncs true ∷ []) c.in_err-write_again.ensures))
