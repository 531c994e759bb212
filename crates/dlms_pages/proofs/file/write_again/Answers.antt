use Rattle.std.proofs.Common.{◌+◌, subst, sym, take}
use Rattle.dlms_pages.specs.SlotCalls.{Asks, written_again}
use Rattle.dlms_pages.proofs.FileCalls.{one_more_asked, still_asked, until_page, with_fault}
use Rattle.dlms_pages.proofs.file.write_again.Goals.{in-Some+in_ok-write_slot, in_default}
use Rattle.dlms_pages.proofs.file.write_again.Goals as goal

pub returns-in_err-write_slot : goal.returns-in_err-write_slot
returns-in_err-write_slot g c =
    let asked = g.F.SlotFile.slots in
    with_fault _ _ _ c.from_residual.result c.from_residual.ensures.0
    (until_page (asked c.args.file.now) (asked c.loop-index.file) (asked c.write_slot.new.self) c.args.pages.now c.loop-index.index c.in-Some.content c.seal_slot.result c.loop-index-test.true c.in-Some.is c.seal_slot.ensures c.loop-index.invariant c.in_err-write_slot.ensures)

pub loop-index-preserved : goal.loop-index-preserved
loop-index-preserved g c =
    let asked = g.F.SlotFile.slots in
    elim c.match-pages-index.branch [
      | in-Some+in_ok-write_slot w ↦ subst (λ f. Asks (asked c.args.file.now) (asked f) (written_again 0 (take (c.loop-index.index + 1) c.args.pages.now))) (sym w.file-is)
          (one_more_asked (asked c.args.file.now) (asked c.loop-index.file) (asked w.write_slot.new.self) c.args.pages.now c.loop-index.index w.in-Some.content w.seal_slot.result c.loop-index-test.true w.in-Some.is w.seal_slot.ensures c.loop-index.invariant w.in_ok-write_slot.ensures)
      | in_default w ↦ subst (λ f. Asks (asked c.args.file.now) (asked f) (written_again 0 (take (c.loop-index.index + 1) c.args.pages.now))) (sym w.file-is)
          (still_asked (asked c.args.file.now) (asked c.loop-index.file) c.args.pages.now c.loop-index.index c.loop-index-test.true w.in_default.is c.loop-index.invariant)
    ]
