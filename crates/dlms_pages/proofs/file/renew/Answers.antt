use Rattle.dlms_pages.specs.SlotCalls.{passed}
use Rattle.dlms_pages.proofs.Renewing.{none_yet, one_more}
use Rattle.dlms_pages.proofs.Reopened.{none_opened, one_opened}
use Rattle.dlms_pages.proofs.Spared.{spared_first, spared_more, spared_synced}
use Rattle.dlms_pages.proofs.file.renew.Goals as goal

pub loop-index-init : goal.loop-index-init
loop-index-init g c = (let file = g.F.SlotFile.slots c.args.file.now in (none_yet file, none_opened file, spared_first file))

pub loop-index-preserved : goal.loop-index-preserved
loop-index-preserved g c =
    let slots = g.F.SlotFile.slots in
    let (renewed, opened, spared) = c.loop-index.invariant in
    let is = c.in_ok-renew_slot.ensures in (
      one_more c.loop-index.index (slots c.args.file.now) (slots c.loop-index.file) (slots c.renew_slot.new.file) renewed is.renewed,
      one_opened (slots c.args.file.now) (slots c.loop-index.file) c.loop-index.index opened (slots c.renew_slot.new.file) is.renewed,
      spared_more (slots c.args.file.now) (slots c.loop-index.file) c.loop-index.index opened spared (slots c.renew_slot.new.file) is.touched,
    )

pub returns-in_err-renew_slot-clause-spares : goal.returns-in_err-renew_slot-clause-spares
returns-in_err-renew_slot-clause-spares g c =
    let slots = g.F.SlotFile.slots in
    let (renewed, opened, spared) = c.loop-index.invariant in
    (spared_more (slots c.args.file.now) (slots c.loop-index.file) c.loop-index.index opened spared (slots c.renew_slot.new.file) c.in_err-renew_slot.ensures.touched).spared

pub returns-clause-spares : goal.returns-clause-spares
returns-clause-spares g c =
    let slots = g.F.SlotFile.slots in
    let (renewed, opened, spared) = c.loop-index.invariant in
    spared_synced (slots c.args.file.now) (slots c.loop-index.file) c.loop-index.index opened spared (passed c.sync.result) (slots c.sync.new.self) c.sync.ensures
