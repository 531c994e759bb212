use Rattle.std.proofs.Common.{rules}
use Rattle.dlms_pages.specs.SlotCalls.{passed}
use Rattle.dlms_pages.proofs.Renewing.{slot_again, slot_touched}
use Rattle.dlms_pages.proofs.file.renew_slot.Goals as goal

pub returns-in-Ok-true-clause-renewed : goal.returns-in-Ok-true-clause-renewed
returns-in-Ok-true-clause-renewed g c =
    let asked = g.F.SlotFile.slots in
    slot_again c.args.index c.read_slot.new.slot (asked c.args.file.now) (asked c.read_slot.new.self) (asked c.write_slot.new.self) c.write_slot.result (search rules) (search rules) c.write_slot.ensures

pub returns-in-Ok-true-clause-touched : goal.returns-in-Ok-true-clause-touched
returns-in-Ok-true-clause-touched g c =
    let asked = g.F.SlotFile.slots in
    slot_touched c.args.index c.read_slot.new.slot (asked c.args.file.now) (asked c.read_slot.new.self) (asked c.write_slot.new.self) (passed c.write_slot.result) (search rules) (search rules) c.write_slot.ensures
