use Rattle.std.proofs.Common.{rules}
use Rattle.dlms_pages.proofs.Slots.{slot_is, seal_is}
use Rattle.dlms_pages.proofs.seal.open_slot.Goals as goal

pub returns-then-has_seal : goal.returns-then-has_seal
returns-then-has_seal c =
    slot_is c.args.index _ c.args.slot.now c.told-slot c.copy_from_slice.ensures.after (c.has_seal.ensures.0 c.if-has_seal.true)

pub returns-else-has_seal : goal.returns-else-has_seal
returns-else-has_seal c content e =
    let has = c.has_seal.ensures.1 (seal_is c.args.index content _ c.args.slot.now c.told-slot c.copy_from_slice.ensures.after e) in
    search rules
