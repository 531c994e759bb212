use Rattle.std.proofs.Common.{rules, ◌∙◌, refl}
use Rattle.dlms_pages.proofs.Slots.{seal_behind}
use Rattle.dlms_relay.proofs.seal.seal_slot.Goals as goal

pub returns : goal.returns
returns c =
    seal_behind _ _ _ _ _ (c.copy_from_slice.ensures.after ∙ c.as_slice-2.ensures)
    (c.copy_from_slice-2.ensures.after ∙ c.as_slice-3.ensures ∙ search rules) c.copy_from_slice.ensures.len refl
