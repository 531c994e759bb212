use Rattle.std.proofs.Common.{◌∙◌, refl}
use Rattle.dlms_pages.proofs.Slots.{seal_behind}
use Rattle.dlms_pages.proofs.seal.seal_slot.Goals as goal

pub returns : goal.returns
returns c =
    seal_behind _ _ _ _ _ (c.copy_from_slice.ensures.after ∙ c.as_slice.ensures)
    (c.copy_from_slice-2.ensures.after ∙ c.as_slice-2.ensures ∙ c.seal-seal.ensures) c.copy_from_slice.ensures.len refl
