use Rattle.std.proofs.Common.{◌≡◌, ◌-◌, ℕ, length, replicate, refl, ◌∙◌}
use Rattle.std.proofs.lemmas.List.{drop-replicate}
use Rattle.dlms_counters.proofs.slot.pad.Goals as goal

pub returns : goal.returns
returns c =
    let count = length c.args.bytes.now in
    let zeros : c.split_at_mut-front.result.1.now ≡ replicate (512 - count) 0 =
    c.split_at_mut-front.ensures.back ∙ drop-replicate {X = ℕ} count 512 0 in
    rw (c.copy_from_slice.ensures.after, zeros) refl
