use Rattle.std.proofs.Common.{◌≡◌, ◌-◌, ℕ, length, drop, replicate, refl, ap, ◌∙◌}
use Rattle.std.proofs.lemmas.List.{drop-replicate}
use Rattle.dlms_journal.proofs.page.join_page.Goals as goal

pub returns : goal.returns
returns c =
    let payload = c.args.payload.now in
    let zeros : c.split_at_mut-room.result.1.now ≡ replicate (496 - length payload) 0 =
    c.split_at_mut-room.ensures.back
    ∙ ap (drop (length payload)) (c.split_at_mut-front.ensures.back ∙ drop-replicate {X = ℕ} 16 512 0)
    ∙ drop-replicate {X = ℕ} (length payload) 496 0 in
    rw (c.copy_from_slice.ensures.after, c.copy_from_slice-2.ensures.after, zeros) refl
