use Rattle.std.proofs.Common.{rules, ◌≡◌, ◌∙◌, ap, length, sym}
use Rattle.std.proofs.lemmas.List.{length-take-le, take_at}
use Rattle.dlms_c.proofs.meter.put_slot.Goals as goal

pub copy_from_slice-requires : goal.copy_from_slice-requires
copy_from_slice-requires c =
    let whole : length c.args.whole.now ≡ 544 = search rules in
    length-take-le 544 c.args.slot.now c.requires ∙ sym whole ∙ ap length (sym c.as_slice.ensures)

pub returns : goal.returns
returns c =
    take_at c.copy_from_slice.new.self _ 544 (c.copy_from_slice.ensures.len ∙ length-take-le 544 c.args.slot.now c.requires)
    ∙ c.copy_from_slice.ensures.after ∙ c.as_slice.ensures
