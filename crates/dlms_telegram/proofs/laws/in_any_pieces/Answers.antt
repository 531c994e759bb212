use Rattle.std.proofs.Common.{◌∙◌, sym, ap}
use Rattle.dlms_telegram.specs.Telegram.{dropped}
use Rattle.dlms_telegram.specs.Cutting.{completed_of}
use Rattle.dlms_telegram.proofs.laws.in_any_pieces.Goals as goal

pub returns : goal.returns
returns c start first second one other fed_one fed_other same =
    c.telegrams.ensures start first one fed_one ∙ ap (λ xs. completed_of (dropped start) xs) same ∙ sym (c.telegrams.ensures start second other fed_other)
