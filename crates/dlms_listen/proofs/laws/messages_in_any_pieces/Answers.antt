use Rattle.std.proofs.Common.{sym, subst, ap, ◌∙◌}
use Rattle.dlms_wrapper.specs.Stream.{Splits}
use Rattle.dlms_listen.specs.Cutting.{apdus_of_messages, octets_of}
use Rattle.dlms_listen.proofs.laws.messages_in_any_pieces.Goals as goal

pub returns : goal.returns
returns c start first second one other is_start fed_one fed_other same =
    let a = c.messages.ensures start first one is_start fed_one in
    let b = c.messages.ensures start second other is_start fed_other in
    let of_other = subst (λ octets. Splits 1024 octets a.0 a.1) same a.2 in
    a.3 ∙ ap (λ ms. apdus_of_messages start.segments start.blocks ms) (c.one_list.ensures 1024 (octets_of other) a.0 b.0 a.1 b.1 of_other b.2).0 ∙ sym b.3
