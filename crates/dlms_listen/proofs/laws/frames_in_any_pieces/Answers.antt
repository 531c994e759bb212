use Rattle.std.proofs.Common.{sym, subst, ap, ◌∙◌}
use Rattle.dlms_frame.specs.Stream.{FramesOf}
use Rattle.dlms_listen.specs.Cutting.{apdus_of_frames, octets_of}
use Rattle.dlms_listen.proofs.laws.frames_in_any_pieces.Goals as goal

pub returns : goal.returns
returns c start first second one other is_start fed_one fed_other same =
    let a = c.frames.ensures start first one is_start fed_one in
    let b = c.frames.ensures start second other is_start fed_other in
    let of_other = subst (λ octets. FramesOf octets 0 a.0) same a.1 in
    a.2 ∙ ap (λ fs. apdus_of_frames start.segments start.blocks fs) (c.one_list.ensures (octets_of other) 0 a.0 b.0 of_other b.1) ∙ sym b.2
