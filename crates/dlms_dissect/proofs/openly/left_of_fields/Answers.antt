use Rattle.std.proofs.Common.{◌≡◌, ◌∙◌, true, sym}
use Rattle.dlms_dissect.proofs.OpenlyLemmas.{stand-more}
use Rattle.dlms_dissect.specs.Openly.{is_open_tag}
use Rattle.dlms_dissect.proofs.openly.left_of_fields.Goals as goal

pub fields-preserved : goal.fields-preserved
fields-preserved c =
    let told : is_open_tag c.in-Some.tag ≡ true = sym c.is_open_tag.ensures ∙ c.if-not-is_open_tag.false in
    stand-more c.args.fields.now c.fields.rest.now c.in-Some.behind.now c.in-Some.tag _ c.fields.invariant (sym c.in-Some.ensures.exact) told
