use Rattle.std.proofs.Common.{◌∙◌, subst, sym}
use Rattle.dlms_pages.specs.declared.device.PageRead.{PageRead}
use Rattle.dlms_survey.specs.Judging.{SaysOf}
use Rattle.dlms_survey.proofs.judging.at_place.Goals as goal

pub returns-in-Some-clause-says : goal.returns-in-Some-clause-says
returns-in-Some-clause-says g c =
    let here = sym c.page.ensures ∙ c.in-Content.is in
    let kind = sym c.head_of-head.ensures.kind ∙ c.in-Some.is in
    subst (λ (read : PageRead). SaysOf c.args.image.now c.args.page read c.fits_place.result) (sym here)
    (c.fits_place.ensures.says c.args.image.now c.args.page c.in-Content.bytes kind c.head_of-head.ensures.version c.head_of-head.ensures.index c.head_of-head.ensures.payload)
