use Rattle.std.proofs.Common.{IfErr, ◌∙◌, subst, sym}
use Rattle.dlms_pages.specs.declared.device.PageRead.{PageRead}
use Rattle.dlms_survey.specs.Judging.{SaysOf}
use Rattle.dlms_survey.proofs.judging.payload_in.Goals as goal

pub returns-clause-says : goal.returns-clause-says
returns-clause-says g c =
    let here = sym c.page.ensures ∙ c.in-Content.is in
    subst (λ (read : PageRead). IfErr c.of_edition.result (SaysOf c.args.image.now c.args.page read)) (sym here) (c.of_edition.ensures.says c.args.image.now c.args.page)
