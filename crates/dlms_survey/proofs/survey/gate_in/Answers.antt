use Rattle.std.proofs.Common.{ℕ, MatchOption, ◌∙◌, ap, subst}
use Rattle.dlms_pages.specs.Device.{page_at}
use Rattle.dlms_pages.specs.declared.device.PageRead.{PageRead}
use Rattle.dlms_store.specs.Page.{IsNot, IsOpen}
use Rattle.dlms_store.specs.declared.page.Edition.{Edition}
use Rattle.dlms_survey.proofs.survey.gate_in.Goals as goal

pub returns : goal.returns
returns g c =
    let here = c.page.ensures ∙ ap (λ (k : ℕ). page_at c.args.image.now.pages k) c.gate.ensures.value in
    subst (λ (page : PageRead). MatchOption c.open_edition.result ((edition : Edition) → IsNot (IsOpen edition page)) (λ edition. IsOpen edition page)) here c.open_edition.ensures
