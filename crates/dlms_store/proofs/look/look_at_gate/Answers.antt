use Rattle.std.proofs.Common.{◌∙◌, ap, subst, ℕ, MatchOption}
use Rattle.dlms_pages.specs.Device.{page_at}
use Rattle.dlms_store.specs.declared.page.Edition.{Edition}
use Rattle.dlms_store.specs.Page.{IsOpen, IsNot}
use Rattle.dlms_store.proofs.Looking.{page_is}
use Rattle.dlms_store.proofs.look.look_at_gate.Goals as goal

pub returns-clause-gate : goal.returns-clause-gate
returns-clause-gate g c image fixed =
    let page = page_is c.gate.result (g.P.Pages.view c.args.device.now) image c.in_ok-page.page fixed (g.met.P.Pages.rules c.args.device.now fixed.honest) (c.in_ok-page.ensures.page fixed.honest).page in
    let same = page ∙ ap (λ (k : ℕ). page_at image k) c.gate.ensures.value in
    subst (λ p. MatchOption c.open_edition.result ((e : Edition) → IsNot (IsOpen e p)) (λ e. IsOpen e p)) same c.open_edition.ensures
