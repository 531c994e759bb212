use Rattle.std.proofs.Common.{◌∙◌, ◌+◌, ◌≡◌, None, Some, inl, inr, ℕ, List, ap, subst, sym, arith, refl}
use Rattle.dlms_pages.proofs.Moments.{looks_read, looks_on}
use Rattle.dlms_journal.specs.declared.kind.PageKind.TheVariants.{Body}
use Rattle.dlms_state.specs.StateValue.{StateValue}
use Rattle.dlms_checkpoint.specs.Bodies.{awaited, first_fault}
use Rattle.dlms_checkpoint.specs.Layouts.{IsCheckpointOf, as_present}
use Rattle.dlms_checkpoint.specs.Reading.{Taken}
use Rattle.dlms_checkpoint.specs.declared.version.Version.{Version}
use Rattle.dlms_store.specs.Cause.{AllFit, IsBodyFault, IsUnfit}
use Rattle.dlms_store.specs.Layout.{gate_of}
use Rattle.dlms_store.proofs.Causes.{IsOfPage, first_fits, first_unfit, no_state, of_page, unended}
use Rattle.dlms_store.proofs.Looking.{carried, one_payload, page_there}
use Rattle.dlms_store.proofs.look.look_at_bodies.Goals as goal

pub returns-in_default-begin-clause-looks : goal.returns-in_default-begin-clause-looks
returns-in_default-begin-clause-looks g c image fixed =
    let view = g.P.Pages.view in
    let rules = g.met.P.Pages.rules c.args.device.now fixed.honest in
    let one = looks_read (c.gate-first.result + 1) (view c.args.device.now) (view c.read.new.self) image c.read.result fixed rules c.read.ensures.goes (c.read.ensures.page fixed.honest) in
    one

pub returns-in_err-look_at_further_bodies-clause-looks : goal.returns-in_err-look_at_further_bodies-clause-looks
returns-in_err-look_at_further_bodies-clause-looks g c image fixed =
    let view = g.P.Pages.view in
    let rules = g.met.P.Pages.rules c.args.device.now fixed.honest in
    let one = looks_read (c.gate-first.result + 1) (view c.args.device.now) (view c.read.new.self) image c.read.result fixed rules c.read.ensures.goes (c.read.ensures.page fixed.honest) in
    looks_on _ _ _ image one (c.look_at_further_bodies.ensures.looks image one.fixed)

pub returns-then-awaited-ne0-clause-looks : goal.returns-then-awaited-ne0-clause-looks
returns-then-awaited-ne0-clause-looks g c image fixed =
    let view = g.P.Pages.view in
    let rules = g.met.P.Pages.rules c.args.device.now fixed.honest in
    let one = looks_read (c.gate-first.result + 1) (view c.args.device.now) (view c.read.new.self) image c.read.result fixed rules c.read.ensures.goes (c.read.ensures.page fixed.honest) in
    looks_on _ _ _ image one (c.look_at_further_bodies.ensures.looks image one.fixed)

pub returns-in-Some-joined-clause-looks : goal.returns-in-Some-joined-clause-looks
returns-in-Some-joined-clause-looks g c image fixed =
    let view = g.P.Pages.view in
    let rules = g.met.P.Pages.rules c.args.device.now fixed.honest in
    let one = looks_read (c.gate-first.result + 1) (view c.args.device.now) (view c.read.new.self) image c.read.result fixed rules c.read.ensures.goes (c.read.ensures.page fixed.honest) in
    looks_on _ _ _ image one (c.look_at_further_bodies.ensures.looks image one.fixed)

pub returns-in-None-clause-looks : goal.returns-in-None-clause-looks
returns-in-None-clause-looks g c image fixed =
    let view = g.P.Pages.view in
    let rules = g.met.P.Pages.rules c.args.device.now fixed.honest in
    let one = looks_read (c.gate-first.result + 1) (view c.args.device.now) (view c.read.new.self) image c.read.result fixed rules c.read.ensures.goes (c.read.ensures.page fixed.honest) in
    looks_on _ _ _ image one (c.look_at_further_bodies.ensures.looks image one.fixed)

some_none : {A : Type 0} (x : A) → None ≡ Some x → ⊥
some_none x e = absurd cc

pub returns-in_default-clause-cause : goal.returns-in_default-clause-cause
returns-in_default-clause-cause g c image fixed =
    let gate = gate_of c.args.slot in
    let place : c.gate-first.result + 1 ≡ gate + 1 = ap (λ (k : ℕ). k + 1) c.gate-first.ensures.value in
    let page = c.in_ok-page.page in
    let same = page_there (c.gate-first.result + 1) (gate + 1 + 0) (g.P.Pages.view c.args.device.now) image page fixed (g.met.P.Pages.rules c.args.device.now fixed.honest) (c.in_ok-page.ensures.page fixed.honest).page (omega (arith, place)) in
    inr (c.gate-first.result + 1, refl, inl (first_unfit gate c.args.edition image 0 (c.gate-first.result + 1) page same (omega (arith, place)) (λ body has _. c.in_default.ensures body has)))

pub returns-in_default-begin-clause-cause : goal.returns-in_default-begin-clause-cause
returns-in_default-begin-clause-cause g c image fixed =
    let gate = gate_of c.args.slot in
    let place : c.gate-first.result + 1 ≡ gate + 1 = ap (λ (k : ℕ). k + 1) c.gate-first.ensures.value in
    let page = c.in_ok-page.page in
    let same = page_there (c.gate-first.result + 1) (gate + 1 + 0) (g.P.Pages.view c.args.device.now) image page fixed (g.met.P.Pages.rules c.args.device.now fixed.honest) (c.in_ok-page.ensures.page fixed.honest).page (omega (arith, place)) in
    inr (
      c.gate-first.result + 1,
      refl,
      inl (first_unfit gate c.args.edition image 0 (c.gate-first.result + 1) page same (omega (arith, place))
          (λ body has first.
          let other = one_payload Body 0 c.args.edition c.args.edition c.in-Some.body.now body page c.in-Some.ensures has in
          some_none c.in_default-begin.field-0 (sym (subst (λ (b : List ℕ). first_fault c.args.edition.version b ≡ None) (sym other) first) ∙ c.in_default-begin.ensures))),
    )

pub returns-in_err-look_at_further_bodies-clause-cause : goal.returns-in_err-look_at_further_bodies-clause-cause
returns-in_err-look_at_further_bodies-clause-cause g c image fixed =
    let view = g.P.Pages.view in
    let rules = g.met.P.Pages.rules c.args.device.now fixed.honest in
    let one = looks_read (c.gate-first.result + 1) (view c.args.device.now) (view c.read.new.self) image c.read.result fixed rules c.read.ensures.goes (c.read.ensures.page fixed.honest) in
    let gate = gate_of c.args.slot in
    let place : c.gate-first.result + 1 ≡ gate + 1 = ap (λ (k : ℕ). k + 1) c.gate-first.ensures.value in
    let page = c.in_ok-page.page in
    let same = page_there (c.gate-first.result + 1) (gate + 1 + 0) (g.P.Pages.view c.args.device.now) image page fixed (g.met.P.Pages.rules c.args.device.now fixed.honest) (c.in_ok-page.ensures.page fixed.honest).page (omega (arith, place)) in
    let first = first_fits gate c.args.edition image page c.in-Some.body.now c.in-Ok.restoring.bytes same c.in-Some.ensures c.in-Ok.ensures.0 (ap (λ (t : Taken). t.bytes) c.in-Ok.ensures.1) in
    let fault = c.in_err-look_at_further_bodies.field-0.0 in
    let told = c.in_err-look_at_further_bodies.ensures.cause image gate place one.fixed first in
    carried c.from_residual-in_err-look_at_further_bodies.result fault (λ joined. (bytes : List ℕ) × (joined ≡ as_present c.args.edition.version bytes) × AllFit gate c.args.edition bytes image) (IsOfPage (IsBodyFault gate c.args.edition image)) c.from_residual-in_err-look_at_further_bodies.ensures
    (of_page fault (IsUnfit gate c.args.edition image) (IsBodyFault gate c.args.edition image) (λ _ unfit. inl unfit) told)

pub returns-then-awaited-ne0-clause-cause : goal.returns-then-awaited-ne0-clause-cause
returns-then-awaited-ne0-clause-cause g c image fixed =
    let view = g.P.Pages.view in
    let rules = g.met.P.Pages.rules c.args.device.now fixed.honest in
    let one = looks_read (c.gate-first.result + 1) (view c.args.device.now) (view c.read.new.self) image c.read.result fixed rules c.read.ensures.goes (c.read.ensures.page fixed.honest) in
    let gate = gate_of c.args.slot in
    let place : c.gate-first.result + 1 ≡ gate + 1 = ap (λ (k : ℕ). k + 1) c.gate-first.ensures.value in
    let page = c.in_ok-page.page in
    let same = page_there (c.gate-first.result + 1) (gate + 1 + 0) (g.P.Pages.view c.args.device.now) image page fixed (g.met.P.Pages.rules c.args.device.now fixed.honest) (c.in_ok-page.ensures.page fixed.honest).page (omega (arith, place)) in
    let first = first_fits gate c.args.edition image page c.in-Some.body.now c.in-Ok.restoring.bytes same c.in-Some.ensures c.in-Ok.ensures.0 (ap (λ (t : Taken). t.bytes) c.in-Ok.ensures.1) in
    let all = c.in_ok-look_at_further_bodies.ensures.cause image gate place one.fixed first in
    inr (c.gate-first.result + 1, refl, inr (no_state gate c.args.edition image (c.gate-first.result + 1) _ all place (unended c.args.edition.version _ (λ none. c.if-awaited-ne0.true (c.awaited.ensures ∙ ap (λ (v : Version). awaited (as_present v c.look_at_further_bodies.new.restoring.bytes)) c.look_at_further_bodies.ensures.version ∙ none)))))

pub returns-in-Some-joined-clause-cause : goal.returns-in-Some-joined-clause-cause
returns-in-Some-joined-clause-cause g c image fixed =
    let view = g.P.Pages.view in
    let rules = g.met.P.Pages.rules c.args.device.now fixed.honest in
    let one = looks_read (c.gate-first.result + 1) (view c.args.device.now) (view c.read.new.self) image c.read.result fixed rules c.read.ensures.goes (c.read.ensures.page fixed.honest) in
    let gate = gate_of c.args.slot in
    let place : c.gate-first.result + 1 ≡ gate + 1 = ap (λ (k : ℕ). k + 1) c.gate-first.ensures.value in
    let page = c.in_ok-page.page in
    let same = page_there (c.gate-first.result + 1) (gate + 1 + 0) (g.P.Pages.view c.args.device.now) image page fixed (g.met.P.Pages.rules c.args.device.now fixed.honest) (c.in_ok-page.ensures.page fixed.honest).page (omega (arith, place)) in
    let first = first_fits gate c.args.edition image page c.in-Some.body.now c.in-Ok.restoring.bytes same c.in-Some.ensures c.in-Ok.ensures.0 (ap (λ (t : Taken). t.bytes) c.in-Ok.ensures.1) in
    let all = c.in_ok-look_at_further_bodies.ensures.cause image gate place one.fixed first in
    (c.look_at_further_bodies.new.restoring.bytes, c.in-Some-joined.ensures.bytes ∙ ap (λ (v : Version). as_present v c.look_at_further_bodies.new.restoring.bytes) c.look_at_further_bodies.ensures.version, all)

pub returns-in-None-clause-cause : goal.returns-in-None-clause-cause
returns-in-None-clause-cause g c image fixed =
    let view = g.P.Pages.view in
    let rules = g.met.P.Pages.rules c.args.device.now fixed.honest in
    let one = looks_read (c.gate-first.result + 1) (view c.args.device.now) (view c.read.new.self) image c.read.result fixed rules c.read.ensures.goes (c.read.ensures.page fixed.honest) in
    let gate = gate_of c.args.slot in
    let place : c.gate-first.result + 1 ≡ gate + 1 = ap (λ (k : ℕ). k + 1) c.gate-first.ensures.value in
    let page = c.in_ok-page.page in
    let same = page_there (c.gate-first.result + 1) (gate + 1 + 0) (g.P.Pages.view c.args.device.now) image page fixed (g.met.P.Pages.rules c.args.device.now fixed.honest) (c.in_ok-page.ensures.page fixed.honest).page (omega (arith, place)) in
    let first = first_fits gate c.args.edition image page c.in-Some.body.now c.in-Ok.restoring.bytes same c.in-Some.ensures c.in-Ok.ensures.0 (ap (λ (t : Taken). t.bytes) c.in-Ok.ensures.1) in
    let all = c.in_ok-look_at_further_bodies.ensures.cause image gate place one.fixed first in
    inr (c.gate-first.result + 1, refl, inr (no_state gate c.args.edition image (c.gate-first.result + 1) _ all place (subst (λ (v : Version). (s : StateValue) → IsCheckpointOf v s c.look_at_further_bodies.new.restoring.bytes → ⊥) c.look_at_further_bodies.ensures.version c.in-None.ensures.spelled)))
