use Rattle.std.proofs.Common.{◌≡◌, ◌∙◌, ◌+◌, ℕ, ap, sym, arith, inr, refl}
use Rattle.dlms_pages.specs.Device.{page_at}
use Rattle.dlms_checkpoint.specs.Bodies.{awaited}
use Rattle.dlms_checkpoint.specs.Layouts.{as_present}
use Rattle.dlms_checkpoint.specs.Reading.{Taken}
use Rattle.dlms_checkpoint.specs.declared.version.Version.{Version}
use Rattle.dlms_store.proofs.Looking.{page_is, read_on, was_ok, when_ok, not_ok}
use Rattle.dlms_store.proofs.Causes.{further_fits, none_fits, too_long}
use Rattle.dlms_store.proofs.Spelled.{none_behind_all}
use Rattle.dlms_store.proofs.look.look_at_further_bodies.Goals as goal

-- what is awaited, by the version of the gate
by_version : (taken : Taken) (version : Version) → taken.version ≡ version → awaited (as_present taken.version taken.bytes) ≡ awaited (as_present version taken.bytes)
by_version taken version same = ap (λ (v : Version). awaited (as_present v taken.bytes)) same

pub returns-in_err-page-clause-looks : goal.returns-in_err-page-clause-looks
returns-in_err-page-clause-looks g c image fixed =
    let view = g.P.Pages.view in
    let so_far = c.loop-index.invariant.looks image fixed in
    read_on (c.args.first + c.loop-index.index) _ (view c.loop-index.device) (view c.read.new.self) image c.read.result so_far (g.met.P.Pages.rules c.loop-index.device so_far.fixed.honest) c.read.ensures.goes (c.read.ensures.page so_far.fixed.honest)

pub returns-in_default-clause-looks : goal.returns-in_default-clause-looks
returns-in_default-clause-looks g c image fixed =
    let view = g.P.Pages.view in
    let so_far = c.loop-index.invariant.looks image fixed in
    read_on (c.args.first + c.loop-index.index) _ (view c.loop-index.device) (view c.read.new.self) image c.read.result so_far (g.met.P.Pages.rules c.loop-index.device so_far.fixed.honest) c.read.ensures.goes (c.read.ensures.page so_far.fixed.honest)

pub returns-then-is_err-clause-looks : goal.returns-then-is_err-clause-looks
returns-then-is_err-clause-looks g c image fixed =
    let view = g.P.Pages.view in
    let so_far = c.loop-index.invariant.looks image fixed in
    read_on (c.args.first + c.loop-index.index) _ (view c.loop-index.device) (view c.read.new.self) image c.read.result so_far (g.met.P.Pages.rules c.loop-index.device so_far.fixed.honest) c.read.ensures.goes (c.read.ensures.page so_far.fixed.honest)

pub loop-index-preserved : goal.loop-index-preserved
loop-index-preserved g c =
    let view = g.P.Pages.view in
    let k = c.loop-index.index in
    let inv = c.loop-index.invariant in
    let goes = c.read.ensures.goes in
    record {
      count = goes.count ∙ inv.count;
      honest = goes.honest ∙ inv.honest;
      later = omega (arith, goes.later, inv.later);
      looks = λ image fixed.
          let so_far = inv.looks image fixed in
          read_on (c.args.first + k) _ (view c.loop-index.device) (view c.read.new.self) image c.read.result so_far (g.met.P.Pages.rules c.loop-index.device so_far.fixed.honest) c.read.ensures.goes (c.read.ensures.page so_far.fixed.honest);
      some = omega arith;
      version = ap (λ (t : Taken). t.version) (was_ok c.more.result c.if-is_err.ensures.value c.more.ensures.ok) ∙ inv.version;
      fits = λ image gate place fixed first.
          let so_far = inv.looks image fixed in
          let page = page_is (c.args.first + k) (view c.loop-index.device) image c.in_ok-page.page so_far.fixed (g.met.P.Pages.rules c.loop-index.device so_far.fixed.honest) (c.in_ok-page.ensures.page so_far.fixed.honest).page in
          let same = page ∙ ap (λ (f : ℕ). page_at image (f + k)) place in
          further_fits gate c.args.edition image k inv.some (omega (arith, c.loop-index-test.true)) c.loop-index.restoring.bytes (inv.fits image gate place fixed first) (λ none. c.if-awaited-eq0.false (c.awaited.ensures ∙ by_version c.loop-index.restoring c.args.edition.version inv.version ∙ none)) c.in_ok-page.page same c.in-Some.body.now c.more.new.self.bytes c.in-Some.ensures
          (when_ok c.more.result c.if-is_err.ensures.value c.more.ensures.when.0 ∙ by_version c.loop-index.restoring c.args.edition.version inv.version) (ap (λ (t : Taken). t.bytes) (was_ok c.more.result c.if-is_err.ensures.value c.more.ensures.ok));
    }

pub returns-then-awaited-eq0-clause-cause : goal.returns-then-awaited-eq0-clause-cause
returns-then-awaited-eq0-clause-cause g c image gate place fixed first =
    record { count = c.loop-index.index; fit = c.loop-index.invariant.fits image gate place fixed first; all = sym (c.awaited.ensures ∙ by_version c.loop-index.restoring c.args.edition.version c.loop-index.invariant.version) ∙ c.if-awaited-eq0.true }

pub returns-clause-cause : goal.returns-clause-cause
returns-clause-cause g c image gate place fixed first =
    let inv = c.loop-index.invariant in
    let fit = inv.fits image gate place fixed first in
    record { count = c.loop-index.index; fit = fit; all = none_behind_all gate c.args.edition image c.loop-index.index inv.some c.loop-index.restoring.bytes fit (omega (arith, c.loop-index-test.false)) }

pub returns-in_default-clause-cause : goal.returns-in_default-clause-cause
returns-in_default-clause-cause g c image gate place fixed first =
    let inv = c.loop-index.invariant in
    let k = c.loop-index.index in
    let so_far = inv.looks image fixed in
    let page = page_is (c.args.first + k) (g.P.Pages.view c.loop-index.device) image c.in_ok-page.page so_far.fixed (g.met.P.Pages.rules c.loop-index.device so_far.fixed.honest) (c.in_ok-page.ensures.page so_far.fixed.honest).page in
    let same = page ∙ ap (λ (f : ℕ). page_at image (f + k)) place in
    inr (
      c.args.first + k,
      refl,
      none_fits gate c.args.edition image k inv.some (omega (arith, c.loop-index-test.true)) c.loop-index.restoring.bytes (inv.fits image gate place fixed first)
          (λ none. c.if-awaited-eq0.false (c.awaited.ensures ∙ by_version c.loop-index.restoring c.args.edition.version inv.version ∙ none)) c.in_ok-page.page same (c.args.first + k) (ap (λ (f : ℕ). f + k) place) c.in_default.ensures,
    )

pub returns-then-is_err-clause-cause : goal.returns-then-is_err-clause-cause
returns-then-is_err-clause-cause g c image gate place fixed first =
    let inv = c.loop-index.invariant in
    let k = c.loop-index.index in
    let so_far = inv.looks image fixed in
    let page = page_is (c.args.first + k) (g.P.Pages.view c.loop-index.device) image c.in_ok-page.page so_far.fixed (g.met.P.Pages.rules c.loop-index.device so_far.fixed.honest) (c.in_ok-page.ensures.page so_far.fixed.honest).page in
    let same = page ∙ ap (λ (f : ℕ). page_at image (f + k)) place in
    inr (
      c.args.first + k,
      refl,
      too_long gate c.args.edition image k inv.some (omega (arith, c.loop-index-test.true)) c.loop-index.restoring.bytes (inv.fits image gate place fixed first)
          (λ none. c.if-awaited-eq0.false (c.awaited.ensures ∙ by_version c.loop-index.restoring c.args.edition.version inv.version ∙ none)) c.in_ok-page.page same (c.args.first + k) (ap (λ (f : ℕ). f + k) place) c.in-Some.body.now c.in-Some.ensures
          (λ long. not_ok c.more.result c.if-is_err.ensures.value (c.more.ensures.when.1 (long ∙ sym (by_version c.loop-index.restoring c.args.edition.version inv.version)))),
    )
