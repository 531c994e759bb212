use Rattle.std.proofs.Common.{◌+◌, ◌≡◌, inr, ℕ, ap, subst, sym}
use Rattle.dlms_pages.proofs.Moments.{looks_read}
use Rattle.dlms_journal.specs.declared.kind.PageKind.TheVariants.{Ring}
use Rattle.dlms_checkpoint.specs.Bodies.{columns_said, first_said}
use Rattle.dlms_checkpoint.specs.Reading.{ArePlaces, Refilled}
use Rattle.dlms_store.specs.Layout.{ring_place}
use Rattle.dlms_store.specs.Page.{of_version}
use Rattle.dlms_store.proofs.Causes.{ring_has, ring_unfit}
use Rattle.dlms_store.proofs.Looking.{not_ok, one_payload, page_there, was_ok, when_ok}
use Rattle.dlms_store.specs.declared.fault.OpenFault.TheVariants.{Corrupt}
use Rattle.dlms_store.proofs.look.look_at_ring.Goals as goal

pub returns-then-is_err-clause-looks : goal.returns-then-is_err-clause-looks
returns-then-is_err-clause-looks g c image fixed =
    let view = g.P.Pages.view in
    let rules = g.met.P.Pages.rules c.args.device.now fixed.honest in
    looks_read (22 + c.ring_index-index.result) (view c.args.device.now) (view c.read.new.self) image c.read.result fixed rules c.read.ensures.goes (c.read.ensures.page fixed.honest)

pub returns-in_default-clause-looks : goal.returns-in_default-clause-looks
returns-in_default-clause-looks g c image fixed =
    let view = g.P.Pages.view in
    let rules = g.met.P.Pages.rules c.args.device.now fixed.honest in
    looks_read (22 + c.ring_index-index.result) (view c.args.device.now) (view c.read.new.self) image c.read.result fixed rules c.read.ensures.goes (c.read.ensures.page fixed.honest)

pub returns-clause-looks : goal.returns-clause-looks
returns-clause-looks g c image fixed =
    let view = g.P.Pages.view in
    let rules = g.met.P.Pages.rules c.args.device.now fixed.honest in
    looks_read (22 + c.ring_index-index.result) (view c.args.device.now) (view c.read.new.self) image c.read.result fixed rules c.read.ensures.goes (c.read.ensures.page fixed.honest)

pub returns-in_err-content-clause-looks : goal.returns-in_err-content-clause-looks
returns-in_err-content-clause-looks g c image fixed =
    let view = g.P.Pages.view in
    let rules = g.met.P.Pages.rules c.args.device.now fixed.honest in
    looks_read (22 + c.ring_index-index.result) (view c.args.device.now) (view c.read.new.self) image c.read.result fixed rules c.read.ensures.goes (c.read.ensures.page fixed.honest)

pub returns-clause-next : goal.returns-clause-next
returns-clause-next g c = ap (λ (r : Refilled). r.page) (was_ok c.take.result c.if-is_err.ensures.value c.take.ensures.ok)

pub returns-in_default-clause-cause : goal.returns-in_default-clause-cause
returns-in_default-clause-cause g c image fixed =
    let place : 22 + c.ring_index-index.result ≡ ring_place c.args.page = ap (λ (k : ℕ). 22 + k) c.ring_index-index.ensures.value in
    let content = c.in_ok-content.content in
    let same = page_there (22 + c.ring_index-index.result) (ring_place c.args.page) (g.P.Pages.view c.args.device.now) image content fixed (g.met.P.Pages.rules c.args.device.now fixed.honest) (c.in_ok-content.ensures.page fixed.honest).page place in
    let bytes = c.args.refilling.now.bytes in
    let none = c.in_default.ensures (columns_said bytes) c.has_first_columns-has_first_columns.ensures in
    inr (ap (λ (n : ℕ). Corrupt n) place, ring_unfit c.args.version bytes c.args.page c.ring_index-index.result image content c.ring_index-index.ensures.value same (λ places has _. none has.0 places has.1 has.2))

pub returns-then-is_err-clause-cause : goal.returns-then-is_err-clause-cause
returns-then-is_err-clause-cause g c image fixed =
    let place : 22 + c.ring_index-index.result ≡ ring_place c.args.page = ap (λ (k : ℕ). 22 + k) c.ring_index-index.ensures.value in
    let content = c.in_ok-content.content in
    let same = page_there (22 + c.ring_index-index.result) (ring_place c.args.page) (g.P.Pages.view c.args.device.now) image content fixed (g.met.P.Pages.rules c.args.device.now fixed.honest) (c.in_ok-content.ensures.page fixed.honest).page place in
    let bytes = c.args.refilling.now.bytes in
    let first = first_said bytes in
    let columns = columns_said bytes in
    let found = c.in-Some.ensures columns c.has_first_columns-has_first_columns.ensures in
    inr (
      ap (λ (n : ℕ). Corrupt n) place,
      ring_unfit c.args.version bytes c.args.page c.ring_index-index.result image content c.ring_index-index.ensures.value same
          (λ places has are.
          let other : places ≡ c.in-Some.places.now = one_payload Ring c.ring_index-index.result (of_version has.0 c.args.page) (of_version found.0 c.args.page) places c.in-Some.places.now content has.2 found.2 in
          let here = subst (λ (k : ℕ). ArePlaces columns first k c.in-Some.places.now) c.requires.awaited (subst (ArePlaces columns first c.args.page) other are) in
          not_ok c.take.result c.if-is_err.ensures.value (c.take.ensures.when.1 here)),
    )

pub returns-clause-cause : goal.returns-clause-cause
returns-clause-cause g c image fixed =
    let place : 22 + c.ring_index-index.result ≡ ring_place c.args.page = ap (λ (k : ℕ). 22 + k) c.ring_index-index.ensures.value in
    let content = c.in_ok-content.content in
    let same = page_there (22 + c.ring_index-index.result) (ring_place c.args.page) (g.P.Pages.view c.args.device.now) image content fixed (g.met.P.Pages.rules c.args.device.now fixed.honest) (c.in_ok-content.ensures.page fixed.honest).page place in
    let bytes = c.args.refilling.now.bytes in
    let found = c.in-Some.ensures (columns_said bytes) c.has_first_columns-has_first_columns.ensures in
    let are = when_ok c.take.result c.if-is_err.ensures.value c.take.ensures.when.0 in
    let more = was_ok c.take.result c.if-is_err.ensures.value c.take.ensures.rows in (
      c.in-Some.places.now,
      ring_has c.args.version bytes c.args.page c.ring_index-index.result image content c.ring_index-index.ensures.value same c.in-Some.places.now found (subst (λ (k : ℕ). ArePlaces (columns_said bytes) (first_said bytes) k c.in-Some.places.now) (sym c.requires.awaited) are),
      more,
    )
