use Rattle.std.proofs.Common.{◌≡◌, ◌<◌, ◌∙◌, ◌*◌, ◌++◌, Bool, true, false, refl, sym, ap, subst, arith, length}
use Rattle.dlms_checkpoint.specs.Bodies.{columns_said, first_said}
use Rattle.dlms_checkpoint.specs.Reading.{IsRefilled, Refilled, open_page}
use Rattle.dlms_checkpoint.proofs.Refilled.{are_places, page_made, page_may, page_taken_too, rows_fit, where_it_is}
use Rattle.dlms_checkpoint.proofs.reading.Refilling.take.Goals as goal

was_false : (b : Bool) → b ≡ false → b ≡ true → ⊥
was_false b off on = absurd (cc (off, on))

pub are_rows-requires-clause-some : goal.are_rows-requires-clause-some
are_rows-requires-clause-some g c =
    let r : Refilled = record { bytes = c.self.inside.bytes.items; page = c.self.inside.page; state = c.self.inside.state } in
    omega (arith, (where_it_is r c.self.invariant.0 c.self.invariant.1).some, ap length (c.columns_of-columns.ensures ∙ ap columns_said c.as_slice-bytes.ensures.value))

pub returns-then-not-are_rows-clause-when : goal.returns-then-not-are_rows-clause-when
returns-then-not-are_rows-clause-when g c =
    let r : Refilled = record { bytes = c.self.inside.bytes.items; page = c.self.inside.page; state = c.self.inside.state } in (
      λ on. absurd (was_false true (sym on) refl),
      λ are. absurd (was_false c.are_rows.result c.if-not-are_rows.true
          (c.are_rows.ensures.1 (rows_fit r c.args.self.now c.columns_of-columns.result.now c.args.places.now c.first_of-first.result _ c.from.result c.self.view_is
          (c.columns_of-columns.ensures ∙ ap columns_said c.as_slice-bytes.ensures.value) (c.first_of-first.ensures.value ∙ ap first_said c.as_slice-bytes.ensures.value) c.from.ensures refl are))),
    )

pub restore_page-requires-clause-rows : goal.restore_page-requires-clause-rows
restore_page-requires-clause-rows g c =
    let r : Refilled = record { bytes = c.self.inside.bytes.items; page = c.self.inside.page; state = c.self.inside.state } in
    let low : r.page < open_page r.bytes = subst (λ (q : Refilled). q.page < open_page q.bytes) (sym c.self.view_is) c.requires in
    let columns : c.columns_of-columns.result.now ≡ columns_said r.bytes = c.columns_of-columns.ensures ∙ ap columns_said c.as_slice-bytes.ensures.value in
    let first : c.first_of-first.result ≡ first_said r.bytes = c.first_of-first.ensures.value ∙ ap first_said c.as_slice-bytes.ensures.value in
    let are = are_places r r c.columns_of-columns.result.now c.args.places.now c.first_of-first.result _ c.from.result refl columns first c.from.ensures refl c.if-places-columns.false (c.are_rows.ensures.0 c.if-not-are_rows.false) in
    page_may r c.self.invariant.0 c.args.places.now (first_said r.bytes) (30 * r.page) c.saturating_sub-skipped.result c.self.invariant.1 low refl refl (omega (arith, c.saturating_sub-skipped.ensures, first, c.from.ensures)) are.long are.rows

pub invariant_of-self : goal.invariant_of-self
invariant_of-self g c =
    let r : Refilled = record { bytes = c.self.inside.bytes.items; page = c.self.inside.page; state = c.self.inside.state } in
    let low : r.page < open_page r.bytes = subst (λ (q : Refilled). q.page < open_page q.bytes) (sym c.self.view_is) c.requires in
    let columns : c.columns_of-columns.result.now ≡ columns_said r.bytes = c.columns_of-columns.ensures ∙ ap columns_said c.as_slice-bytes.ensures.value in
    let first : c.first_of-first.result ≡ first_said r.bytes = c.first_of-first.ensures.value ∙ ap first_said c.as_slice-bytes.ensures.value in
    let are = are_places r r c.columns_of-columns.result.now c.args.places.now c.first_of-first.result _ c.from.result refl columns first c.from.ensures refl c.if-places-columns.false (c.are_rows.ensures.0 c.if-not-are_rows.false) in
    let made = page_made r r c.restore_page.new.state c.args.places.now c.first_of-first.result _ c.from.result c.saturating_sub-skipped.result refl first c.from.ensures refl c.saturating_sub-skipped.ensures c.restore_page.ensures in
    let ring = c.self.invariant.0 ++ c.args.places.now in
    (ring, subst (λ (q : Refilled). IsRefilled q ring) (sym made) (page_taken_too r c.self.invariant.0 c.args.places.now c.self.invariant.1 low c.bytes_fit.ensures are))

pub returns-clause-when : goal.returns-clause-when
returns-clause-when g c =
    let r : Refilled = record { bytes = c.self.inside.bytes.items; page = c.self.inside.page; state = c.self.inside.state } in (
      λ on. are_places r c.args.self.now c.columns_of-columns.result.now c.args.places.now c.first_of-first.result _ c.from.result c.self.view_is
          (c.columns_of-columns.ensures ∙ ap columns_said c.as_slice-bytes.ensures.value) (c.first_of-first.ensures.value ∙ ap first_said c.as_slice-bytes.ensures.value) c.from.ensures refl c.if-places-columns.false (c.are_rows.ensures.0 c.if-not-are_rows.false),
      λ are. refl,
    )

pub returns-clause-ok : goal.returns-clause-ok
returns-clause-ok g c =
    let r : Refilled = record { bytes = c.self.inside.bytes.items; page = c.self.inside.page; state = c.self.inside.state } in
    page_made r c.args.self.now c.restore_page.new.state c.args.places.now c.first_of-first.result _ c.from.result c.saturating_sub-skipped.result c.self.view_is
    (c.first_of-first.ensures.value ∙ ap first_said c.as_slice-bytes.ensures.value) c.from.ensures refl c.saturating_sub-skipped.ensures c.restore_page.ensures

pub returns-clause-rows : goal.returns-clause-rows
returns-clause-rows g c ring is =
    let are = (returns-clause-when g c).0 refl in
    subst (λ (q : Refilled). IsRefilled q (ring ++ c.args.places.now)) (sym (returns-clause-ok g c)) (page_taken_too c.args.self.now ring c.args.places.now is c.requires c.bytes_fit.ensures are)
