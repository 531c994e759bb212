use Rattle.std.proofs.Common.{◌≡◌, ◌∙◌, ap, subst, ◌<◌, List, ℕ, length, slice_index, arith}
use Rattle.dlms_data.specs.View.{value_of}
use Rattle.dlms_classes.specs.Shown.{IsCell, cell_of}
use Rattle.dlms_classes.proofs.Matching.{fields_more}
use Rattle.dlms_classes.proofs.rows.row_of.Goals as goal

pub loop-i-preserved : goal.loop-i-preserved
loop-i-preserved g c =
    let low : c.loop-i.i < length c.args.columns.now = omega (arith, c.loop-i-test.true, c.requires.end) in
    let is : c.field.result ≡ cell_of (slice_index c.args.columns.now c.loop-i.i) (slice_index c.args.row.now.values.items c.loop-i.i) =
    c.field.ensures ∙ ap (λ (xs : List ℕ). cell_of (slice_index c.args.columns.now c.loop-i.i) (slice_index xs c.loop-i.i)) c.as_slice-values.ensures.value in
    fields_more c.args.columns.now c.args.row.now.values.items c.args.first c.loop-i.i c.loop-i.items c.push.new.self _ c.loop-i.auto.i low c.requires.row.count c.in_ok-push.ensures.ok c.loop-i.invariant
    (subst (λ x. IsCell x (value_of c.in_ok-cell_of.field-0)) is c.in_ok-cell_of.ensures)
