use Rattle.std.proofs.Common.{◌≡◌, ◌∙◌, ap, subst, ◌<◌, ◌-◌, ◌++◌, ◌∷◌, List, ℕ, length, slice_index, slice_range, arith}
use Rattle.dlms_data.specs.Writing.{short_length}
use Rattle.dlms_classes.specs.Encoded.{IsPut, ArePut}
use Rattle.dlms_classes.specs.Shown.{IsCell, cell_of, cells}
use Rattle.dlms_classes.proofs.Appending.{fields_put, row_put, nothing_put, count_range}
use Rattle.dlms_classes.proofs.putting_rows.put_row.Goals as goal

pub loop-i-init : goal.loop-i-init
loop-i-init g c = nothing_put (cells c.args.columns.now c.args.row.now) c.args.first (c.args.out.now.items ++ 2 ∷ short_length (c.args.end - c.args.first)) c.put_count.new.out.items c.in_ok-put_count.ensures

pub loop-i-preserved : goal.loop-i-preserved
loop-i-preserved g c =
    let low : c.loop-i.i < length c.args.columns.now = omega (arith, c.loop-i-test.true, c.requires.end) in
    let is : c.field.result ≡ cell_of (slice_index c.args.columns.now c.loop-i.i) (slice_index c.args.row.now.values.items c.loop-i.i) =
    c.field.ensures ∙ ap (λ (xs : List ℕ). cell_of (slice_index c.args.columns.now c.loop-i.i) (slice_index xs c.loop-i.i)) c.as_slice-values.ensures.value in
    fields_put c.args.columns.now c.args.row.now.values.items c.args.first c.loop-i.i (c.args.out.now.items ++ 2 ∷ short_length (c.args.end - c.args.first)) c.loop-i.out.items c.put_cell.new.out.items
    c.loop-i.auto.i low c.requires.row.count c.loop-i.invariant (subst (λ x. IsPut (IsCell x) c.loop-i.out.items c.put_cell.new.out.items) is c.in_ok-put_cell.ensures)

pub returns : goal.returns
returns g c =
    let last : c.loop-i.i ≡ c.args.end = omega (arith, c.loop-i-test.false, c.loop-i.auto.i-end c.requires.order) in
    row_put (slice_range (cells c.args.columns.now c.args.row.now) c.args.first c.args.end) (c.args.end - c.args.first) c.args.out.now.items c.loop-i.out.items
    (count_range c.args.columns.now c.args.row.now.values.items c.args.first c.args.end c.requires.row.count c.requires.end)
    (subst (λ (i : ℕ). ArePut IsCell (slice_range (cells c.args.columns.now c.args.row.now) c.args.first i) (c.args.out.now.items ++ 2 ∷ short_length (c.args.end - c.args.first)) c.loop-i.out.items) last c.loop-i.invariant)
