use Rattle.std.proofs.Common.{◌≡◌, ◌<◌, length, map, get_or, sym, ◌∙◌, ap, arith}
use Rattle.std.proofs.lemmas.List.{map-set, length-map}
use Rattle.dlms_values.specs.Value.{Value, null}
use Rattle.dlms_values.specs.View.{value_of}
use Rattle.dlms_buffer.specs.View.{Shown, cell_view}
use Rattle.dlms_buffer.specs.Steps.{step}
use Rattle.dlms_buffer.proofs.Walking.{goes_on_by, item_view, given_view}
use Rattle.dlms_buffer.proofs.last_row.take_each.Goals as goal

pub loop-i-preserved : goal.loop-i-preserved
loop-i-preserved c =
    let lt : c.loop-i.i < length c.loop-i.cells = omega arith in
    let within : c.loop-i.i < length (map cell_view c.loop-i.cells) = omega (arith, length-map c.loop-i.cells cell_view) in
    let was = item_view c.loop-i.cells c.loop-i.i c.index-cells-i.result lt in
    let given = ap value_of c.index-values-i.is ∙ given_view c.args.values.now c.loop-i.i c.index-values-i.result c.loop-i-test.true in
    rw (map-set cell_view c.loop-i.cells c.loop-i.i c.next_cell-cell.result)
    (goes_on_by (map cell_view c.loop-i.cells) c.loop-i.i (map value_of c.args.values.now) (cell_view c.next_cell-cell.result) _ within c.loop-i.invariant
    (c.next_cell-cell.ensures ∙ ap (λ (s : Shown). step s (value_of c.index-values-i.result)) was ∙ ap (λ (v : Value). step (get_or (map cell_view c.loop-i.cells) c.loop-i.i (null, 0)) v) given))
