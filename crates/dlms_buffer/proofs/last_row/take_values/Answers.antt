use Rattle.std.proofs.Common.{map, length, subst, ℕ, ◌<◌, sym, ◌∙◌, ap, arith}
use Rattle.std.proofs.lemmas.List.{map-set, length-map}
use Rattle.dlms_values.specs.View.{values_in, value_of}
use Rattle.dlms_buffer.specs.View.{Shown, cell_view}
use Rattle.dlms_buffer.specs.Steps.{step}
use Rattle.dlms_buffer.proofs.Walking.{Walked, begins, goes_on, not_over, ends, item_view}
use Rattle.dlms_buffer.proofs.last_row.take_values.Goals as goal

pub loop-cell-init : goal.loop-cell-init
loop-cell-init c = begins (map cell_view c.args.cells.now) (values_in c.args.values) (omega (arith, length-map c.args.cells.now cell_view))

pub unreachable-requires : goal.unreachable-requires
unreachable-requires c =
    not_over _ _ _ _ _ (omega (arith, length-map c.loop-cell.cells cell_view)) c.loop-cell.invariant c.in_default.ensures

pub loop-cell-preserved : goal.loop-cell-preserved
loop-cell-preserved c =
    let lt : c.loop-cell.cell-index < length c.loop-cell.cells = omega arith in
    let was = item_view c.loop-cell.cells c.loop-cell.cell-index c.cell-item.result lt in
    let within : c.loop-cell.cell-index < length (map cell_view c.loop-cell.cells) = omega (arith, length-map c.loop-cell.cells cell_view) in
    rw (map-set cell_view c.loop-cell.cells c.loop-cell.cell-index c.next_cell.result)
    (goes_on (map cell_view c.loop-cell.cells) c.loop-cell.cell-index _ c.in-Some.value _ (cell_view c.next_cell.result) _ within c.loop-cell.invariant c.in-Some.ensures
    (c.next_cell.ensures ∙ ap (λ (s : Shown). step s (value_of c.in-Some.value)) was))

pub returns : goal.returns
returns c = ends _ _ _ _ (omega (arith, length-map c.loop-cell.cells cell_view)) c.loop-cell.invariant
