use Rattle.std.proofs.Common.{List, ◌≡◌, ℕ, ◌++◌, map, length, take, drop, sym, ap, ◌∙◌, arith}
use Rattle.std.proofs.lemmas.List.{take_at, length-map}
use Rattle.dlms_values.specs.Value.{count}
use Rattle.dlms_values.specs.View.{values_in}
use Rattle.dlms_buffer.specs.declared.cell.Cell.{Cell}
use Rattle.dlms_buffer.specs.Rows.{listed}
use Rattle.dlms_buffer.specs.Steps.{steps}
use Rattle.dlms_buffer.specs.View.{cell_view}
use Rattle.dlms_buffer.proofs.Stepping.{row_is, taken_row}
use Rattle.dlms_buffer.proofs.last_row.LastRow.take.Goals as goal

pub returns-clause-taken : goal.returns-clause-taken
returns-clause-taken g c =
    let vs = values_in c.in-Structure.values in
    let many : count vs ≡ length c.args.self.now.cells.items = omega (arith, c.len.ensures, c.len-2.ensures, c.if-len.false, ap length c.deref_mut.ensures.value, c.deref_mut.ensures.len) in
    let whole : take c.args.self.now.cells.len (c.take_values.new.cells ++ drop (length c.take_values.new.cells) c.args.self.now.cells.items) ≡ c.take_values.new.cells = take_at _ _ _ (omega (arith, c.take_values.auto.cells, c.deref_mut.ensures.len)) in
    let shown = ap (map cell_view) whole ∙ c.take_values.ensures in
    (listed vs, rw c.in-Structure.is (row_is _ vs many), taken_row (map cell_view c.args.self.now.cells.items) vs _ (many ∙ sym (length-map c.args.self.now.cells.items cell_view)) (shown ∙ ap (λ (cells : List Cell). steps (map cell_view cells) (listed vs)) c.deref_mut.ensures.value))
