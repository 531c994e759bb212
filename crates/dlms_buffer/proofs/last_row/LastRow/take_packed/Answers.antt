use Rattle.std.proofs.Common.{List, ◌≡◌, ℕ, ◌++◌, map, length, take, drop, sym, ap, ◌∙◌, arith}
use Rattle.std.proofs.lemmas.List.{take_at, length-map}
use Rattle.dlms_values.specs.View.{value_of}
use Rattle.dlms_buffer.specs.declared.cell.Cell.{Cell}
use Rattle.dlms_buffer.specs.Steps.{steps}
use Rattle.dlms_buffer.specs.View.{cell_view}
use Rattle.dlms_buffer.proofs.Stepping.{given_row}
use Rattle.dlms_buffer.proofs.last_row.LastRow.take_packed.Goals as goal

pub returns-clause-taken : goal.returns-clause-taken
returns-clause-taken g c =
    let many : length c.args.values.now ≡ length c.args.self.now.cells.items = omega (arith, c.len.ensures, c.if-values-len.false, ap length c.deref_mut.ensures.value, c.deref_mut.ensures.len) in
    let whole : take c.args.self.now.cells.len (c.take_each.new.cells ++ drop (length c.take_each.new.cells) c.args.self.now.cells.items) ≡ c.take_each.new.cells = take_at _ _ _ (omega (arith, c.take_each.auto.cells, c.deref_mut.ensures.len)) in
    let shown = ap (map cell_view) whole ∙ c.take_each.ensures in
    let same : length (map value_of c.args.values.now) ≡ length (map cell_view c.args.self.now.cells.items) =
    omega (arith, many, length-map c.args.values.now value_of, length-map c.args.self.now.cells.items cell_view) in (
      many,
      given_row (map cell_view c.args.self.now.cells.items) (map value_of c.args.values.now) _ same
          (shown ∙ ap (λ (cells : List Cell). steps (map cell_view cells) (map value_of c.args.values.now)) c.deref_mut.ensures.value),
    )
