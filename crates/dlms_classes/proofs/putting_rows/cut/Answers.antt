use Rattle.std.proofs.Common.{◌≡◌, ◌∙◌, ap, ap₂, ◌++◌, ◌-◌, ℕ, length, slice_range}
use Rattle.std.specs.Prelude.{All}
use Rattle.std.proofs.lemmas.Result.{IfOk-weaker}
use Rattle.dlms_profile.specs.Rows.{entries}
use Rattle.dlms_state.specs.Columns.{IsRowOf}
use Rattle.dlms_classes.proofs.Appending.{rows_before, rows_of_part, entries_of_both, cut_table}
use Rattle.dlms_classes.proofs.Matching.{rows_behind}
use Rattle.dlms_classes.proofs.putting_rows.cut.Goals as goal

pub table-requires-clause-older : goal.table-requires-clause-older
table-requires-clause-older g c =
    let older = c.as_slices.result.0.now in
    let newer = c.as_slices.result.1.now in
    let all : All (IsRowOf c.args.columns.now) (older ++ newer) = rw c.as_slices.ensures c.requires.rows in
    rows_of_part c.args.columns.now older c.part.result.now (c.args.entries.0 - 1) c.end_of-until.result c.part.ensures (rows_before c.args.columns.now older newer all)

pub table-requires-clause-newer : goal.table-requires-clause-newer
table-requires-clause-newer g c =
    let older = c.as_slices.result.0.now in
    let newer = c.as_slices.result.1.now in
    let all : All (IsRowOf c.args.columns.now) (older ++ newer) = rw c.as_slices.ensures c.requires.rows in
    rows_of_part c.args.columns.now newer c.part-2.result.now c.saturating_sub.result c.saturating_sub-2.result c.part-2.ensures (rows_behind c.args.columns.now older newer all)

pub returns : goal.returns
returns g c =
    let older = c.as_slices.result.0.now in
    let newer = c.as_slices.result.1.now in
    let rest : c.part-2.result.now ≡ slice_range newer ((c.args.entries.0 - 1) - length older) (c.end_of-until.result - length older) =
    c.part-2.ensures ∙ ap₂ (λ (m n : ℕ). slice_range newer m n) c.saturating_sub.ensures c.saturating_sub-2.ensures in
    let found : c.part.result.now ++ c.part-2.result.now ≡ entries c.args.entries.0 c.args.entries.1 c.args.rows.now.items =
    entries_of_both older newer c.args.rows.now.items c.args.entries.0 c.args.entries.1 c.end_of-until.result c.part.result.now c.part-2.result.now c.as_slices.ensures (cc) c.part.ensures rest in
    IfOk-weaker c.table.result _ _
    (λ out put. cut_table c.args.columns.now c.args.entries.0 c.args.entries.1 c.args.shown.0 c.args.shown.1 c.args.rows.now.items (c.part.result.now ++ c.part-2.result.now)
    (c.from-first.result - 1) c.last_column-end.result out.items found (ap (λ (n : ℕ). n - 1) c.from-first.ensures) c.last_column-end.ensures put)
    c.table.ensures
