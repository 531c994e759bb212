use Rattle.std.proofs.Common.{◌++◌}
use Rattle.std.specs.Prelude.{All}
use Rattle.dlms_state.specs.Columns.{IsRowOf}
use Rattle.dlms_classes.proofs.Matching.{rows_behind, all_columns}
use Rattle.dlms_classes.proofs.rows.whole.Goals as goal

pub table_of-requires-clause-newer : goal.table_of-requires-clause-newer
table_of-requires-clause-newer g c =
    let all : All (IsRowOf c.args.columns.now) (c.as_slices.result.0.now ++ c.as_slices.result.1.now) = rw c.as_slices.ensures c.requires.rows in
    rows_behind c.args.columns.now c.as_slices.result.0.now c.as_slices.result.1.now all

pub returns-clause-table : goal.returns-clause-table
returns-clause-table g c = rw (← all_columns c.args.columns.now c.args.rows.now.items, ← c.as_slices.ensures) c.table_of.ensures.table
