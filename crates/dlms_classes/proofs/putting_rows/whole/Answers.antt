use Rattle.std.proofs.Common.{◌++◌, filter}
use Rattle.std.specs.Prelude.{All}
use Rattle.dlms_state.specs.Columns.{IsRowOf}
use Rattle.dlms_classes.specs.Encoded.{chooses}
use Rattle.dlms_classes.proofs.Matching.{rows_behind, all_columns}
use Rattle.dlms_classes.proofs.putting_rows.whole.Goals as goal

pub table-requires-clause-newer : goal.table-requires-clause-newer
table-requires-clause-newer g c =
    let all : All (IsRowOf c.args.columns.now) (c.as_slices.result.0.now ++ c.as_slices.result.1.now) = rw c.as_slices.ensures c.requires.rows in
    rows_behind c.args.columns.now c.as_slices.result.0.now c.as_slices.result.1.now all

pub returns : goal.returns
returns g c = rw (← all_columns c.args.columns.now (filter (chooses c.args.choice) c.args.rows.now.items), ← c.as_slices.ensures) c.table.ensures
