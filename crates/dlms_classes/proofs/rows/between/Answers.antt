use Rattle.std.proofs.Common.{◌∙◌}
use Rattle.dlms_profile.specs.Rows.{in_range}
use Rattle.dlms_classes.proofs.Matching.{rows_in_range, all_of_found}
use Rattle.dlms_classes.proofs.rows.between.Goals as goal

pub table_of-requires-clause-older : goal.table_of-requires-clause-older
table_of-requires-clause-older g c =
    rw (c.as_slice.ensures.value, c.in_ok-found.ensures.rows) (rows_in_range c.args.columns.now c.args.place c.args.from c.args.to c.args.rows.now.items c.requires.rows)

pub returns-clause-table : goal.returns-clause-table
returns-clause-table g c =
    rw (← all_of_found c.args.columns.now c.as_slice.result.now (in_range c.args.place c.args.from c.args.to c.args.rows.now.items) (c.as_slice.ensures.value ∙ c.in_ok-found.ensures.rows)) c.table_of.ensures.table
