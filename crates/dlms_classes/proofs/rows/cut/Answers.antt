use Rattle.dlms_classes.proofs.Matching.{rows_of_entries}
use Rattle.dlms_classes.proofs.rows.cut.Goals as goal

pub table_of-requires-clause-older : goal.table_of-requires-clause-older
table_of-requires-clause-older g c =
    rw (c.as_slice.ensures.value, c.in_ok-found.ensures.rows) (rows_of_entries c.args.columns.now c.args.entries.0 c.args.entries.1 c.args.rows.now.items c.requires.rows)
