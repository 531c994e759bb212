use Rattle.std.proofs.Common.{[], map, slice_range}
use Rattle.std.proofs.lemmas.List.{map-append}
use Rattle.dlms_classes.specs.Shown.{cells}
use Rattle.dlms_classes.proofs.rows.table_of.Goals as goal

pub returns-clause-table : goal.returns-clause-table
returns-clause-table g c =
    let one = c.in_ok-put_rows.ensures [] (rw c.in_ok-items.ensures tt) in
    rw map-append (c.in_ok-put_rows-2.ensures (map (λ row. slice_range (cells c.args.columns.now row) c.args.first c.args.end) c.args.older.now) one)
