use Rattle.std.proofs.Common.{slice_range}
use Rattle.dlms_classes.specs.Shown.{IsRow, cells}
use Rattle.dlms_classes.proofs.Matching.{rows_more}
use Rattle.dlms_classes.proofs.rows.put_rows.Goals as goal

pub loop-row-preserved : goal.loop-row-preserved
loop-row-preserved g c = λ done h.
    rows_more IsRow (λ row. slice_range (cells c.args.columns.now row) c.args.first c.args.end) c.args.rows.now c.loop-row.row-index c.row-item.result done c.loop-row.items c.push.new.self _ c.loop-row-test.true
    c.in_ok-push.ensures.ok (c.loop-row.invariant done h) (rw (← c.row-item.is) c.in_ok-row_of.ensures)
