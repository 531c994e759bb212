use Rattle.std.proofs.Common.{slice_range}
use Rattle.dlms_classes.specs.Shown.{IsRow, cells}
use Rattle.dlms_classes.proofs.Appending.{put_none, rows_put}
use Rattle.dlms_classes.proofs.putting_rows.put_rows.Goals as goal

pub loop-row-init : goal.loop-row-init
loop-row-init g c = put_none IsRow c.args.out.now.items

pub loop-row-preserved : goal.loop-row-preserved
loop-row-preserved g c =
    rows_put (λ row. slice_range (cells c.args.columns.now row) c.args.first c.args.end) c.args.choice c.args.rows.now c.loop-row.row-index c.row-item.result
    c.args.out.now.items c.loop-row.out.items c.put_if_chosen.new.out.items c.loop-row-test.true c.loop-row.invariant (rw (← c.row-item.is) c.in_ok-put_if_chosen.ensures)
