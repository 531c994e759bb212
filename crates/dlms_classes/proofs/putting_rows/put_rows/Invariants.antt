use Rattle.std.proofs.Common.{map, filter, take, slice_range}
use Rattle.dlms_classes.specs.Encoded.{ArePut, chooses}
use Rattle.dlms_classes.specs.Shown.{IsRow, cells}
use Rattle.dlms_classes.proofs.putting_rows.put_rows.Given as goal

-- the rows so far that are chosen
abbrev pub invariant-loop-row : goal.invariant-loop-row
invariant-loop-row g l = ArePut IsRow (map (λ row. slice_range (cells l.columns row) l.first l.end) (filter (chooses l.choice) (take l.row-index l.rows))) l.fn.out.items l.out.items
