use Rattle.std.proofs.Common.{◌++◌, List, map, take, slice_range}
use Rattle.dlms_classes.specs.declared.rows.Cell.{Cell}
use Rattle.dlms_classes.specs.Shown.{Match, IsRow, cells}
use Rattle.dlms_classes.proofs.rows.put_rows.Given as goal

-- the earlier bytes, followed by the rows so far
abbrev pub invariant-loop-row : goal.invariant-loop-row
invariant-loop-row g l = (done : List (List Cell)) → Match IsRow done l.fn.items → Match IsRow (done ++ map (λ row. slice_range (cells l.columns row) l.first l.end) (take l.row-index l.rows)) l.items
