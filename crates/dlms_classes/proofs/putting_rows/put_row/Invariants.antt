use Rattle.std.proofs.Common.{◌++◌, ◌∷◌, ◌-◌, slice_range}
use Rattle.dlms_data.specs.Writing.{short_length}
use Rattle.dlms_classes.specs.Encoded.{ArePut}
use Rattle.dlms_classes.specs.Shown.{IsCell, cells}
use Rattle.dlms_classes.proofs.putting_rows.put_row.Given as goal

-- the fields so far, after the head
abbrev pub invariant-loop-i : goal.invariant-loop-i
invariant-loop-i g l = ArePut IsCell (slice_range (cells l.columns l.row) l.first l.i) (l.fn.out.items ++ 2 ∷ short_length (l.end - l.first)) l.out.items
