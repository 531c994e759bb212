use Rattle.std.proofs.Common.{slice_range}
use Rattle.dlms_classes.specs.Shown.{Match, IsCell, cells}
use Rattle.dlms_classes.proofs.rows.row_of.Given as goal

-- the values so far show the fields so far
abbrev pub invariant-loop-i : goal.invariant-loop-i
invariant-loop-i g l = Match IsCell (slice_range (cells l.columns l.row) l.first l.i) l.items
