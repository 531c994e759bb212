use Rattle.std.proofs.Common.{◌≡◌, ◌++◌, filter, take}
use Rattle.dlms_headend.specs.Merged.{is_added}
use Rattle.dlms_headend.proofs.readings.append.Given as goal

abbrev pub invariant-loop-row : goal.invariant-loop-row
invariant-loop-row g l = l.rows.items ≡ l.fn.rows.items ++ filter (is_added l.last) (take l.row-index l.given)
