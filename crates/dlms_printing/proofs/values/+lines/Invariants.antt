use Rattle.std.proofs.Common.{◌+◌, ◌*◌}
use Rattle.dlms_printing.proofs.values.+lines.Given as goal

abbrev pub decreases-tell_items : goal.decreases-tell_items
decreases-tell_items g l = 2 * l.room

abbrev pub decreases-tell_tree : goal.decreases-tell_tree
decreases-tell_tree g l = 2 * l.room + 1
