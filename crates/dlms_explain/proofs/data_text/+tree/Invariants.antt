use Rattle.std.proofs.Common.{◌+◌, ◌*◌}
use Rattle.dlms_explain.proofs.data_text.+tree.Given as goal

abbrev pub decreases-write_items : goal.decreases-write_items
decreases-write_items g l = 2 * l.room

abbrev pub decreases-write_tree : goal.decreases-write_tree
decreases-write_tree g l = 2 * l.room + 1
