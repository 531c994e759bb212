use Rattle.std.proofs.Common.{◌+◌, ◌*◌}
use Rattle.dlms_explain.proofs.data_text.+veiled.Given as goal

abbrev pub decreases-write_veiled_items : goal.decreases-write_veiled_items
decreases-write_veiled_items g l = 2 * l.room

abbrev pub decreases-write_veiled_tree : goal.decreases-write_veiled_tree
decreases-write_veiled_tree g l = 2 * l.room + 1
