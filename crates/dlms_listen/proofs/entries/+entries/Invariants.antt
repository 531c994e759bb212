use Rattle.std.proofs.Common.{◌+◌, ◌*◌}
use Rattle.dlms_listen.proofs.entries.+entries.Given as goal

abbrev pub decreases-add_entry : goal.decreases-add_entry
decreases-add_entry g l = 2 * l.room

abbrev pub decreases-add_items : goal.decreases-add_items
decreases-add_items g l = 2 * l.room + 1
