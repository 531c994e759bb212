use Rattle.std.proofs.Common.{◌+◌, ◌*◌}
use Rattle.dlms_printing.proofs.typed.+typed.Given as goal

abbrev pub decreases-put_items : goal.decreases-put_items
decreases-put_items g l = 2 * l.room

abbrev pub decreases-put_open : goal.decreases-put_open
decreases-put_open g l = 2 * l.room + 1
