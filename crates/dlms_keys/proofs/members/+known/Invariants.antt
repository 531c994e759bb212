use Rattle.std.proofs.Common.{length}
use Rattle.dlms_keys.proofs.members.+known.Given as goal

abbrev pub decreases-known : goal.decreases-known
decreases-known l = length l.settings.now
