use Rattle.std.proofs.Common.{refl}
use Rattle.dlms_telegram.specs.Check.{check_of}
use Rattle.dlms_telegram.proofs.laws.known_check.Goals as goal

pub returns : goal.returns
unfolding check_of
returns c = refl
