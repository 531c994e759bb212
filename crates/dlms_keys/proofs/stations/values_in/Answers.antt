use Rattle.std.proofs.Common.{refl}
use Rattle.dlms_keys.proofs.stations.values_in.Goals as goal

pub returns-in-Some : goal.returns-in-Some
returns-in-Some c = rw (← c.in-Some.ensures) c.as_array.ensures

pub returns-in-None : goal.returns-in-None
returns-in-None c = rw (← c.in-None.ensures) refl
