use Rattle.std.proofs.Common.{map, take}
use Rattle.toml.specs.View.{view}
use Rattle.dlms_keys.specs.Keyring.{SayStations}
use Rattle.dlms_keys.proofs.stations.stations_of.Given as goal

abbrev pub invariant-loop-i : goal.invariant-loop-i
invariant-loop-i l = SayStations (map view (take l.i l.values)) l.stations.items
