use Rattle.std.proofs.Common.{◌≡◌, map, take}
use Rattle.dlms_web.specs.Stations.{station_in}
use Rattle.dlms_web.proofs.keys.stations_of.Given as goal

abbrev pub invariant-loop-part : goal.invariant-loop-part
invariant-loop-part l = l.stations.items ≡ map station_in (take l.part-index l.parts)
