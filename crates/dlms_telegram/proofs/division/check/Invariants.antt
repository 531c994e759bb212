use Rattle.std.proofs.Common.{◌≡◌, drop}
use Rattle.dlms_telegram.specs.Register.{after_octets}
use Rattle.dlms_telegram.proofs.division.check.Given as goal

-- the octets from the index on are still to be divided
abbrev pub invariant-loop-octet : goal.invariant-loop-octet
invariant-loop-octet l = after_octets l.register (drop l.octet-index l.octets) ≡ after_octets 0 l.octets
