use Rattle.std.proofs.Common.{◌≡◌, None, replicate}
use Rattle.dlms_fleet.proofs.fleet.Fleet.new.Given as goal

abbrev pub invariant-loop-seat : goal.invariant-loop-seat
invariant-loop-seat g l = l.free.items ≡ replicate l._seat None
