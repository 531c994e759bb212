use Rattle.std.proofs.Common.{◌<◌}
use Rattle.dlms_pushes.proofs.port.PushPort.oldest_seat.Given as goal

abbrev pub invariant-loop-at : goal.invariant-loop-at
invariant-loop-at l = l.oldest < 256
