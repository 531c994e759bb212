use Rattle.std.proofs.Common.{◌≡◌, ◌-◌}
use Rattle.dlms_capture.specs.Packets.{after_extensions}
use Rattle.dlms_capture.proofs.packet.after_extensions.Given as goal

-- what is after the headers that are left is what is after all
abbrev pub invariant-loop : goal.invariant-loop
invariant-loop l = after_extensions (8 - l.counter) l.protocol l.carried ≡ after_extensions 8 l.fn.protocol l.fn.octets
