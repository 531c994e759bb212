use Rattle.std.proofs.Common.{ap, length, arith}
use Rattle.dlms_checkpoint.proofs.Bodies.{held_bytes}
use Rattle.dlms_checkpoint.proofs.reading.Restoring.awaited.Goals as goal

pub present_of-present-requires-clause-long : goal.present_of-present-requires-clause-long
present_of-present-requires-clause-long c =
    omega (arith, (held_bytes c.self.inside.version c.self.inside.bytes.items c.self.invariant).long, ap length c.as_slice.ensures.value)

pub present_of-present-requires-clause-room : goal.present_of-present-requires-clause-room
present_of-present-requires-clause-room c =
    omega (arith, (held_bytes c.self.inside.version c.self.inside.bytes.items c.self.invariant).room, ap length c.as_slice.ensures.value)
