use Rattle.std.proofs.Common.{refl}
use Rattle.dlms_ends.specs.PollEnds.Listens.{IsQuiet, ReadFails}
use Rattle.dlms_ends.proofs.CallingLemmas.{room, room_of}
use Rattle.dlms_ends.proofs.MomentLemmas.{came_as, quiet_as}
use Rattle.dlms_ends.proofs.PollEndLemmas.{came_in, floods}
use Rattle.dlms_ends.proofs.poll_end.PollEnd.listen.Goals as goal

pub returns-in-Err : goal.returns-in-Err
returns-in-Err g c = ReadFails c.in-Err.error c.from.result c.in-Err.ensures.past c.from.ensures c.lose.ensures.left c.lose.ensures.lost

pub returns-in-Ok-Silence : goal.returns-in-Ok-Silence
returns-in-Ok-Silence g c = IsQuiet _ (quiet_as _ _ _ _ c.in-Ok-Silence.field-0-is c.in-Ok-Silence.ensures.past) c.repeat.ensures.left c.repeat.ensures.told

pub returns-then-not-counts : goal.returns-then-not-counts
returns-then-not-counts g c =
    let more = c.counts.ensures.more c.if-not-counts.true in
    floods _ _ _ _ _ _ (came_as _ _ _ c.hear.new.piece _ c.in-Ok-Bytes.count c.in-Ok-Bytes.field-0-is refl c.in-Ok-Bytes.ensures.past)
    (room _ c.hear.new.piece c.in-Ok-Bytes.count c.in-Ok-Bytes.field-0-is c.in-Ok-Bytes.ensures.fits c.hear.array_long) more.0 more.1

pub returns-else-not-counts : goal.returns-else-not-counts
returns-else-not-counts g c =
    let counted = c.counts.ensures.counted c.if-not-counts.false in
    came_in _ _ _ _ _ _ _ _ _ (came_as _ _ _ c.hear.new.piece _ c.in-Ok-Bytes.count c.in-Ok-Bytes.field-0-is c.bytes_of.ensures c.in-Ok-Bytes.ensures.past)
    (room_of _ c.hear.new.piece _ c.in-Ok-Bytes.count c.in-Ok-Bytes.field-0-is c.in-Ok-Bytes.ensures.fits c.hear.array_long c.bytes_of.ensures) counted.0 counted.1 c.take.ensures.left c.take.ensures.piece
