use Rattle.std.proofs.Common.{refl}
use Rattle.dlms_call.specs.Asking.EndsTalk.{IsEnded}
use Rattle.dlms_call.specs.Asking.GoesOut.{IsSettled, IsStopped}
use Rattle.dlms_call.proofs.TalkingLemmas.{settles_from}
use Rattle.dlms_call.proofs.asking.end.Goals as goal

pub returns-in-Ok : goal.returns-in-Ok
returns-in-Ok g c =
    IsEnded (c.is_free.ensures.0 c.if-not-is_free.false) c.disconnect.result c.disconnect.new.self c.in_default.not-Down c.disconnect.ensures.leaves c.disconnect.ensures.left
    (IsSettled _ c.settle-told.result c.in-Ok.ensures.goes (settles_from _ _ _ _ _ _ _ c.in-Ok.ensures.same c.settle-told.ensures) c.release_result.ensures)

pub returns-in-Err : goal.returns-in-Err
returns-in-Err g c =
    IsEnded (c.is_free.ensures.0 c.if-not-is_free.false) c.disconnect.result c.disconnect.new.self c.in_default.not-Down c.disconnect.ensures.leaves c.disconnect.ensures.left
    (IsStopped c.in-Err.fault c.in-Err.ensures.goes refl c.in-Err.ensures.same)
