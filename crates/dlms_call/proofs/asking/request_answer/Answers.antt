use Rattle.std.proofs.Common.{refl}
use Rattle.dlms_call.specs.Asking.GoesOut.{IsSettled, IsStopped}
use Rattle.dlms_call.proofs.TalkingLemmas.{settles_from}
use Rattle.dlms_call.proofs.asking.request_answer.Goals as goal

pub returns-in-Ok : goal.returns-in-Ok
returns-in-Ok g c = IsSettled _ c.settle-told.result c.in-Ok.ensures.goes (settles_from _ _ _ _ _ _ _ c.in-Ok.ensures.same c.settle-told.ensures) c.answer_in.ensures

pub returns-in-Err : goal.returns-in-Err
returns-in-Err g c = IsStopped c.in-Err.fault c.in-Err.ensures.goes refl c.in-Err.ensures.same
