use Rattle.dlms_serving.specs.Connection.{timed}
use Rattle.dlms_serving.specs.Serving.{Prepared, Unprepared}
use Rattle.dlms_serving.proofs.serving.visit.Goals as goal

pub returns-in-Ok : goal.returns-in-Ok
returns-in-Ok g c = Prepared (g.W.Watch.seen c.prepare.new.self) _ _ c.talk.result (timed c.talk.new.meter c.talk.new.self.ticks) c.in-Ok.ensures c.talk.ensures

pub returns-in-Err : goal.returns-in-Err
returns-in-Err g c = Unprepared c.in-Err.error c.in-Err.ensures
