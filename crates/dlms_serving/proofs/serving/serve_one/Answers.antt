use Rattle.dlms_serving.specs.Connection.{timed}
use Rattle.dlms_serving.specs.Serving.{Stopped}
use Rattle.dlms_serving.proofs.CallLemmas.{joined, linked_made, visit_made}
use Rattle.dlms_serving.proofs.ServeLemmas.{served}
use Rattle.dlms_serving.proofs.serving.serve_one.Goals as goal

pub returns-in-Err-clause-serves : goal.returns-in-Err-clause-serves
returns-in-Err-clause-serves g c = Stopped c.hang_up.new.meter (timed c.visit.new.meter c.visit.new.server.ticks) c.in-Err.fault c.hang_up.ensures.hangs_up c.in-Err.ensures

pub returns-in-Err-clause-calls : goal.returns-in-Err-clause-calls
returns-in-Err-clause-calls g c = joined c.args.rules.carrier _ _ _ (linked_made c.args.rules.carrier _ _ c.hang_up.ensures.calls) (visit_made _ _ _ _ _ _ _ _ c.visit.ensures)

pub returns-clause-serves : goal.returns-clause-serves
returns-clause-serves g c =
    served c.args.rules c.args.peer.address (g.W.Watch.seen c.args.server.now.watch) (g.W.Watch.seen c.visit.new.server.watch) (g.W.Watch.seen c.close.new.server.watch) c.args.meter.now c.hang_up.new.meter c.visit.new.meter c.hang_up-2.new.meter
    c.args.server.now.ticks c.visit.new.server.ticks c.close.new.server.ticks c.in-Ok.ending c.close.result c.hang_up.ensures.hangs_up c.in-Ok.ensures c.hang_up-2.ensures.hangs_up c.close.ensures.closes c.close.ensures.ticks

pub returns-clause-calls : goal.returns-clause-calls
returns-clause-calls g c = joined c.args.rules.carrier _ _ _ (linked_made c.args.rules.carrier _ _ c.hang_up.ensures.calls) (joined c.args.rules.carrier _ _ _ (visit_made _ _ _ _ _ _ _ _ c.visit.ensures) (linked_made c.args.rules.carrier _ _ c.hang_up-2.ensures.calls))
