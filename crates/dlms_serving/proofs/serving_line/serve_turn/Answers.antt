use Rattle.std.proofs.Common.{refl, ap}
use Rattle.dlms_serving.specs.Connection.{timed}
use Rattle.dlms_serving.specs.ServingLine.{LineGone, MeterFails}
use Rattle.dlms_lines.specs.declared.fault.FieldFault.TheVariants.{Other}
use Rattle.dlms_serving.proofs.CallLemmas.{connection_made, joined, linked_made}
use Rattle.dlms_serving.proofs.LineLemmas.{turn_lasts}
use Rattle.dlms_serving.proofs.serving_line.serve_turn.Goals as goal

pub returns-in-Err-clause-serves : goal.returns-in-Err-clause-serves
returns-in-Err-clause-serves g c = MeterFails c.hang_up.new.meter (timed c.talk.new.meter c.talk.new.self.ticks) c.in-Err.fault (Other c.in-Err.fault) c.hang_up.ensures.hangs_up c.in-Err.ensures refl

pub returns-in-Err-clause-calls : goal.returns-in-Err-clause-calls
returns-in-Err-clause-calls g c = joined c.args.rules.carrier _ _ _ (linked_made c.args.rules.carrier _ _ c.hang_up.ensures.calls) (connection_made _ _ _ _ _ _ _ _ _ _ c.talk.ensures)

pub returns-in-Some-clause-serves : goal.returns-in-Some-clause-serves
returns-in-Some-clause-serves g c =
    LineGone c.hang_up.new.meter c.hang_up-2.new.meter (timed c.talk.new.meter c.talk.new.self.ticks) c.in-Ok.ending c.in-Some.fault c.hang_up.ensures.hangs_up c.in-Ok.ensures c.hang_up-2.ensures.hangs_up c.in-Some.ensures

pub returns-in-Some-clause-calls : goal.returns-in-Some-clause-calls
returns-in-Some-clause-calls g c = joined c.args.rules.carrier _ _ _ (linked_made c.args.rules.carrier _ _ c.hang_up.ensures.calls) (joined c.args.rules.carrier _ _ _ (connection_made _ _ _ _ _ _ _ _ _ _ c.talk.ensures) (linked_made c.args.rules.carrier _ _ c.hang_up-2.ensures.calls))

pub returns-in-None-clause-serves : goal.returns-in-None-clause-serves
returns-in-None-clause-serves g c =
    turn_lasts c.args.device.now c.args.rules (g.T.End.past c.args.line.now) (g.T.End.past c.talk.new.stream) (g.W.Watch.seen c.args.server.now.watch) (g.W.Watch.seen c.talk.new.self.watch) (g.W.Watch.seen c.tell.new.server.watch)
    (g.W.Watch.seen c.rest.new.watch) c.args.meter.now c.hang_up.new.meter c.talk.new.meter c.hang_up-2.new.meter c.args.server.now.ticks c.talk.new.self.ticks c.tell.new.server.ticks c.in-Ok.ending c.hang_up.ensures.hangs_up
    c.in-Ok.ensures c.hang_up-2.ensures.hangs_up c.in-None.ensures c.tell.ensures.ticks (ap g.W.Watch.seen c.tell.ensures.watch) c.rest.ensures

pub returns-in-None-clause-calls : goal.returns-in-None-clause-calls
returns-in-None-clause-calls g c = joined c.args.rules.carrier _ _ _ (linked_made c.args.rules.carrier _ _ c.hang_up.ensures.calls) (joined c.args.rules.carrier _ _ _ (connection_made _ _ _ _ _ _ _ _ _ _ c.talk.ensures) (linked_made c.args.rules.carrier _ _ c.hang_up-2.ensures.calls))
