use Rattle.std.proofs.Common.{refl, subst, List}
use Rattle.std.specs.Prelude.{IfErr, IfOk}
use Rattle.dlms_headend.specs.declared.row.Row.{Row}
use Rattle.dlms_polling.specs.Keeping.{FilesNone, FilesPolled}
use Rattle.dlms_polling.specs.Polled.{Known, NotReady, readings_of}
use Rattle.dlms_polling.specs.Ways.{IsDoneBy, Way, way_of}
use Rattle.dlms_polling.proofs.PolledLemmas.{not_called, polls_so}
use Rattle.dlms_polling.proofs.polling.poll.Goals as goal

pub returns-in-Err : goal.returns-in-Err
returns-in-Err g c = NotReady c.in-Err.ensures.fails refl refl (refl, refl)

pub returns-in-Err-call_meter : goal.returns-in-Err-call_meter
returns-in-Err-call_meter g c =
    let ready = c.in-Ok.ready in
    let before : Known = record { seen = g.D.Timer.seen c.args.setup.now.inputs; given = g.G.Guards.given c.args.setup.now.guards; asked = g.F.Filing.asked c.args.setup.now.place; past = g.L.End.past c.args.setup.now.line; printed = g.O.Output.printed c.args.output.now; errors = g.E.Output.printed c.args.errors.now } in
    let after : Known = record { seen = g.D.Timer.seen c.call_meter.new.inputs; given = g.G.Guards.given c.call_meter.new.guards; asked = g.F.Filing.asked c.prepare_poll.new.place; past = g.L.End.past c.call_meter.new.line; printed = g.O.Output.printed c.args.output.now; errors = g.E.Output.printed c.args.errors.now } in
    not_called c.args.polling.now before after _ ready.readings ready.limit (g.D.Timer.seen c.prepare_poll.new.inputs) (way_of c.way_after-way.result) c.in-Err-call_meter.fault c.in-Ok.ensures.ready c.way_after-way.ensures.way c.in-Err-call_meter.ensures.fails (refl, refl)

pub returns : goal.returns
returns g c =
    let ready = c.in-Ok.ready in
    let before : Known = record { seen = g.D.Timer.seen c.args.setup.now.inputs; given = g.G.Guards.given c.args.setup.now.guards; asked = g.F.Filing.asked c.args.setup.now.place; past = g.L.End.past c.args.setup.now.line; printed = g.O.Output.printed c.args.output.now; errors = g.E.Output.printed c.args.errors.now } in
    let after : Known = record { seen = g.D.Timer.seen c.call_meter.new.inputs; given = g.G.Guards.given c.call_meter.new.guards; asked = g.F.Filing.asked c.file_readings.new.place; past = g.L.End.past c.call_meter.new.line; printed = g.O.Output.printed c.file_readings.new.output; errors = g.E.Output.printed c.file_readings.new.errors } in
    let asked = g.F.Filing.asked c.prepare_poll.new.place in
    let done = c.in-Ok-call_meter.done in
    polls_so c.args.polling.now before after _ ready.readings ready.limit (g.D.Timer.seen c.prepare_poll.new.inputs) asked (way_of c.way_after-way.result) done c.in-Ok.ensures.ready c.way_after-way.ensures.way c.in-Ok-call_meter.ensures.takes.0 c.in-Ok-call_meter.ensures.takes.1 (subst (λ (way : Way). IsDoneBy way done) c.way_after-way.ensures.way c.in-Ok-call_meter.ensures.done) c.file_readings.result
    (subst (λ (rs : List Row). IfOk c.file_readings.result (λ _. FilesPolled asked after.asked before.printed after.printed before.errors after.errors ready.readings rs)) c.rows.ensures.rows c.file_readings.ensures.files)
    (subst (λ (rs : List Row). IfErr c.file_readings.result (FilesNone (readings_of c.args.polling.now) asked after.asked before.printed after.printed before.errors after.errors ready.readings rs)) c.rows.ensures.rows c.file_readings.ensures.fails)
