use Rattle.std.proofs.Common.{refl, sym, subst}
use Rattle.std.specs.Prelude.{Some}
use Rattle.dlms_program.specs.declared.orders.Order.{Order}
use Rattle.dlms_program.specs.declared.orders.Order.TheVariants.{Moment, Pulses, Show}
use Rattle.dlms_program.specs.Replay.{Did, Obeyed}
use Rattle.dlms_program.proofs.PutLemmas.{either_way, written_line}
use Rattle.dlms_program.proofs.ReplayLemmas.{moment_did, pulses_did, show_did, silence_told, skip_told, told_all, told_part}
use Rattle.dlms_program.proofs.replaying.obey.Goals as goal

pub returns-in-Skip-clause-lines : goal.returns-in-Skip-clause-lines
returns-in-Skip-clause-lines g c honest w at =
    let contents = g.W.Sink.contents in
    subst (λ (order : Order). Did honest (contents c.args.writer.now) (contents c.args.writer.now) w c.args.bytes.now order (Some c.args.meter.now) (Some c.args.meter.now)) (sym c.in-Skip.is)
    (skip_told (contents c.args.writer.now) c.args.meter.now c.args.bytes.now honest w at)

pub returns-in-Pulses-clause-lines : goal.returns-in-Pulses-clause-lines
returns-in-Pulses-clause-lines g c honest w at =
    let contents = g.W.Sink.contents in
    let did = pulses_did c.args.meter.now c.pulses.new.self c.args.bytes.now c.in-Pulses.channel c.in-Pulses.count c.pulses.result (c.pulses.ensures.judges, c.pulses.ensures.later) honest w at in
    subst (λ (order : Order). Obeyed honest (contents c.args.writer.now) (contents c.answer.new.writer) w c.args.bytes.now order c.answer.result (Some c.args.meter.now) (Some c.pulses.new.self)) (sym c.in-Pulses.is)
    (either_way (contents c.args.writer.now) (contents c.answer.new.writer) _ c.answer.result c.answer.ensures.bytes
    (told_all _ _ honest w c.args.bytes.now (Pulses c.in-Pulses.channel c.in-Pulses.count) c.args.meter.now c.pulses.new.self did)
    (told_part _ _ honest w c.args.bytes.now (Pulses c.in-Pulses.channel c.in-Pulses.count) c.args.meter.now c.pulses.new.self (λ w' told does. ((refl, does), (λ h. h), λ h. h)) did))

pub returns-in-Moment-clause-lines : goal.returns-in-Moment-clause-lines
returns-in-Moment-clause-lines g c honest w at =
    let contents = g.W.Sink.contents in
    let did = moment_did c.args.meter.now c.moment.new.self c.args.bytes.now c.in-Moment.second c.moment.result (c.moment.ensures.judges, c.moment.ensures.later) honest w at in
    subst (λ (order : Order). Obeyed honest (contents c.args.writer.now) (contents c.answer-in-Moment.new.writer) w c.args.bytes.now order c.answer-in-Moment.result (Some c.args.meter.now) (Some c.moment.new.self)) (sym c.in-Moment.is)
    (either_way (contents c.args.writer.now) (contents c.answer-in-Moment.new.writer) _ c.answer-in-Moment.result c.answer-in-Moment.ensures.bytes
    (told_all _ _ honest w c.args.bytes.now (Moment c.in-Moment.second) c.args.meter.now c.moment.new.self did)
    (told_part _ _ honest w c.args.bytes.now (Moment c.in-Moment.second) c.args.meter.now c.moment.new.self (λ w' told does. ((refl, does), (λ h. h), λ h. h)) did))

pub returns-in-Silence-clause-lines : goal.returns-in-Silence-clause-lines
returns-in-Silence-clause-lines g c honest w at =
    let contents = g.W.Sink.contents in
    subst (λ (order : Order). Did honest (contents c.args.writer.now) (contents c.args.writer.now) w c.args.bytes.now order (Some c.args.meter.now) (Some c.idle.new.self)) (sym c.in-Silence.is)
    (silence_told (contents c.args.writer.now) c.args.meter.now c.idle.new.self c.args.bytes.now c.idle.ensures.run c.idle.ensures.store honest w at)

pub returns-in-Show-clause-lines : goal.returns-in-Show-clause-lines
returns-in-Show-clause-lines g c honest w at =
    let contents = g.W.Sink.contents in
    let did = show_did c.args.meter.now c.args.bytes.now _ c.state.ensures honest w at in
    subst (λ (order : Order). Obeyed honest (contents c.args.writer.now) (contents c.tell.new.writer) w c.args.bytes.now order c.tell.result (Some c.args.meter.now) (Some c.args.meter.now)) (sym c.in-Show.is)
    (either_way (contents c.args.writer.now) (contents c.tell.new.writer) _ c.tell.result (written_line _ _ _ _ c.tell.result c.state_text.ensures c.tell.ensures.bytes)
    (told_all _ _ honest w c.args.bytes.now Show c.args.meter.now c.args.meter.now did)
    (told_part _ _ honest w c.args.bytes.now Show c.args.meter.now c.args.meter.now (λ w' told does. ((refl, does), (λ h. h), λ h. h)) did))
