use Rattle.std.proofs.Common.{[], ◌∷◌}
use Rattle.dlms_state.specs.declared.event.Event.TheVariants.{Pulses, Moment}
use Rattle.dlms_loopback.proofs.StopLemmas.{took_more, took_none, takes_part}
use Rattle.dlms_loopback.proofs.rounds.start.Goals as goal

pub returns-in_err-pulses : goal.returns-in_err-pulses
returns-in_err-pulses c =
    takes_part c.args.meter.now c.args.meter.now c.pulses.new.self [] (Pulses 0 42) (Moment 900 ∷ Moment 1800 ∷ []) c.in_err-pulses.field-0.0 c.from_residual.result c.from_residual.ensures.1
    (took_none c.args.meter.now) c.in_err-pulses.ensures.judges

pub returns-in_err-moment : goal.returns-in_err-moment
returns-in_err-moment c =
    takes_part c.args.meter.now c.pulses.new.self c.moment.new.self (Pulses 0 42 ∷ []) (Moment 900) (Moment 1800 ∷ []) c.in_err-moment.field-0.0 c.from_residual-in_err-moment.result c.from_residual-in_err-moment.ensures.1
    (took_more c.args.meter.now c.args.meter.now c.pulses.new.self [] (Pulses 0 42) (took_none c.args.meter.now) c.in_ok-pulses.ensures.judges) c.in_err-moment.ensures.judges

pub returns-in_err-moment-2 : goal.returns-in_err-moment-2
returns-in_err-moment-2 c =
    let one = took_more c.args.meter.now c.args.meter.now c.pulses.new.self [] (Pulses 0 42) (took_none c.args.meter.now) c.in_ok-pulses.ensures.judges in
    let two = took_more c.args.meter.now c.pulses.new.self c.moment.new.self (Pulses 0 42 ∷ []) (Moment 900) one c.in_ok-moment.ensures.judges in
    takes_part c.args.meter.now c.moment.new.self c.moment-2.new.self (Pulses 0 42 ∷ Moment 900 ∷ []) (Moment 1800) [] c.in_err-moment-2.field-0.0 c.from_residual-in_err-moment-2.result
    c.from_residual-in_err-moment-2.ensures.1 two c.in_err-moment-2.ensures.judges

pub returns : goal.returns
returns c =
    let one = took_more c.args.meter.now c.args.meter.now c.pulses.new.self [] (Pulses 0 42) (took_none c.args.meter.now) c.in_ok-pulses.ensures.judges in
    let two = took_more c.args.meter.now c.pulses.new.self c.moment.new.self (Pulses 0 42 ∷ []) (Moment 900) one c.in_ok-moment.ensures.judges in
    took_more c.args.meter.now c.moment.new.self c.moment-2.new.self (Pulses 0 42 ∷ Moment 900 ∷ []) (Moment 1800) two c.in_ok-moment-2.ensures.judges
