use Rattle.std.proofs.Common.{[], ◌∷◌, ◌+◌, ◌*◌, ℕ, subst}
use Rattle.std.specs.Prelude.{Err, Ok}
use Rattle.dlms_meter.specs.Run.{Judges}
use Rattle.dlms_state.specs.declared.event.Event.TheVariants.{Pulses, Moment}
use Rattle.dlms_loopback.proofs.StopLemmas.{took_more, took_none, takes_part}
use Rattle.dlms_loopback.proofs.rounds.go_on.Goals as goal

pub returns-in_err-pulses : goal.returns-in_err-pulses
returns-in_err-pulses c =
    takes_part c.args.meter.now c.args.meter.now c.pulses.new.self [] (Pulses 0 1) (Moment ((2 + c.args.round) * 900) ∷ []) c.in_err-pulses.field-0.0 c.from_residual.result c.from_residual.ensures.1
    (took_none c.args.meter.now) c.in_err-pulses.ensures.judges

pub returns-in_err-moment : goal.returns-in_err-moment
returns-in_err-moment c =
    takes_part c.args.meter.now c.pulses.new.self c.moment.new.self (Pulses 0 1 ∷ []) (Moment ((2 + c.args.round) * 900)) [] c.in_err-moment.field-0.0 c.from_residual-in_err-moment.result
    c.from_residual-in_err-moment.ensures.1 (took_more c.args.meter.now c.args.meter.now c.pulses.new.self [] (Pulses 0 1) (took_none c.args.meter.now) c.in_ok-pulses.ensures.judges)
    (subst (λ (n : ℕ). Judges c.pulses.new.self (Moment ((2 + n) * 900)) (Err c.in_err-moment.field-0.0) c.moment.new.self) c.from.ensures c.in_err-moment.ensures.judges)

pub returns : goal.returns
returns c =
    let one = took_more c.args.meter.now c.args.meter.now c.pulses.new.self [] (Pulses 0 1) (took_none c.args.meter.now) c.in_ok-pulses.ensures.judges in
    took_more c.args.meter.now c.pulses.new.self c.moment.new.self (Pulses 0 1 ∷ []) (Moment ((2 + c.args.round) * 900)) one
    (subst (λ (n : ℕ). Judges c.pulses.new.self (Moment ((2 + n) * 900)) (Ok tt) c.moment.new.self) c.from.ensures c.in_ok-moment.ensures.judges)
