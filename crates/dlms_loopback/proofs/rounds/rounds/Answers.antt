use Rattle.dlms_loopback.specs.declared.rounds.TheConstants.{SECRET}
use Rattle.dlms_loopback.proofs.RoundLemmas.{all_rounds, first_fails, first_round, next_round, round_fails, stop_fails}
use Rattle.dlms_loopback.proofs.rounds.rounds.Goals as goal

pub returns-in_err-poll_once : goal.returns-in_err-poll_once
returns-in_err-poll_once g c = first_fails SECRET.now c.args.stops _ _ c.args.meter c.poll_once.new.meter _ _ _ _ c.in_err-poll_once.field-0.0 c.from_residual.result c.from_residual.ensures.1 c.in_err-poll_once.ensures

pub stops-init : goal.stops-init
stops-init g c = first_round SECRET.now _ _ c.args.meter c.poll_once.new.meter _ _ _ _ c.in_ok-poll_once.ensures

pub returns-in_err-meter : goal.returns-in_err-meter
returns-in_err-meter g c =
    stop_fails c.args.meter SECRET.now c.args.stops _ _ c.stops.meter _ _ _ _ c.stops.round c.in_err-meter.field-0.0 c.from_residual-in_err-meter.result c.from_residual-in_err-meter.ensures.1 c.stops-test.true
    c.stops.invariant c.in_err-meter.ensures

pub returns-in_err-poll_once-2 : goal.returns-in_err-poll_once-2
returns-in_err-poll_once-2 g c =
    round_fails c.args.meter SECRET.now c.args.stops _ _ _ c.stops.meter c.in_ok-meter.meter c.poll_once-in-stops.new.meter _ _ _ _ _ _ c.stops.round c.in_err-poll_once-2.field-0.0 c.from_residual-in_err-poll_once-2.result
    c.from_residual-in_err-poll_once-2.ensures.1 c.stops-test.true c.stops.invariant c.in_ok-meter.ensures c.in_err-poll_once-2.ensures

pub stops-preserved : goal.stops-preserved
stops-preserved g c = next_round c.args.meter SECRET.now _ _ _ c.stops.meter c.in_ok-meter.meter c.poll_once-in-stops.new.meter _ _ _ _ _ _ c.stops.round c.stops.invariant c.in_ok-meter.ensures c.in_ok-poll_once-2.ensures

pub returns : goal.returns
returns g c = all_rounds c.args.meter SECRET.now c.args.stops _ _ c.stops.meter _ _ _ _ c.stops.round c.stops.auto.round-end c.stops-test.false c.stops.invariant
