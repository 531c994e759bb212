use Rattle.dlms_headend.proofs.Files.{no_clock, no_first, no_second, no_third, late_clock}
use Rattle.dlms_headend.proofs.lines.row.Goals as goal

pub returns-in_err-clock-clause-none : goal.returns-in_err-clock-clause-none
returns-in_err-clock-clause-none c = rw c.from_residual.ensures (λ row rest h. no_clock c.args.bytes.now rest row c.in_err-clock.ensures.none h)

pub returns-in_err-first-clause-none : goal.returns-in_err-first-clause-none
returns-in_err-first-clause-none c = rw c.from_residual-in_err-first.ensures (λ row rest h.
    no_first c.args.bytes.now c.in_ok-clock.rest.now rest c.in_ok-clock.clock row c.in_ok-clock.ensures.some.1 c.in_ok-clock.ensures.some.0 c.in_err-first.ensures.none h)

pub returns-in_err-second-clause-none : goal.returns-in_err-second-clause-none
returns-in_err-second-clause-none c = rw c.from_residual-in_err-second.ensures (λ row rest h.
    no_second c.args.bytes.now c.in_ok-clock.rest.now c.in_ok-first.rest.now rest c.in_ok-clock.clock c.in_ok-first.first row c.in_ok-clock.ensures.some.1 c.in_ok-first.ensures.some.1
    c.in_ok-clock.ensures.some.0 c.in_ok-first.ensures.some.0 c.in_err-second.ensures.none h)

pub returns-in_err-third-clause-none : goal.returns-in_err-third-clause-none
returns-in_err-third-clause-none c = rw c.from_residual-in_err-third.ensures (λ row rest h.
    no_third c.args.bytes.now c.in_ok-clock.rest.now c.in_ok-first.rest.now c.in_ok-second.rest.now rest c.in_ok-clock.clock c.in_ok-first.first c.in_ok-second.second row
    c.in_ok-clock.ensures.some.1 c.in_ok-first.ensures.some.1 c.in_ok-second.ensures.some.1 c.in_ok-clock.ensures.some.0 c.in_ok-first.ensures.some.0 c.in_ok-second.ensures.some.0
    c.in_err-third.ensures.none h)

pub returns-then-clock-gt-LAST_SECOND-clause-none : goal.returns-then-clock-gt-LAST_SECOND-clause-none
returns-then-clock-gt-LAST_SECOND-clause-none c = λ row rest h.
    late_clock c.args.bytes.now c.in_ok-clock.rest.now rest c.in_ok-clock.clock row c.in_ok-clock.ensures.some.1 c.in_ok-clock.ensures.some.0 c.if-clock-gt-LAST_SECOND.true h
