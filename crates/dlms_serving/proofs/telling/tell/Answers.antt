use Rattle.std.proofs.Common.{◌<◌, refl, arith}
use Rattle.dlms_serving.proofs.telling.tell.Goals as goal

pub returns-then-second-eq0 : goal.returns-then-second-eq0
returns-then-second-eq0 g c = (λ _. (c.moment.ensures.judges, c.moment.ensures.later), λ (some : 0 < c.args.second.pulses). absurd (omega arith))

pub returns-in-Ok : goal.returns-in-Ok
returns-in-Ok g c = (λ none. absurd (c.if-second-eq0.false none), λ _. (c.pulses.result, c.pulses.new.self, (c.pulses.ensures.judges, c.pulses.ensures.later), rw c.in-Ok.is (c.moment-in-Ok.ensures.judges, c.moment-in-Ok.ensures.later)))

pub returns-in-Err : goal.returns-in-Err
returns-in-Err g c = (λ none. absurd (c.if-second-eq0.false none), λ _. (c.pulses.result, c.pulses.new.self, (c.pulses.ensures.judges, c.pulses.ensures.later), rw c.in-Err.is (refl, refl)))
