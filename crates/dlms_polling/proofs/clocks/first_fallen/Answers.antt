use Rattle.std.proofs.Common.{arith}
use Rattle.dlms_polling.proofs.ClockLemmas.{fallen_at, rises_more}
use Rattle.dlms_polling.proofs.clocks.first_fallen.Goals as goal

pub loop-at-init : goal.loop-at-init
loop-at-init c = λ k other under. absurd (omega (arith, under))

pub returns-then-rows-at-clause-some : goal.returns-then-rows-at-clause-some
returns-then-rows-at-clause-some c = fallen_at c.args.rows.now c.loop-at.at _ c.loop-at.auto.at c.loop-at-test.true c.loop-at.invariant c.if-rows-at.true

pub loop-at-preserved : goal.loop-at-preserved
loop-at-preserved c = rises_more c.args.rows.now c.loop-at.at _ c.loop-at.auto.at c.loop-at-test.true c.loop-at.invariant c.if-rows-at.false

pub returns-clause-none : goal.returns-clause-none
returns-clause-none c = λ k other under. c.loop-at.invariant k other (omega (arith, under, c.loop-at-test.false))
