use Rattle.std.proofs.Common.{rules, IsTrue, [], arith}
use Rattle.dlms_polling.proofs.ClockLemmas.{ahead_at, in_time_more}
use Rattle.dlms_headend.specs.declared.row.Row.{Row}
use Rattle.dlms_polling.proofs.clocks.first_ahead.Goals as goal

pub returns-then-is_ahead-clause-some : goal.returns-then-is_ahead-clause-some
returns-then-is_ahead-clause-some c = ahead_at c.args.now c.args.margin c.args.rows.now c.loop-at.at _ c.loop-at-test.true c.loop-at.invariant (c.is_ahead.ensures.0 c.if-is_ahead.true)

pub loop-at-preserved : goal.loop-at-preserved
loop-at-preserved c =
    let known : Row = record { clock = 0; registers = [] } in
    in_time_more c.args.now c.args.margin c.args.rows.now c.loop-at.at known c.loop-at-test.true c.loop-at.invariant
    (λ ahead. let told : IsTrue c.is_ahead.result = c.is_ahead.ensures.1 ahead in absurd (search rules))

pub returns-clause-none : goal.returns-clause-none
returns-clause-none c = λ k other under. c.loop-at.invariant k other (omega (arith, under, c.loop-at-test.false))
