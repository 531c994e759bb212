use Rattle.std.proofs.Common.{rules, ◌+◌, IsTrue, arith}
use Rattle.dlms_serving.proofs.TellingLemmas.{one_told}
use Rattle.dlms_serving.proofs.telling.look.Goals as goal

pub returns-then-not-goes_on : goal.returns-then-not-goes_on
returns-then-not-goes_on g c = (
  c.loop-told._told + 1,
  one_told c.loop-told._told c.args.ticks.now c.loop-told.ticks c.next.new.self c.args.meter.now c.loop-told.meter c.tell-last.new.meter c.in-Some.second c.loop-told.last c.tell-last.result
      c.loop-told.invariant.told c.loop-told.invariant.goes c.in-Some.ensures.next c.tell-last.ensures,
  omega arith,
  λ goes few. let passes : IsTrue c.goes_on.result = c.goes_on.ensures.1 goes in absurd (search rules),
)

pub loop-told-preserved : goal.loop-told-preserved
loop-told-preserved g c = record {
  told = one_told c.loop-told._told c.args.ticks.now c.loop-told.ticks c.next.new.self c.args.meter.now c.loop-told.meter c.tell-last.new.meter c.in-Some.second c.loop-told.last c.tell-last.result
      c.loop-told.invariant.told c.loop-told.invariant.goes c.in-Some.ensures.next c.tell-last.ensures;
  goes = c.goes_on.ensures.0 (search rules);
}
