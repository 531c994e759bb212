use Rattle.std.proofs.Common.{[], ◌∷◌, ◌++◌}
use Rattle.dlms_headend.proofs.Values.{rows_more, no_rows-at}
use Rattle.dlms_headend.proofs.buffer.are_rows.Goals as goal

pub loop-value-init : goal.loop-value-init
loop-value-init g c = ([], tt)

pub loop-value-preserved : goal.loop-value-preserved
loop-value-preserved g c = (
  c.loop-value.invariant.0 ++ c.in-Some.field-0 ∷ [],
  rows_more c.args.values.now c.loop-value.value-index c.value-item.result c.loop-value.invariant.0 c.in-Some.field-0 c.loop-value-test.true c.value-item.is c.loop-value.invariant.1 c.in-Some.ensures.some,
)

pub returns-in_default : goal.returns-in_default
returns-in_default g c = no_rows-at c.args.values.now c.loop-value.value-index c.value-item.result c.loop-value-test.true c.value-item.is c.in_default.ensures.none
