use Rattle.std.proofs.lemmas.List.Elements.{All-push}
use Rattle.std.proofs.Common.{arith, length}
use Rattle.dlms_data.specs.View.{values_of}
use Rattle.dlms_headend.specs.declared.poll_fault.PollFault.TheVariants.{Memory}
use Rattle.dlms_headend.specs.Rows.{IsReading, NoRows}
use Rattle.dlms_headend.proofs.Values.{rows_more, no_rows-at, passed_on, filled, values_some}
use Rattle.dlms_headend.proofs.buffer.collect_rows.Goals as goal

pub loop-value-preserved : goal.loop-value-preserved
loop-value-preserved g c =
    rw c.in_ok-keep.ensures.ok (
      rows_more c.args.values.now c.loop-value.value-index c.value-item.result c.loop-value.rows.items c.in-Some.row c.loop-value-test.true c.value-item.is c.loop-value.invariant.0 c.in-Some.ensures.some,
      All-push IsReading c.loop-value.rows.items c.in-Some.row c.loop-value.invariant.1 c.in-Some.ensures.reading,
    )

pub returns-in_default-clause-err : goal.returns-in_default-clause-err
returns-in_default-clause-err g c = no_rows-at c.args.values.now c.loop-value.value-index c.value-item.result c.loop-value-test.true c.value-item.is c.in_default.ensures.none

pub returns-in_err-rows-clause-err : goal.returns-in_err-rows-clause-err
returns-in_err-rows-clause-err g c =
    let there = c.if-not-are_rows.ensures in
    passed_on c.from_residual.result Memory (NoRows (values_of c.args.values.now)) c.from_residual.ensures.1 (there.0, there.1, values_some c.args.values.now there.0 there.1 (filled (length c.args.values.now) c.in_err-rows.ensures.succeeds))

pub returns-in_err-keep-clause-err : goal.returns-in_err-keep-clause-err
returns-in_err-keep-clause-err g c =
    let there = c.if-not-are_rows.ensures in
    passed_on c.from_residual-in_err-keep.result Memory (NoRows (values_of c.args.values.now)) c.from_residual-in_err-keep.ensures.1 (there.0, there.1, values_some c.args.values.now there.0 there.1 (omega arith))
