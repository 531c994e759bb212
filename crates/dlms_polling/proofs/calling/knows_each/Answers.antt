use Rattle.std.proofs.Common.{arith, ◌<◌, length}
use Rattle.dlms_polling.specs.Calling.{aim_of}
use Rattle.dlms_polling.specs.Calling.KnowsEach.{NoText}
use Rattle.dlms_polling.specs.Ways.{way_of}
use Rattle.dlms_polling.proofs.PreparingLemmas.{not_in_time, not_renewed, not_shown, one_more}
use Rattle.dlms_polling.proofs.calling.knows_each.Goals as goal

pub loop-one-init : goal.loop-one-init
loop-one-init g c = NoText

pub returns-in-Err : goal.returns-in-Err
returns-in-Err g c =
    let lt : c.loop-one.one-index < length c.args.polling.now.expected.now = omega (arith, c.loop-one-test.true, c.loop-one.auto.one-index-end) in
    not_shown (aim_of c.args.polling.now (way_of c.args.way.now)) _ _ _ _ _ c.loop-one.one-index _ c.from_ref.result.now c.in-Err.fault lt c.loop-one.invariant c.from_ref.ensures.value c.in-Err.ensures

pub returns-in-Ok-false : goal.returns-in-Ok-false
returns-in-Ok-false g c =
    let lt : c.loop-one.one-index < length c.args.polling.now.expected.now = omega (arith, c.loop-one-test.true, c.loop-one.auto.one-index-end) in
    not_in_time (aim_of c.args.polling.now (way_of c.args.way.now)) _ _ _ _ _ _ _ c.loop-one.one-index _ c.from_ref.result.now tt c.in-Ok-false.field-0 lt c.loop-one.invariant c.from_ref.ensures.value c.in-Ok.ensures c.in-Ok-false.ensures c.in-Ok-false.field-0-test

pub returns-in-Err-renew : goal.returns-in-Err-renew
returns-in-Err-renew g c =
    let lt : c.loop-one.one-index < length c.args.polling.now.expected.now = omega (arith, c.loop-one-test.true, c.loop-one.auto.one-index-end) in
    not_renewed (aim_of c.args.polling.now (way_of c.args.way.now)) _ _ _ _ _ _ _ c.loop-one.one-index _ c.from_ref.result.now tt c.in-Err-renew.fault lt c.loop-one.invariant c.from_ref.ensures.value c.in-Ok.ensures c.in-Err-renew.ensures

pub loop-one-preserved : goal.loop-one-preserved
loop-one-preserved g c =
    let lt : c.loop-one.one-index < length c.args.polling.now.expected.now = omega (arith, c.loop-one-test.true, c.loop-one.auto.one-index-end) in
    one_more (aim_of c.args.polling.now (way_of c.args.way.now)) _ _ _ _ _ _ _ c.loop-one.one-index _ c.from_ref.result.now tt c.in-Ok-true.field-0 lt c.loop-one.invariant c.from_ref.ensures.value c.in-Ok.ensures c.in-Ok-true.ensures c.in-Ok-true.field-0-test
