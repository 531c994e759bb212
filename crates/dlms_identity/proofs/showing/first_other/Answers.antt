use Rattle.std.proofs.Common.{arith, ap, refl, ◌<◌, length, Bool, Ok, Err, true, false}
use Rattle.dlms_identity.specs.Showing.ShowAll.{ShowsNone}
use Rattle.dlms_identity.proofs.Lemmas.{one_more, other_at, up_to}
use Rattle.dlms_identity.proofs.showing.first_other.Goals as goal

pub loop-one-init : goal.loop-one-init
loop-one-init g c = ShowsNone

pub returns-in-Ok-false : goal.returns-in-Ok-false
returns-in-Ok-false g c =
    let lt : c.loop-one.one-index < length c.args.expected.now = omega (arith, c.loop-one-test.true, c.loop-one.auto.one-index-end) in
    other_at _ _ _ _ _ c.args.expected.now c.loop-one.one-index _ (Ok c.in-Ok-false.field-0) lt c.loop-one.invariant c.again.ensures (ap (λ (b : Bool). Ok b) c.in-Ok-false.field-0-test) c.in-Ok-false.ensures

pub returns-in-Err : goal.returns-in-Err
returns-in-Err g c =
    let lt : c.loop-one.one-index < length c.args.expected.now = omega (arith, c.loop-one-test.true, c.loop-one.auto.one-index-end) in
    up_to _ _ _ _ _ c.args.expected.now c.loop-one.one-index _ (Err c.in-Err.fault) (Err c.in-Err.fault) lt c.loop-one.invariant c.again.ensures refl c.in-Err.ensures

pub loop-one-preserved : goal.loop-one-preserved
loop-one-preserved g c =
    let lt : c.loop-one.one-index < length c.args.expected.now = omega (arith, c.loop-one-test.true, c.loop-one.auto.one-index-end) in
    one_more _ _ _ _ _ c.args.expected.now c.loop-one.one-index _ (Ok c.in-Ok-true.field-0) lt c.loop-one.invariant c.again.ensures (ap (λ (b : Bool). Ok b) c.in-Ok-true.field-0-test) c.in-Ok-true.ensures
