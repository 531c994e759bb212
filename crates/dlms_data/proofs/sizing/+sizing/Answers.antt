use Rattle.std.proofs.Common.{arith}
use Rattle.dlms_data.proofs.Sizes.{size_none}
use Rattle.dlms_data.proofs.sizing.+sizing.Goals as goal

pub size_all-returns : goal.size_all-returns
size_all-returns g t c =
    let none_left = size_none c.args.sources.values.now c.loop-item.item-index c.loop-item-test.false in
    omega (arith, none_left, c.loop-item.invariant.counted, c.loop-item.invariant.bounded)
