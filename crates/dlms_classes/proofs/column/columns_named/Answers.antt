use Rattle.dlms_classes.proofs.Naming.{named_more}
use Rattle.dlms_classes.proofs.column.columns_named.Goals as goal

pub loop-item-preserved : goal.loop-item-preserved
loop-item-preserved g c =
    named_more c.args.items.now c.loop-item.item-index c.item-item.result c.loop-item.fit c.push_column-fit.result c.loop-item.ids.items c.push_column-fit.new.ids.items c.in_ok-id.id _ c.loop-item-test.true
    c.item-item.is c.in_ok-id.ensures c.push_column-fit.ensures.place c.push_column-fit.ensures.pushed c.loop-item.invariant
