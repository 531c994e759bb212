use Rattle.std.proofs.Common.{◌∙◌, ap}
use Rattle.dlms_classes.specs.Table.{object_of_column}
use Rattle.dlms_classes.specs.Shown.{column_value}
use Rattle.dlms_classes.proofs.Listed.{values_more}
use Rattle.dlms_classes.proofs.showing.columns_of.Goals as goal

pub loop-id-preserved : goal.loop-id-preserved
loop-id-preserved g c =
    values_more (λ id. column_value (object_of_column id)) c.args.columns.now c.loop-id.id-index 0 c.loop-id.items c.push.new.self _ c.loop-id-test.true c.in_ok-push.ensures.ok
    (c.in_ok-column_of.ensures ∙ ap column_value c.object_of_column.ensures) c.loop-id.invariant
