use Rattle.std.proofs.Common.{◌∷◌, [], ap, length}
use Rattle.dlms_data.specs.Writing.{short_length}
use Rattle.dlms_classes.specs.Shown.{column_value}
use Rattle.dlms_classes.specs.Table.{object_of_column, entry_of}
use Rattle.dlms_classes.proofs.Appending.{values_put, all_valued}
use Rattle.dlms_classes.proofs.putting_list.encoded_columns.Goals as goal

pub loop-id-preserved : goal.loop-id-preserved
loop-id-preserved g c =
    values_put (λ id. column_value (object_of_column id)) c.args.columns.now c.loop-id.id-index 0 (1 ∷ short_length (length c.args.columns.now)) c.loop-id.out.items c.put_column.new.out.items
    (column_value (entry_of c.object_of_column.result)) c.loop-id-test.true (ap column_value c.object_of_column.ensures) c.loop-id.invariant c.in_ok-put_column.ensures

pub returns : goal.returns
returns g c = all_valued (λ id. column_value (object_of_column id)) c.args.columns.now c.loop-id.id-index [] c.loop-id.out.items c.loop-id-test.false c.loop-id.invariant
