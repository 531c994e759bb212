use Rattle.std.proofs.Common.{◌≡◌, ◌++◌, ◌∷◌, length, take}
use Rattle.dlms_data.specs.Writing.{all_canonical, short_length}
use Rattle.dlms_classes.specs.Listing.{map_values}
use Rattle.dlms_classes.specs.Shown.{column_value}
use Rattle.dlms_classes.specs.Table.{object_of_column}
use Rattle.dlms_classes.proofs.putting_list.encoded_columns.Given as goal

-- the columns so far, after the head
abbrev pub invariant-loop-id : goal.invariant-loop-id
invariant-loop-id g l = l.out.items ≡ (1 ∷ short_length (length l.columns)) ++ all_canonical (map_values (λ id. column_value (object_of_column id)) (take l.id-index l.columns))
