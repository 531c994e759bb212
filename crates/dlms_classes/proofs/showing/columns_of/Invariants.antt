use Rattle.std.proofs.Common.{◌≡◌, take}
use Rattle.dlms_classes.specs.Table.{object_of_column}
use Rattle.dlms_classes.specs.Listing.{map_values}
use Rattle.dlms_classes.specs.Shown.{column_value}
use Rattle.dlms_classes.proofs.showing.columns_of.Given as goal

-- the columns so far
abbrev pub invariant-loop-id : goal.invariant-loop-id
invariant-loop-id g l = l.items ≡ map_values (λ id. column_value (object_of_column id)) (take l.id-index l.columns)
