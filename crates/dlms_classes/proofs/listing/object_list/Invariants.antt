use Rattle.std.proofs.Common.{◌≡◌, map, take}
use Rattle.dlms_classes.specs.Table.{entry_of}
use Rattle.dlms_classes.specs.Listing.{map_values, listed}
use Rattle.dlms_classes.proofs.listing.object_list.Given as goal

-- the entries so far
abbrev pub invariant-loop-object : goal.invariant-loop-object
invariant-loop-object g l = l.items ≡ map_values (listed l.client) (map entry_of (take l.object-index l.object-items))
