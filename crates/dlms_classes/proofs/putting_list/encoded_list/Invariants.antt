use Rattle.std.proofs.Common.{◌≡◌, ◌++◌, ◌∷◌, map, take}
use Rattle.dlms_data.specs.Writing.{all_canonical, short_length}
use Rattle.dlms_classes.specs.Table.{entry_of}
use Rattle.dlms_classes.specs.Listing.{map_values, listed}
use Rattle.dlms_classes.proofs.putting_list.encoded_list.Given as goal

-- the entries so far, after the head
abbrev pub invariant-loop-object : goal.invariant-loop-object
invariant-loop-object g l = l.out.items ≡ (1 ∷ short_length 9) ++ all_canonical (map_values (listed l.client) (map entry_of (take l.object-index l.object-items)))
