use Rattle.std.proofs.Common.{◌≡◌, ◌++◌, ◌∷◌, length, take}
use Rattle.std.specs.List.{enumerate_from}
use Rattle.dlms_data.specs.Writing.{all_canonical, short_length}
use Rattle.dlms_classes.specs.Listing.{map_values, listed_method}
use Rattle.dlms_classes.proofs.putting_list.put_methods.Given as goal

-- the entries so far, after the head
abbrev pub invariant-loop-i : goal.invariant-loop-i
invariant-loop-i g l = l.out.items ≡ (l.fn.out.items ++ 1 ∷ short_length (length l.methods)) ++ all_canonical (map_values (listed_method l.client) (enumerate_from 1 (take l.i l.methods)))
