use Rattle.std.proofs.Common.{◌≡◌, take}
use Rattle.std.specs.List.{enumerate_from}
use Rattle.dlms_classes.specs.Listing.{map_values, listed_method}
use Rattle.dlms_classes.proofs.listing.listed_methods.Given as goal

-- the entries so far
abbrev pub invariant-loop-i : goal.invariant-loop-i
invariant-loop-i g l = l.items ≡ map_values (listed_method l.client) (enumerate_from 1 (take l.i l.methods))
