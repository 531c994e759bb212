use Rattle.std.proofs.Common.{◌≡◌, map, drop, find}
use Rattle.std.specs.Str.{bytes_eq}
use Rattle.dlms_classes.specs.Table.{entry_of}
use Rattle.dlms_classes.specs.Access.{object_named}
use Rattle.dlms_classes.proofs.lookup.object_with.Given as goal

-- it is among the objects still to come
abbrev pub invariant-loop-object : goal.invariant-loop-object
invariant-loop-object l = object_named l.name ≡ find (λ o. bytes_eq o.name l.name) (map entry_of (drop l.object-index l.object-items))
