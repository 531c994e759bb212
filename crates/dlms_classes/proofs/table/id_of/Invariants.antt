use Rattle.std.proofs.Common.{◌≡◌, map, drop}
use Rattle.std.specs.Prelude.{◌==◌, ◌&&◌}
use Rattle.std.specs.List.{position_from}
use Rattle.std.specs.Str.{bytes_eq}
use Rattle.dlms_classes.specs.Table.{entry_of, id_of}
use Rattle.dlms_classes.proofs.table.id_of.Given as goal

-- it is among the objects still to come
abbrev pub invariant-loop-id : goal.invariant-loop-id
invariant-loop-id l = id_of l.class l.name ≡ position_from (λ o. (o.class == l.class) && bytes_eq o.name l.name) l.id (map entry_of (drop l.id l.object-items))
