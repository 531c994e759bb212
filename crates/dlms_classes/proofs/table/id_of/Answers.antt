use Rattle.std.proofs.Common.{◌∙◌, sym}
use Rattle.std.specs.Prelude.{◌==◌, ◌&&◌}
use Rattle.std.specs.Str.{bytes_eq}
use Rattle.dlms_classes.specs.Table.{entry_of}
use Rattle.dlms_classes.proofs.Listed.{passed_over}
use Rattle.dlms_classes.proofs.table.id_of.Goals as goal

pub loop-id-preserved : goal.loop-id-preserved
loop-id-preserved c =
    passed_over (λ o. (o.class == c.args.class) && bytes_eq o.name c.args.name.now) entry_of _ c.loop-id.id _ _ c.loop-id-test.true (sym c.is_named.ensures ∙ c.if-is_named.false) c.loop-id.invariant
