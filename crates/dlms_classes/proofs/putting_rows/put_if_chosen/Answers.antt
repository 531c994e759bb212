use Rattle.std.proofs.Common.{◌∙◌, sym, slice_range}
use Rattle.std.proofs.lemmas.Result.{on_ok_weaker}
use Rattle.dlms_classes.specs.Shown.{cells}
use Rattle.dlms_classes.proofs.Appending.{chosen_put, skipped_put}
use Rattle.dlms_classes.proofs.putting_rows.put_if_chosen.Goals as goal

pub returns-then-is_chosen : goal.returns-then-is_chosen
returns-then-is_chosen g c =
    on_ok_weaker c.put_row.result
    (chosen_put (λ row. slice_range (cells c.args.columns.now row) c.args.first c.args.end) c.args.choice c.args.row.now c.args.out.now.items c.put_row.new.out.items (sym c.is_chosen.ensures ∙ c.if-is_chosen.true))
    c.put_row.ensures

pub returns-else-is_chosen : goal.returns-else-is_chosen
returns-else-is_chosen g c =
    skipped_put (λ row. slice_range (cells c.args.columns.now row) c.args.first c.args.end) c.args.choice c.args.row.now c.args.out.now.items (sym c.is_chosen.ensures ∙ c.if-is_chosen.false)
