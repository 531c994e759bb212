use Rattle.std.proofs.Common.{◌∙◌, ap, ◌+◌, ◌++◌, ◌∷◌, ℕ, List, slice_range, arith}
use Rattle.dlms_data.specs.Writing.{short_length}
use Rattle.dlms_classes.specs.Shown.{cells}
use Rattle.dlms_classes.proofs.Appending.{few_of_both, tables_put}
use Rattle.dlms_classes.proofs.putting_rows.table.Goals as goal

pub overflow_add-count : goal.overflow_add-count
overflow_add-count g c =
    omega (arith, few_of_both c.args.choice c.args.older.now c.args.newer.now c.count_chosen.result c.count_chosen-2.result c.count_chosen.ensures c.count_chosen-2.ensures c.requires.few)

pub overflow_cast-count : goal.overflow_cast-count
overflow_cast-count g c =
    omega (arith, few_of_both c.args.choice c.args.older.now c.args.newer.now c.count_chosen.result c.count_chosen-2.result c.count_chosen.ensures c.count_chosen-2.ensures c.requires.few)

pub returns : goal.returns
returns g c =
    tables_put (λ row. slice_range (cells c.args.columns.now row) c.args.first c.args.end) c.args.choice c.args.older.now c.args.newer.now c.count_chosen.result c.count_chosen-2.result
    c.put_count.new.out.items c.put_rows.new.out.items c.put_rows-2.new.out.items c.count_chosen.ensures c.count_chosen-2.ensures (c.in_ok-put_count.ensures ∙ ap (λ (l : List ℕ). l ++ 1 ∷ short_length (c.count_chosen.result + c.count_chosen-2.result)) c.in_ok-out.ensures.items)
    c.in_ok-put_rows.ensures c.in_ok-put_rows-2.ensures
