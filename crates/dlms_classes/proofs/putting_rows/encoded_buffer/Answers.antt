use Rattle.std.proofs.lemmas.Result.{IfOk-weaker}
use Rattle.dlms_classes.proofs.Appending.{whole_shown, between_shown, cut_shown}
use Rattle.dlms_classes.proofs.putting_rows.encoded_buffer.Goals as goal

pub returns-in-Whole : goal.returns-in-Whole
returns-in-Whole g c = λ p picks.
    IfOk-weaker c.whole.result _ _ (λ out put. whole_shown c.args.columns.now p c.args.rows.now.items out.items (rw (← c.in-Whole.is) picks) put) c.whole.ensures

pub returns-in-Between : goal.returns-in-Between
returns-in-Between g c = λ p picks.
    IfOk-weaker c.whole-in-Between.result _ _ (λ out put. between_shown c.args.columns.now p c.in-Between.place c.in-Between.from c.in-Between.to c.args.rows.now.items out.items (rw (← c.in-Between.is) picks) put) c.whole-in-Between.ensures

pub returns-in-Cut : goal.returns-in-Cut
returns-in-Cut g c = λ p picks.
    IfOk-weaker c.cut.result _ _ (λ out put. cut_shown c.args.columns.now p c.in-Cut.first c.in-Cut.last c.in-Cut.first_col c.in-Cut.last_col c.args.rows.now.items out.items (rw (← c.in-Cut.is) picks) put) c.cut.ensures
