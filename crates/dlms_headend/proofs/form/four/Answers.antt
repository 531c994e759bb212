use Rattle.std.proofs.Common.{sym}
use Rattle.dlms_headend.proofs.Forms.{four_found, nothing_left}
use Rattle.dlms_headend.proofs.form.four.Goals as goal

pub returns : goal.returns
returns c = λ vs stand.
    let f1 = c.in-Some.ensures.first vs stand in
    let f2 = c.in-Some-front.ensures.first f1.others f1.behind in
    let f3 = c.in-Some-front-2.ensures.first f2.others f2.behind in
    let f4 = c.in-Some-front-3.ensures.first f3.others f3.behind in
    four_found vs _ _ _ _ _ _ _ _ f1 f2 f3 f4 (nothing_left _ (sym c.if-not-is_empty.ensures))
