use Rattle.dlms_headend.proofs.Forms.{named_row, unnamed_row}
use Rattle.dlms_headend.proofs.form.is_row.Goals as goal

pub returns-in-Some-secs : goal.returns-in-Some-secs
returns-in-Some-secs c = λ v h. let f = c.in-Some.ensures v h in named_row v _ f.0 c.in-Some-secs.field-0 f.1 c.in-Some-secs.ensures.some

pub returns-in-None : goal.returns-in-None
returns-in-None c = λ v h. let f = c.in-Some.ensures v h in unnamed_row v _ f.0 f.1 c.in-None.ensures.none
