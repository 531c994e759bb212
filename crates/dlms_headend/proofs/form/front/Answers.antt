use Rattle.dlms_headend.proofs.Forms.{first_found, same_length, is_shorter}
use Rattle.dlms_headend.proofs.form.front.Goals as goal

pub returns-in-Ok-clause-first : goal.returns-in-Ok-clause-first
returns-in-Ok-clause-first c = λ vs stand.
    rw c.split_at.ensures.front (rw c.split_at.ensures.back
    (first_found vs c.args.bytes.now c.in-Ok.len stand c.in-Ok.ensures.found (λ v text rest h e. same_length c.span.result c.in-Ok.len _ c.in-Ok.is (c.span.ensures.only v text rest h e))))

pub returns-in-Ok-clause-shorter : goal.returns-in-Ok-clause-shorter
returns-in-Ok-clause-shorter c = rw c.split_at.ensures.back (is_shorter c.args.bytes.now c.in-Ok.len c.in-Ok.ensures.within c.in-Ok.ensures.found)
