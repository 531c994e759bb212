use Rattle.dlms_headend.proofs.Fields.{no_field, field_parts}
use Rattle.dlms_headend.proofs.lines.number_before.Goals as goal

pub returns-in_err-before-clause-none : goal.returns-in_err-before-clause-none
returns-in_err-before-clause-none c = rw c.from_residual.ensures (λ n rest fits e. no_field c.args.bytes.now n c.args.separator rest c.in_err-before.ensures.none e)

pub returns-in_err-value-clause-none : goal.returns-in_err-value-clause-none
returns-in_err-value-clause-none c = rw c.from_residual-in_err-value.ensures (λ n rest fits e.
    let parts = field_parts c.args.bytes.now c.in_ok-before.before.now c.in_ok-before.behind.now n c.args.separator rest c.requires fits c.in_ok-before.ensures.found.0 c.in_ok-before.ensures.found.1 e in
    c.in_err-value.ensures.none n fits parts.0)
