use Rattle.dlms_text.proofs.entry.class_if_named.Goals as goal

pub returns-in_err-entry-clause-none : goal.returns-in_err-entry-clause-none
returns-in_err-entry-clause-none g c = rw c.from_residual.ensures (c.in_err-entry.ensures.none c.args.name)
