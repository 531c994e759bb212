use Rattle.dlms_text.proofs.ValueLemmas.{none_signed}
use Rattle.dlms_text.proofs.value.with_sign.Goals as goal

pub returns-in_err-number-clause-none : goal.returns-in_err-number-clause-none
returns-in_err-number-clause-none g c = none_signed c.from_residual.result c.args.kind c.args.text.now c.in_err-number.ensures.none
