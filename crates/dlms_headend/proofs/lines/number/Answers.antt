use Rattle.std.proofs.Common.{sym}
use Rattle.dlms_headend.proofs.Fields.{decimal_is_text, number_some, number_none, not_plain}
use Rattle.dlms_headend.proofs.lines.number.Goals as goal

pub returns-in_default-clause-none : goal.returns-in_default-clause-none
returns-in_default-clause-none c = λ n fits e. c.in_default.ensures.cases.0 (decimal_is_text c.args.digits.now n fits e)

pub returns-clause-some : goal.returns-clause-some
returns-clause-some c = number_some c.in-Ok.text.now c.args.digits.now c.parse.result c.ok.result c.in-Ok.ensures.cases.0 (sym c.if-not-is_plain.ensures) c.parse.ensures.value.0 c.ok.ensures.value

pub returns-clause-none : goal.returns-clause-none
returns-clause-none c = number_none c.in-Ok.text.now c.args.digits.now c.parse.result c.ok.result c.in-Ok.ensures.cases.0 (sym c.if-not-is_plain.ensures) c.parse.ensures.value.0 c.ok.ensures.value

pub returns-then-not-is_plain-clause-none : goal.returns-then-not-is_plain-clause-none
returns-then-not-is_plain-clause-none c = λ n fits e. not_plain c.args.digits.now (sym c.if-not-is_plain.ensures) n fits e
