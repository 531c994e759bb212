use Rattle.std.proofs.Common.{rules, IfNone, sym, subst}
use Rattle.dlms_telegram.specs.Telegram.{IsNone}
use Rattle.dlms_telegram.proofs.SplitLemmas.{without_mark, without_end}
use Rattle.dlms_telegram.proofs.reader.read_telegram.Goals as goal

pub returns-in_err-text-clause-none : goal.returns-in_err-text-clause-none
returns-in_err-text-clause-none c =
    subst (λ r. IfNone r (IsNone c.args.octets.now)) (sym c.from_residual.ensures) (without_mark c.args.octets.now c.in_err-text.ensures.none)

pub returns-in_err-is_checked-clause-none : goal.returns-in_err-is_checked-clause-none
returns-in_err-is_checked-clause-none c =
    subst (λ r. IfNone r (IsNone c.args.octets.now)) (sym c.from_residual-in_err-is_checked.ensures)
    (without_end c.args.octets.now c.in_ok-text.text.now c.in_ok-text.tail.now c.in_ok-text.ensures.some (search rules))
