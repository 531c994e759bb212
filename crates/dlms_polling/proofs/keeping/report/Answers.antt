use Rattle.std.proofs.Common.{rules, ◌≡◌, List, ℕ, subst}
use Rattle.dlms_filing.specs.Printing.{Prints}
use Rattle.dlms_polling.specs.Keeping.{left_out_line}
use Rattle.dlms_polling.proofs.PollingLemmas.{line_part}
use Rattle.dlms_polling.proofs.keeping.report.Goals as goal

pub returns-in_err-print : goal.returns-in_err-print
returns-in_err-print g c =
    line_part (g.E.Output.printed c.args.errors.now) (g.E.Output.printed c.print.new.self) (left_out_line c.args.count c.args.first) c.as_bytes.result.now c.from_residual-in_err-print.result c.in_err-print.field-0.0
    c.from_residual-in_err-print.ensures.1 (search rules) c.in_err-print.ensures

pub returns : goal.returns
returns g c =
    let same : c.as_bytes.result.now ≡ left_out_line c.args.count c.args.first = search rules in
    subst (λ (line : List ℕ). Prints (g.E.Output.printed c.args.errors.now) (g.E.Output.printed c.print.new.self) line) same c.in_ok-print.ensures
