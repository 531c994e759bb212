use Rattle.std.proofs.Common.{◌∙◌}
use Rattle.dlms_loopback.proofs.RoundLemmas.{prints_part}
use Rattle.dlms_loopback.proofs.rounds.print.Goals as goal

pub returns-in_err-print : goal.returns-in_err-print
returns-in_err-print g c =
    prints_part (g.O.Output.printed c.args.output.now) (g.O.Output.printed c.print.new.self) c.args.readings.now c.as_bytes.result.now c.from_residual-in_err-print.result c.in_err-print.field-0.0
    c.from_residual-in_err-print.ensures.1 (c.as_bytes.ensures.value ∙ c.in_ok-text.ensures.text.spelled) c.in_err-print.ensures
