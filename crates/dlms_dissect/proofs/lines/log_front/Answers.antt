use Rattle.std.proofs.Common.{sym, ◌∙◌}
use native.Mathlib.Numerals.{unary_clauses}
use Rattle.dlms_dissect.proofs.LogLemmas.{ends-step}
use Rattle.dlms_dissect.proofs.lines.log_front.Goals as goal

pub loop-at-preserved : goal.loop-at-preserved
loop-at-preserved c = simp unary_clauses (sym (ends-step c.loop-at.at c.args.line.now c.loop-at-test.true c.in_default.ensures.none) ∙ c.loop-at.invariant)
