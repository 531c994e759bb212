use Rattle.std.proofs.Common.{sym, ◌∙◌}
use Rattle.dlms_dissect.proofs.LineLemmas.{pairs-blank, pairs-none, pairs-step}
use Rattle.dlms_dissect.proofs.lines.are_pairs.Goals as goal

pub pairs-preserved : goal.pairs-preserved
pairs-preserved c =
    pairs-step c.pairs.has_pair c.pairs.rest.now c.in-Some.field-0-0 c.in-Some.behind.now (sym c.in-Some.ensures.found) ∙ c.pairs.invariant

pub returns-then-has_pair : goal.returns-then-has_pair
returns-then-has_pair c =
    pairs-blank c.pairs.has_pair c.pairs.rest.now c.args.digits.now c.is_blank.result (sym c.in_default.ensures.found) c.pairs.invariant c.if-has_pair.true c.is_blank.ensures

pub returns-else-has_pair : goal.returns-else-has_pair
returns-else-has_pair c =
    pairs-none c.pairs.has_pair c.pairs.rest.now c.args.digits.now (sym c.in_default.ensures.found) c.pairs.invariant c.if-has_pair.false
