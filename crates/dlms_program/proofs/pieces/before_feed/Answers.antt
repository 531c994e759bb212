use Rattle.std.proofs.Common.{arith, le_refl, length}
use Rattle.dlms_program.proofs.PieceLemmas.{no_feed_before}
use Rattle.dlms_program.proofs.pieces.before_feed.Goals as goal

pub returns-in-Some-clause-none : goal.returns-in-Some-clause-none
returns-in-Some-clause-none c = no_feed_before c.args.bytes.now c.in-Some.at c.in-Some.ensures.0.before (omega (arith, c.in-Some.ensures.0.high))

pub returns-in-None-clause-none : goal.returns-in-None-clause-none
returns-in-None-clause-none c = no_feed_before c.args.bytes.now (length c.args.bytes.now) c.in-None.ensures (le_refl _)
