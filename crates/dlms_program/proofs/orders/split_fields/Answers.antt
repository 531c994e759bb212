use Rattle.dlms_program.proofs.NumberLemmas.{no_space-more}
use Rattle.dlms_program.proofs.orders.split_fields.Goals as goal

pub loop-at-preserved : goal.loop-at-preserved
loop-at-preserved c = no_space-more c.args.fields.now c.loop-at.at c.loop-at-test.true c.loop-at.invariant c.if-byte-eq32.false
