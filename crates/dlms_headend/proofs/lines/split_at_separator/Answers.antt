use Rattle.dlms_headend.proofs.Fields.{lacks-more}
use Rattle.dlms_headend.proofs.lines.split_at_separator.Goals as goal

pub loop-at-preserved : goal.loop-at-preserved
loop-at-preserved c = lacks-more c.args.separator c.args.bytes.now c.loop-at.at c.loop-at-test.true c.loop-at.invariant c.if-byte-separator.false
