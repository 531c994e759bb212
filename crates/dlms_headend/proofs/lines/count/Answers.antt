use Rattle.dlms_headend.proofs.Files.{read_more}
use Rattle.dlms_headend.proofs.lines.count.Goals as goal

pub loop-rest-preserved : goal.loop-rest-preserved
loop-rest-preserved c = read_more c.args.text.now c.loop-rest.rest.now c.in-Some.behind.now c.loop-rest.count c.in-Some.field-0-0 c.loop-rest.invariant c.in-Some.ensures.some c.in-Some.ensures.shorter
