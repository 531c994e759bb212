use Rattle.dlms_headend.proofs.HeardLemmas.{last_heard}
use Rattle.dlms_headend.proofs.read_get_answer.block.Goals as goal

pub returns-in-Ok-true-clause-hears : goal.returns-in-Ok-true-clause-hears
returns-in-Ok-true-clause-hears g c = λ taken invoke h.
    last_heard taken invoke c.args.number c.args.blocks.now c.more.new.self c.args.last c.in-Ok-true.field-0 c.args.raw.now c.bytes.result.now c.last_block.result h c.in-Ok-true.field-0-test
    c.in-Ok-true.ensures.ok.0 c.in-Ok-true.ensures.ok.1 c.in-Ok-true.ensures.ok.2 c.bytes.ensures c.last_block.ensures.hears
