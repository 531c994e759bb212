use Rattle.dlms_apdu.specs.Reading.{response_at}
use Rattle.dlms_headend.proofs.HeardLemmas.{data_wanted}
use Rattle.dlms_headend.proofs.read_get_answer.heard.Goals as goal

pub returns-in-Err-Memory-clause-hears : goal.returns-in-Err-Memory-clause-hears
returns-in-Err-Memory-clause-hears g c = λ h. data_wanted (response_at c.args.apdu.now) c.args.taken c.args.blocks.now.joined c.wanting.result (rw c.in-Err-Memory.field-0-is at c.in-Err-Memory.ensures).exact
    (c.wanting.ensures c.args.blocks.now.joined)
