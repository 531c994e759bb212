use Rattle.std.proofs.Common.{rules}
use Rattle.dlms_text.proofs.ValueLemmas.{worded_fails}
use Rattle.dlms_text.proofs.value.value_of.Goals as goal

pub returns-clause-err : goal.returns-clause-err
returns-clause-err g c = worded_fails c.worded.result c.args.now c.args.text.now (search rules) (search rules) c.worded.ensures.err
