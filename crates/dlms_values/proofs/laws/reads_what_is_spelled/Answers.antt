use Rattle.dlms_values.proofs.WholeLaws.{reads_what_is_spelled}
use Rattle.dlms_values.proofs.laws.reads_what_is_spelled.Goals as goal

pub returns : goal.returns
returns c = reads_what_is_spelled
