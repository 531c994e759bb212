use Rattle.dlms_data.proofs.WholeLaws.{reads_what_is_spelled}
use Rattle.dlms_data.proofs.laws.reads_what_is_spelled.Goals as goal

pub returns : goal.returns
returns c = reads_what_is_spelled
