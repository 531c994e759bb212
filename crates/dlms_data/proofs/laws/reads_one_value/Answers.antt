use Rattle.dlms_data.proofs.WholeLaws.{reads_one_value}
use Rattle.dlms_data.proofs.laws.reads_one_value.Goals as goal

pub returns : goal.returns
returns c = reads_one_value
