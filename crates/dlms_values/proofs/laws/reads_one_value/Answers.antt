use Rattle.dlms_values.proofs.WholeLaws.{reads_one_value}
use Rattle.dlms_values.proofs.laws.reads_one_value.Goals as goal

pub returns : goal.returns
returns c = reads_one_value
