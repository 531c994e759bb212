use Rattle.dlms_data.proofs.WholeLaws.{reads_what_was_written}
use Rattle.dlms_data.proofs.laws.reads_what_was_written.Goals as goal

pub returns : goal.returns
returns c = reads_what_was_written
