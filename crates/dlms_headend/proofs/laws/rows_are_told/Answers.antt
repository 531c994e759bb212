use Rattle.dlms_headend.proofs.Told.{polled_told}
use Rattle.dlms_headend.proofs.laws.rows_are_told.Goals as goal

pub returns : goal.returns
returns c = polled_told
