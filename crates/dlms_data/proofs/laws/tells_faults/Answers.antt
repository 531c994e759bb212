use Rattle.dlms_data.proofs.Faulty.{tells_faults}
use Rattle.dlms_data.proofs.laws.tells_faults.Goals as goal

pub returns : goal.returns
returns c = tells_faults
