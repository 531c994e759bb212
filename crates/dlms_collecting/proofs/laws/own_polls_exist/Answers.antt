use Rattle.dlms_collecting.proofs.OwnRun.{own_polls_exist}
use Rattle.dlms_collecting.proofs.laws.own_polls_exist.Goals as goal

pub returns : goal.returns
returns c = own_polls_exist
