use Rattle.dlms_meter.proofs.HistoryOwn.{own_in_eras}
use Rattle.dlms_meter.proofs.message_laws.records_stay_own.Goals as goal

pub returns : goal.returns
returns c = own_in_eras
