use Rattle.dlms_meter.proofs.HistoryOwn.{request_once}
use Rattle.dlms_meter.proofs.message_laws.one_outcome.Goals as goal

pub returns : goal.returns
returns c = request_once
