use Rattle.dlms_meter.proofs.HistoryLemmas.{none_is_taken_back}
use Rattle.dlms_meter.proofs.message_laws.nothing_is_taken_back.Goals as goal

pub returns : goal.returns
returns c = none_is_taken_back
