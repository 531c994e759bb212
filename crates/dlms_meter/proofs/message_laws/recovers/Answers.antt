use Rattle.dlms_meter.proofs.HistoryLemmas.{recovers_in_eras}
use Rattle.dlms_meter.proofs.message_laws.recovers.Goals as goal

pub returns : goal.returns
returns c = recovers_in_eras
