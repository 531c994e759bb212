use Rattle.dlms_meter.proofs.LifeLaw.{no_further_stop}
use Rattle.dlms_meter.proofs.laws.no_further_stop_matters.Goals as goal

pub returns : goal.returns
returns c = no_further_stop
